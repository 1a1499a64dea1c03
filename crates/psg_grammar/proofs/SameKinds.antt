-- Kinds are the same where both are phyla or both are lists, of one number.
use Rattle.std.proofs.Common.{◌≡◌, ◌↔◌, ℕ, ◌==◌, Bool, true, false, eqb-true, eq-eqb, true≢false, sym, ap, ◌∙◌}
use Rattle.psg_grammar.specs.declared.types.Kind.{Kind}
use Rattle.psg_grammar.specs.declared.types.Kind.TheVariants as kinds

abbrev number_of : Kind → ℕ
number_of (kinds.Phylum p) = p
number_of (kinds.List l) = l

abbrev is_list : Kind → Bool
is_list (kinds.Phylum p) = false
is_list (kinds.List l) = true

pub two_phyla : (a b : Kind) (n m : ℕ) → a ≡ kinds.Phylum n → b ≡ kinds.Phylum m → ((n == m) ≡ true) ↔ (a ≡ b)
two_phyla a b n m e g = (
  λ h. e ∙ ap kinds.Phylum (eqb-true n m h) ∙ sym g,
  λ s. eq-eqb n m (ap number_of (sym e ∙ s ∙ g)),
)

pub two_lists : (a b : Kind) (n m : ℕ) → a ≡ kinds.List n → b ≡ kinds.List m → ((n == m) ≡ true) ↔ (a ≡ b)
two_lists a b n m e g = (
  λ h. e ∙ ap kinds.List (eqb-true n m h) ∙ sym g,
  λ s. eq-eqb n m (ap number_of (sym e ∙ s ∙ g)),
)

pub list_apart : (a b : Kind) (n m : ℕ) → a ≡ kinds.Phylum n → b ≡ kinds.List m → a ≡ b → ⊥
list_apart a b n m e g s = true≢false (sym (ap is_list (sym e ∙ s ∙ g)))

pub phylum_apart : (a b : Kind) (n m : ℕ) → a ≡ kinds.List n → b ≡ kinds.Phylum m → a ≡ b → ⊥
phylum_apart a b n m e g s = true≢false (ap is_list (sym e ∙ s ∙ g))
