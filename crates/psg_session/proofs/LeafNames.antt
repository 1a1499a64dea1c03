-- Which names may stand at a name position.
use Rattle.std.proofs.Common.{◌≡◌, ◌↔◌, Bool, true, false, not, true≢false, IsTrue, IsUtf8, chars, refl, sym, ◌∙◌, ap, subst}
use Rattle.std.proofs.lemmas.Bool.{false_from_ne_true}
use Rattle.std.proofs.lemmas.Str.{encodes-chars}
use Rattle.psg_terms.specs.Names.{Name, is_among}
use Rattle.psg_terms.specs.Words.{IsWord}
use Rattle.psg_grammar.specs.WellFormed.{IsName}
use Rattle.psg_specimen.specs.declared.language.LanguageParts.{LanguageParts}
use Rattle.psg_session.specs.declared.leaves.Leaf.{Leaf}
use Rattle.psg_session.specs.declared.leaves.Leaf.TheVariants as leaves
use Rattle.psg_session.specs.Leaves.{HasWord}
use Rattle.psg_session.specs.LeafItems.{IsNameLeaf}
use Rattle.psg_session.specs.Views.{plain_leaf, IsLanguage}

not_true : (b : Bool) → not b ≡ true → b ≡ true → ⊥
not_true true h e = true≢false (sym h)
not_true false h e = true≢false (sym e)

true_not : (b : Bool) → (b ≡ true → ⊥) → not b ≡ true
true_not true h = absurd (h refl)
true_not false h = refl

module _ (l : LanguageParts) (is : IsLanguage l) where
  -- a word that is not reserved
  free_name : (name : Name) (r : Bool) → IsUtf8 name → IsWord (chars name)
      → (IsTrue r ↔ (IsTrue (is_among l.lexis name) × IsWord (chars name)))
      → IsTrue (not r) ↔ IsName l.definition name
  free_name name r utf8 word reserved = (
    λ h. (
      chars name,
      sym (encodes-chars name utf8),
      word,
      ap (λ ws. is_among ws name) (sym is.words)
          ∙ false_from_ne_true (is_among l.lexis name) (λ e. not_true r h (reserved.1 (e, word))),
    ),
    λ h. true_not r (λ e. true≢false (sym (reserved.0 e).0 ∙ ap (λ ws. is_among ws name) is.words ∙ h.3)),
  )

  pub name_leaf : (leaf : Leaf) (name text : Name) (r : Bool) → leaf ≡ leaves.Name name → text ≡ name → IsUtf8 text
      → HasWord (plain_leaf leaf)
      → (IsTrue r ↔ (IsTrue (is_among l.lexis text) × IsWord (chars text)))
      → IsTrue (not r) ↔ IsNameLeaf l.definition (plain_leaf leaf)
  name_leaf leaf name text r of same utf8 word reserved =
      subst (λ x. IsTrue (not r) ↔ IsNameLeaf l.definition (plain_leaf x)) (sym of)
      (free_name name r (subst IsUtf8 same utf8) (subst (λ x. HasWord (plain_leaf x)) of word)
      (subst (λ t. IsTrue r ↔ (IsTrue (is_among l.lexis t) × IsWord (chars t))) same reserved))
