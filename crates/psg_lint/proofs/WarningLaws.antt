-- The warnings of names, one after the other.
use Rattle.std.proofs.Common.{◌≡◌, ℕ, ◌+◌, ◌<◌, List, [], ◌∷◌, ◌++◌, length, take, get_or, refl, ap, ap₂, sym, ◌∙◌, append_assoc}
use Rattle.std.specs.Prelude.{codes}
use Rattle.psg_terms.proofs.Lists.{take_item}
use Rattle.psg_grammar.specs.declared.types.Definition.{Definition}
use Rattle.psg_recover.specs.declared.finding.Finding.{Finding}
use Rattle.psg_recover.specs.Findings.{warning_at}
use Rattle.psg_recover.specs.TextPlaces.{Read, name_byte}
use Rattle.psg_uses.specs.declared.names.Written.{Written}
use Rattle.psg_lint.specs.Warnings.{warnings}

module _ (def : Definition) (r : Read) where
  warnings-append : (xs ys : List Written) → warnings def r (xs ++ ys) ≡ warnings def r xs ++ warnings def r ys
  warnings-append [] ys = refl
  warnings-append (x ∷ xs) ys =
      ap (λ l. warning_at (name_byte def r x.path x.number) (x.name ++ codes " is not declared") ∷ l) (warnings-append xs ys)

  pub warned : (names : List Written) (i : ℕ) (w : Written) (old now next : List Finding) (told : Finding) → i < length names → w ≡ get_or names i w
      → told ∷ [] ≡ warnings def r (w ∷ []) → now ≡ old ++ warnings def r (take i names) → next ≡ now ++ told ∷ []
      → next ≡ old ++ warnings def r (take (i + 1) names)
  warned names i w old now next told lt at t h n =
      n ∙ ap₂ (λ a b. a ++ b) h t ∙ append_assoc old (warnings def r (take i names)) (warnings def r (w ∷ []))
      ∙ ap (λ l. old ++ l) (sym (warnings-append (take i names) (w ∷ [])) ∙ ap (warnings def r) (sym (take_item names i w lt at)))
