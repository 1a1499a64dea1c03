-- The hole rows of a kind.
use Rattle.std.proofs.Common.{◌≡◌, ℕ, ◌<◌, List, get_or, length, Some, slice_get, sym, ap, ◌∙◌, subst}
use Rattle.std.proofs.lemmas.Option.{slice_get_within}
use Rattle.psg_terms.proofs.Lists.{slice_get_once}
use Rattle.psg_relation.proofs.Members.{in-at}
use Rattle.psg_grammar.specs.declared.types.Kind.{Kind}
use Rattle.psg_grammar.specs.declared.types.HoleRow.{HoleRow}
use Rattle.psg_grammar.specs.declared.types.Definition.{Definition}
use Rattle.psg_covering.specs.Choices.{IsRowOf}
use Rattle.psg_covering.specs.Fronts.{AreRowsOf}

module _ (def : Definition) (kind : Kind) where
  pub number_in : (numbers : List ℕ) (rows : List HoleRow) → rows ≡ def.hole_rows → AreRowsOf def kind numbers
      → (i number : ℕ) → i < length numbers → number ≡ get_or numbers i number → number < length rows
  number_in numbers rows d are i number lt is =
      let (h, of) = are number (in-at number numbers i lt is) in
      subst (λ l. number < length l) (sym d) (slice_get_within def.hole_rows number h of.0)

  pub row_is : (numbers : List ℕ) (rows : List HoleRow) → rows ≡ def.hole_rows → AreRowsOf def kind numbers
      → (i number : ℕ) → i < length numbers → number ≡ get_or numbers i number → (row : HoleRow) → slice_get rows number ≡ Some row → IsRowOf def kind number row
  row_is numbers rows d are i number lt is row at =
      let (h, of) = are number (in-at number numbers i lt is) in
      let there : slice_get def.hole_rows number ≡ Some row = ap (λ l. slice_get l number) (sym d) ∙ at in
      (there, subst (λ (x : HoleRow). x.kind ≡ kind) (slice_get_once def.hole_rows number h row of.0 there) of.1)
