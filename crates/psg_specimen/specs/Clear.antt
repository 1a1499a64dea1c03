-- Cell rows that leave a list's value.
use Rattle.std.specs.Prelude.{ℕ, ◌≡◌, ◌⊎◌, [], ◌∷◌, Some, slice_get}
use Rattle.psg_terms.specs.Terms.{Term, variable, symbol}
use Rattle.psg_terms.specs.Instances.{IsInstance}
use Rattle.psg_terms.specs.Signature.{Signature, only_constructor}
use Rattle.psg_grammar.specs.declared.types.ListKind.{ListKind}
use Rattle.psg_grammar.specs.declared.types.Row.{Row}
use Rattle.psg_grammar.specs.declared.types.DeclareRow.{DeclareRow}
use Rattle.psg_grammar.specs.declared.types.Definition.{Definition}
use Rattle.psg_completions.specs.Elements.{IsAbsent, IsClear}

-- the value of a rest: a variable that the element's term does not have, or the constant of the list's one-constant
-- sort
abbrev pub IsRest : Signature → ℕ → Term → Term → Type 0
IsRest sig sort element rest =
    ((s : ℕ) × (n : ℕ) × (rest ≡ variable s n) × IsAbsent s n element)
    ⊎ ((c : ℕ) × (rest ≡ symbol c) × (only_constructor sig sort ≡ Some c))

-- by the cell row an element of the value leaves the value of a list of the sort
pub record IsClearBy (sig : Signature) (sort : ℕ) (row : Row) (value : Term) : Type 0 where
  pub element : Term
  pub rest : Term
  pub columns : row.columns ≡ element ∷ rest ∷ []
  pub head : row.head ≡ rest
  pub rest_is : IsRest sig sort element rest
  pub is : IsInstance (value ∷ []) (element ∷ [])

-- the condition on the value of a declare row, where its list is there
abbrev pub IsClearDeclare : Definition → DeclareRow → Type 0
IsClearDeclare def d = (list : ListKind) → slice_get def.lists d.list ≡ Some list → IsClear def list d.value
