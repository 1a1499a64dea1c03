-- The elements that an unfinished list can be given, so that it declares any name with any entity and keeps its value.
use Rattle.std.specs.Prelude.{ℕ, ◌≡◌, ◌⊎◌, true, [], ◌∷◌, slice_get, Some}
use Rattle.psg_terms.specs.Terms.{Term, variable, symbol, apply}
use Rattle.psg_terms.specs.Instances.{IsInstance}
use Rattle.psg_terms.specs.Relations.{IsIn}
use Rattle.psg_terms.specs.Signature.{constructors_of, only_constructor}
use Rattle.psg_grammar.specs.declared.types.Kind.TheVariants as kinds
use Rattle.psg_grammar.specs.declared.types.ListKind.{ListKind}
use Rattle.psg_grammar.specs.declared.types.Row.{Row}
use Rattle.psg_grammar.specs.declared.types.Space.{Space}
use Rattle.psg_grammar.specs.declared.types.DeclareRow.{DeclareRow}
use Rattle.psg_grammar.specs.declared.types.Definition.{Definition}
use Rattle.psg_grammar.specs.Declaring.{is_declaring}
use Rattle.psg_grammar.specs.Regions.{declared_in}
use Rattle.psg_grammar.specs.Specimens.{tree_of}
use Rattle.psg_completions.specs.Cases.{IsOver}
use Rattle.psg_completions.specs.Counts.{count}
use Rattle.psg_completions.specs.General.{it}

-- the variable does not occur
abbrev pub IsAbsent : ℕ → ℕ → Term → Type 0
IsAbsent s n (variable r k) = ((s ≡ r) × (n ≡ k)) → ⊥
IsAbsent s n (symbol c) = Unit {0}
IsAbsent s n (apply f a) = IsAbsent s n f × IsAbsent s n a

module _ (def : Definition) where
  -- The specimen declares `$it` once in its region, in the space of the row. So it is an operator and no scope
  -- operator: a scope operator declares nothing outside, and a hole place declares nothing at all.
  abbrev pub DeclaresOnce : DeclareRow → Type 0
  DeclaresOnce d = count (it d.space) (declared_in def (tree_of d.specimen)) ≡ 1

  -- a declare row of the list and space whose term is the constructor over different variables
  pub record HasDeclareRow (l s c : ℕ) : Type 0 where
    pub number : ℕ
    pub row : DeclareRow
    pub chosen : slice_get def.declare_rows number ≡ Some row
    pub of_list : row.list ≡ l
    pub of_space : row.space ≡ s
    pub over : IsOver def.signature c row.term

  -- where the list is of the unfinished kind and declares in the space, it can declare a name with each entity that the
  -- constructor makes
  abbrev pub IsDeclarable : ℕ → ℕ → ℕ → Type 0
  IsDeclarable l s c = (list : ListKind) → slice_get def.lists l ≡ Some list → list.unfinished ≡ true
      → is_declaring def s (kinds.List l) ≡ true
      → (space : Space) → slice_get def.spaces s ≡ Some space → IsIn c (constructors_of def.signature space.sort.0)
      → HasDeclareRow l s c

  -- An element of the value in front of a list leaves the list's value: for a cell row's head and rest that are one
  -- variable, which the element's term does not have, or the constant of their one-constant sort.
  pub record IsClear (list : ListKind) (value : Term) : Type 0 where
    pub number : ℕ
    pub row : Row
    pub chosen : slice_get list.cell_rows number ≡ Some row
    pub element : Term
    pub rest : Term
    pub columns : row.columns ≡ element ∷ rest ∷ []
    pub head : row.head ≡ rest
    pub rest_is : ((s : ℕ) × (n : ℕ) × (rest ≡ variable s n) × IsAbsent s n element)
        ⊎ ((c : ℕ) × (rest ≡ symbol c) × (only_constructor def.signature list.sort.0 ≡ Some c))
    pub is : IsInstance (value ∷ []) (element ∷ [])

  abbrev pub IsClearRow : ℕ → Type 0
  IsClearRow k = (d : DeclareRow) → slice_get def.declare_rows k ≡ Some d → (list : ListKind)
      → slice_get def.lists d.list ≡ Some list → IsClear list d.value
