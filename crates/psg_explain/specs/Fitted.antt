-- The values with which a row becomes given columns.
use Rattle.std.specs.Prelude.{ℕ, ◌≡◌, List, [], ◌∷◌, map, None, Some, slice_get}
use Rattle.psg_terms.specs.Terms.{Term}
use Rattle.psg_terms.specs.Instances.{IsInstance, Substitution, substitute}
use Rattle.psg_terms.specs.Canonical.{IsNumberedFrom, Variable}
use Rattle.psg_explain.specs.declared.derived.Derived.{Derived}
use Rattle.psg_explain.specs.declared.fitting.Fitting.{Fitting}
use Rattle.psg_explain.specs.Equations.{Derives, Equation, put_for}
use Rattle.psg_explain.specs.Solutions.{AreBindings, Binding, Solving}
use Rattle.psg_explain.specs.Verdicts.{IsUnder}

-- the values are those that the substitution gives these variables, which are numbered from 1 on
pub record IsValued (f : Substitution) (known : List Variable) (values : List Term) : Type 0 where
  pub numbered : IsNumberedFrom 1 known
  pub are : values ≡ map (λ (x : Variable). f x.0 x.1) known

-- the columns with the terms of the bindings in place of their variables, one after the other
abbrev pub put_all : List Binding → List Term → List Term
put_all [] columns = columns
put_all (b ∷ bs) columns = put_all bs (map (substitute (put_for b.0 b.1)) columns)

-- where the equations have a solution, the columns under it are an instance of one of the rows
abbrev pub IsCoverable : List (List Term) → List Equation → List Term → Type 0
IsCoverable rows given columns =
    (bs : List Binding) → Solving given bs None
    → (i : ℕ) × (row : List Term) × (slice_get rows i ≡ Some row) × IsInstance (put_all bs columns) row

-- the columns are an instance of no row
abbrev pub IsUnfitting : List (List Term) → List Term → Type 0
IsUnfitting rows columns = (i : ℕ) (row : List Term) → slice_get rows i ≡ Some row → IsInstance columns row → ⊥

-- the columns are the row of the number under the values
abbrev pub IsFitting : List (List Term) → List Term → Fitting → Type 0
IsFitting rows columns t = (row : List Term) × (slice_get rows t.to ≡ Some row) × IsUnder t.values.items row columns

-- the given equations have a solution, which binds variables by the derived equations of these numbers
pub record IsSolved (given : List Equation) (derived : Derived) (numbers : List ℕ) : Type 0 where
  pub derives : Derives given derived.rules.items derived.all.items
  pub bindings : List Binding
  pub solving : Solving given bindings None
  pub bound : AreBindings derived.all.items numbers bindings
