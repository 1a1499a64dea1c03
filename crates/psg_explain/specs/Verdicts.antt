-- When a verdict on given equations is right.
use Rattle.std.specs.Prelude.{ℕ, ◌≡◌, ◌≤◌, ◌-◌, List, [], ◌∷◌, map, length, Some, slice_get, get_or}
use Rattle.std.specs.List.{AllByRecursion}
use Rattle.psg_terms.specs.Terms.{Term, variable}
use Rattle.psg_terms.specs.Instances.{Substitution, substitute}
use Rattle.psg_terms.specs.Canonical.{Variable, first_occurrences, variables, variables_of}
use Rattle.psg_explain.specs.declared.refutation.Rule.{Rule}
use Rattle.psg_explain.specs.declared.refutation.Verdict.{Verdict}
use Rattle.psg_explain.specs.declared.refutation.Verdict.TheVariants as verdicts
use Rattle.psg_explain.specs.Equations.{Equation, Derives, IsBinding, IsCircle, IsClash, put_for}

-- the columns, rewritten by the equations of these numbers one after the other, each of which has a variable on its
-- left
abbrev pub Rewrites : List Equation → List ℕ → List Term → List Term → Type 0
Rewrites all [] columns made = made ≡ columns
Rewrites all (n ∷ bindings) columns made =
    (x : Variable) × (t : Term) × IsBinding all n x t
    × Rewrites all bindings (map (substitute (put_for x t)) columns) made

-- the first value for the variables with the number 1, and so on
abbrev pub valued : List Term → Substitution
valued values s n = get_or values (n - 1) (variable s n)

-- a value is there for the variable, whose number counts from 1
abbrev pub HasValue : List Term → Variable → Type 0
HasValue values x = (1 ≤ x.1) × (x.1 ≤ length values)

-- the special term is the general one with these values for its variables, of which each has one
abbrev pub IsMade : List Term → Term → Term → Type 0
IsMade values general special =
    AllByRecursion (HasValue values) (variables general) × (special ≡ substitute (valued values) general)

abbrev pub AreMade : List Term → List Term → List Term → Type 0
AreMade values general special =
    AllByRecursion (HasValue values) (variables_of general) × (special ≡ map (substitute (valued values)) general)

-- the columns are the row with these values for its variables, of which each has one
pub record IsUnder (values row columns : List Term) : Type 0 where
  pub enough : length (first_occurrences row) ≤ length values
  pub same : columns ≡ map (substitute (valued values)) row

-- the rules give an equation of this number
abbrev pub IsDerived : List Equation → List Rule → ℕ → Equation → Type 0
IsDerived given rules number e = (all : List Equation) × Derives given rules all × (slice_get all number ≡ Some e)

-- the columns, rewritten by the derived equations of these numbers, are the row with the values
abbrev pub IsMadeBy : List Equation → List Term → List Term → List Rule → List ℕ → List Term → Type 0
IsMadeBy given columns row rules bindings values =
    (all : List Equation) × Derives given rules all × (made : List Term) × Rewrites all bindings columns made
    × AreMade values row made

-- The verdict on the given equations is right, for the columns and the claimed rows. The numbers in it are those of
-- derived equations.
abbrev pub IsRight : List (List Term) → List Equation → List Term → Verdict → Type 0
IsRight rows given columns (verdicts.Covered to rules bindings values) =
    (all : List Equation) × Derives given rules all × (made : List Term) × Rewrites all bindings columns made
    × (row : List Term) × (slice_get rows to ≡ Some row) × IsUnder values row made
IsRight rows given columns (verdicts.Clash rules number) =
    (all : List Equation) × Derives given rules all × (e : Equation) × (slice_get all number ≡ Some e) × IsClash e
IsRight rows given columns (verdicts.Circle rules number) =
    (all : List Equation) × Derives given rules all × (e : Equation) × (slice_get all number ≡ Some e) × IsCircle e
