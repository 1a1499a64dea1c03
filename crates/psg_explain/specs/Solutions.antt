-- Equations that are being solved, with their numbers among the derived ones.
use Rattle.std.specs.Prelude.{ℕ, ◌≡◌, ◌+◌, ◌⊎◌, true, false, List, [], ◌∷◌, ◌++◌, map, length, reverse, slice_get}
use Rattle.std.specs.Prelude.{Option, Some, None}
use Rattle.std.specs.List.{AllByRecursion}
use Rattle.psg_terms.specs.Terms.{Term, applied, symbol}
use Rattle.psg_relation.specs.Heads.{head_of}
use Rattle.psg_terms.specs.Canonical.{Variable, variables, is_noted, noted_all}
use Rattle.psg_terms.specs.Sizes.{size}
use Rattle.psg_explain.specs.declared.refutation.Reason.{Reason}
use Rattle.psg_explain.specs.declared.refutation.Rule.{Rule}
use Rattle.psg_explain.specs.declared.refutation.Reason.TheVariants as reasons
use Rattle.psg_explain.specs.declared.derived.Derived.{Derived}
use Rattle.psg_explain.specs.declared.solver.Bound.{Bound}
use Rattle.psg_explain.specs.declared.solver.Failure.{Failure}
use Rattle.psg_explain.specs.declared.solver.Found.{Found}
use Rattle.psg_explain.specs.declared.solver.Found.TheVariants as found
use Rattle.psg_explain.specs.declared.solver.Solution.{Solution}
use Rattle.psg_explain.specs.declared.solver.Task.{Task}
use Rattle.psg_explain.specs.declared.solver.Work.{Work}
use Rattle.psg_explain.specs.declared.putting.Variable.{Variable as Var}
use Rattle.psg_explain.specs.Equations.{arguments_of, Derives, Equation, IsBinding, IsCircle, IsClash, IsOfHead}
use Rattle.psg_explain.specs.Equations.{rewritten}
use Rattle.psg_explain.specs.Equations.{StandsInside, term_of}
use Rattle.psg_explain.specs.Reasons.{paired}

-- ---- how equations are solved

-- a variable, and the term that is put for it everywhere
abbrev pub Binding : Type 0
Binding = Variable × Term

-- The equations are solved from the front, as for a reason, and the variables of these bindings are replaced one after
-- the other.
pub data Solving : List Equation → List Binding → Option Reason → Type 0 where
  solved : Solving [] [] None
  equal : {a : Term} {rest : List Equation} {bs : List Binding} {r : Option Reason} → Solving rest bs r
      → Solving ((a, a) ∷ rest) bs r
  parts : {a b : Term} {rest : List Equation} {bs : List Binding} {r : Option Reason} (c : ℕ) → (a ≡ b → ⊥)
      → IsOfHead c (a, b) → Solving (paired (arguments_of a) (arguments_of b) ++ rest) bs r
      → Solving ((a, b) ∷ rest) bs r
  clash : {a b : Term} {rest : List Equation} → IsClash (a, b)
      → Solving ((a, b) ∷ rest) [] (Some (reasons.Clash a b))
  circle_left : {b : Term} {rest : List Equation} (x : Variable) → StandsInside x b
      → Solving ((term_of x, b) ∷ rest) [] (Some (reasons.Circle (term_of x) b))
  circle_right : {a : Term} {rest : List Equation} (x : Variable) → StandsInside x a
      → Solving ((a, term_of x) ∷ rest) [] (Some (reasons.Circle (term_of x) a))
  bound_left : {b : Term} {rest : List Equation} {bs : List Binding} {r : Option Reason} (x : Variable)
      → is_noted x (variables b) ≡ false → Solving (map (rewritten x b) rest) bs r
      → Solving ((term_of x, b) ∷ rest) ((x, b) ∷ bs) r
  bound_right : {a : Term} {rest : List Equation} {bs : List Binding} {r : Option Reason} (x : Variable) (c : ℕ)
      → head_of a ≡ Some c → is_noted x (variables a) ≡ false → Solving (map (rewritten x a) rest) bs r
      → Solving ((a, term_of x) ∷ rest) ((x, a) ∷ bs) r

-- ---- the work

abbrev pub variable_in : Var → Variable
variable_in v = (v.sort.0, v.number)

abbrev pub equation_in : Task → Equation
equation_in t = t.equation

-- the equations that are left, the first one first
abbrev pub tasks_of : Work → List Equation
tasks_of w = map equation_in (reverse w.left.items)

-- the equation of the task is the derived one of its number
abbrev pub IsAt : List Equation → Task → Type 0
IsAt all t = slice_get all t.number ≡ Some t.equation

-- no task of the list has the number
abbrev pub IsApartFrom : ℕ → List Task → Type 0
IsApartFrom n tasks = AllByRecursion (λ (t : Task). t.number ≡ n → ⊥) tasks

-- no number is there twice
abbrev pub AreApart : List Task → Type 0
AreApart [] = Unit {0}
AreApart (t ∷ ts) = IsApartFrom t.number ts × AreApart ts

-- The rules derive the equations from the given ones, and those that are left are among them, each once.
pub record IsWorking (given : List Equation) (rules : List Rule) (all : List Equation) (left : List Task) : Type 0 where
  pub derives : Derives given rules all
  pub there : AllByRecursion (IsAt all) left
  pub apart : AreApart left

abbrev pub IsWork : List Equation → Work → Type 0
IsWork given w = IsWorking given w.derived.rules.items w.derived.all.items w.left.items

-- what is there stays
abbrev pub Extends : List Equation → List Equation → Type 0
Extends old new = (n : ℕ) (e : Equation) → slice_get old n ≡ Some e → slice_get new n ≡ Some e

-- the derived equation of the number has these arguments on its sides
abbrev pub HasArguments : List Equation → ℕ → List Term → List Term → Type 0
HasArguments all number left right =
    (c : ℕ) × (slice_get all number ≡ Some (applied (symbol c) left, applied (symbol c) right))

-- the derived equation of the number cannot be solved
abbrev pub IsFailed : List Equation → ℕ → Reason → Type 0
IsFailed all number (reasons.Clash a b) = (slice_get all number ≡ Some (a, b)) × IsClash (a, b)
IsFailed all number (reasons.Circle a b) =
    (e : Equation) × (slice_get all number ≡ Some e) × IsCircle e

-- the derived equation of the number binds the variable
abbrev pub IsBoundBy : List Equation → Bound → Type 0
IsBoundBy all b = IsBinding all b.number (variable_in b.variable) b.by

abbrev pub reason_of : Option Failure → Option Reason
reason_of None = None
reason_of (Some f) = Some f.reason

abbrev pub IsFailure : List Equation → Option Failure → Type 0
IsFailure all None = Unit {0}
IsFailure all (Some f) = IsFailed all f.number f.reason

-- the result of solving an equation in front of others, whatever the others are
abbrev pub Yields : Equation → Work → Found → Work → Type 0
Yields e old found.Solved new =
    (bs : List Binding) (r : Option Reason) → Solving (tasks_of new) bs r → Solving (e ∷ tasks_of old) bs r
Yields e old (found.Failed f) new = (rest : List Equation) → Solving (e ∷ rest) [] (Some f.reason)
Yields e old (found.Bound b) new =
    (tasks_of new ≡ tasks_of old)
    × ((rest : List Equation) (bs : List Binding) (r : Option Reason)
    → Solving (map (rewritten (variable_in b.variable) b.by) rest) bs r
    → Solving (e ∷ rest) ((variable_in b.variable, b.by) ∷ bs) r)

-- the equation that was found is the derived one of its number
abbrev pub IsFoundIn : Work → Found → Type 0
IsFoundIn w found.Solved = Unit {0}
IsFoundIn w (found.Failed f) = IsFailed w.derived.all.items f.number f.reason
IsFoundIn w (found.Bound b) = IsBoundBy w.derived.all.items b × IsApartFrom b.number w.left.items

-- the next binding, or that all equations are solved or one cannot be
abbrev pub Proceeds : Work → Option Bound → Work → Type 0
Proceeds old None new = old.failure ≡ None → Solving (tasks_of old) [] (reason_of new.failure)
Proceeds old (Some b) new =
    (new.failure ≡ old.failure)
    × ((bs : List Binding) (r : Option Reason)
    → Solving (map (rewritten (variable_in b.variable) b.by) (tasks_of new)) bs r
    → Solving (tasks_of old) ((variable_in b.variable, b.by) ∷ bs) r)

abbrev pub IsNextIn : Work → Option Bound → Type 0
IsNextIn w None = IsFailure w.derived.all.items w.failure
IsNextIn w (Some b) = IsBoundBy w.derived.all.items b × IsApartFrom b.number w.left.items

-- Of a derived equation, in which the variable of the binding is replaced: it stays as it is with its number, or is a
-- new one.
abbrev pub IsPut : List Equation → Derived → Derived → Bound → Task → Task → Type 0
IsPut given old new b task made =
    ((made.number ≡ task.number) × (new.rules.items ≡ old.rules.items) × (new.all.items ≡ old.all.items)
    × (made.equation ≡ task.equation))
    ⊎ ((made.number ≡ length old.all.items) × (new.all.items ≡ old.all.items ++ made.equation ∷ [])
    × (Derives given old.rules.items old.all.items → IsAt old.all.items task → IsBoundBy old.all.items b
    → (task.number ≡ b.number → ⊥) → Derives given new.rules.items new.all.items))

-- ---- measures

-- how large equations are together
abbrev pub weigh : List Equation → ℕ
weigh [] = 0
weigh (e ∷ es) = size e.0 + size e.1 + 1 + weigh es

-- the variables of equations, each as often as it occurs
abbrev pub variables_in : List Equation → List Variable
variables_in [] = []
variables_in (e ∷ es) = (variables e.0 ++ variables e.1) ++ variables_in es

-- how many variables equations have
abbrev pub count_in : List Equation → ℕ
count_in es = length (noted_all [] (variables_in es))

-- each variable of the second ones is one of the first
abbrev pub IsWithin : List Equation → List Equation → Type 0
IsWithin old new = (x : Variable) → is_noted x (variables_in new) ≡ true → is_noted x (variables_in old) ≡ true

-- the variable and those of the term are among those of the equations, and it is not in the term
pub record IsBoundIn (es : List Equation) (b : Bound) : Type 0 where
  pub there : is_noted (variable_in b.variable) (variables_in es) ≡ true
  pub within : (x : Variable) → is_noted x (variables b.by) ≡ true → is_noted x (variables_in es) ≡ true
  pub outside : is_noted (variable_in b.variable) (variables b.by) ≡ false

abbrev pub IfBound : List Equation → Found → Type 0
IfBound es (found.Bound b) = IsBoundIn es b
IfBound es _ = Unit {0}

-- the bindings of these numbers
abbrev pub AreBindings : List Equation → List ℕ → List Binding → Type 0
AreBindings all [] bs = bs ≡ []
AreBindings all (n ∷ numbers) [] = ⊥
AreBindings all (n ∷ numbers) (b ∷ bs) = IsBinding all n b.0 b.1 × AreBindings all numbers bs

-- The rules derive the equations on the way, and the solution binds these variables, or fails there.
pub record IsSolution (given : List Equation) (s : Solution) : Type 0 where
  pub derives : Derives given s.derived.rules.items s.derived.all.items
  pub bindings : List Binding
  pub solving : Solving given bindings (reason_of s.failure)
  pub bound : AreBindings s.derived.all.items s.bindings.items bindings
  pub failed : IsFailure s.derived.all.items s.failure
