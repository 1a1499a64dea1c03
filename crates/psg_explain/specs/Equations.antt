-- Equations between terms, and those that rules derive from given ones.
use Rattle.std.specs.Prelude.{ℕ, ◌≡◌, ◌⊎◌, true, cond, List, [], ◌∷◌, ◌++◌, Some}
use Rattle.std.specs.Prelude.{slice_get}
use Rattle.psg_terms.specs.Terms.{Term, variable, symbol, apply}
use Rattle.psg_terms.specs.Instances.{Substitution, substitute}
use Rattle.psg_terms.specs.Canonical.{Variable, variables, is_noted, same_variable}
use Rattle.psg_relation.specs.Heads.{head_of}
use Rattle.psg_explain.specs.declared.refutation.Rule.{Rule}
use Rattle.psg_explain.specs.declared.refutation.Rule.TheVariants as rules

-- the left side and the right side
abbrev pub Equation : Type 0
Equation = Term × Term

-- the arguments of a constructor, in order
abbrev pub arguments_of : Term → List Term
arguments_of (variable s n) = []
arguments_of (symbol c) = []
arguments_of (apply f a) = arguments_of f ++ a ∷ []

-- both sides have this constructor at the head
abbrev pub IsOfHead : ℕ → Equation → Type 0
IsOfHead c e = (head_of e.0 ≡ Some c) × (head_of e.1 ≡ Some c)

-- the sides have different constructors at the head
abbrev pub IsClash : Equation → Type 0
IsClash e = (c d : ℕ) × (head_of e.0 ≡ Some c) × (head_of e.1 ≡ Some d) × (c ≡ d → ⊥)

abbrev pub term_of : Variable → Term
term_of x = variable x.0 x.1

-- the variable is properly inside the term
abbrev pub StandsInside : Variable → Term → Type 0
StandsInside x (variable s n) = ⊥
StandsInside x (symbol c) = ⊥
StandsInside x (apply f a) = is_noted x (variables (apply f a)) ≡ true

-- one side is a variable that is properly inside the other side
abbrev pub IsCircle : Equation → Type 0
IsCircle e = (x : Variable)
    × (((e.0 ≡ term_of x) × StandsInside x e.1) ⊎ ((e.1 ≡ term_of x) × StandsInside x e.0))

-- one is a variable that is properly inside the other
abbrev pub IsInside : Term → Term → Type 0
IsInside one other = (x : Variable) × (one ≡ term_of x) × StandsInside x other

-- the term in place of the variable; all others stay
abbrev pub put_for : Variable → Term → Substitution
put_for x t s n = cond (same_variable x (s, n)) t (variable s n)

abbrev pub rewritten : Variable → Term → Equation → Equation
rewritten x t e = (substitute (put_for x t) e.0, substitute (put_for x t) e.1)

-- the equation of the number has this variable on its left
abbrev pub IsBinding : List Equation → ℕ → Variable → Term → Type 0
IsBinding equations n x t = slice_get equations n ≡ Some (term_of x, t)

-- the equation is one between arguments at this place of the same constructor's terms
abbrev pub IsPart : Equation → ℕ → Equation → Type 0
IsPart whole k e =
    (c : ℕ) × IsOfHead c whole
    × (slice_get (arguments_of whole.0) k ≡ Some e.0) × (slice_get (arguments_of whole.1) k ≡ Some e.1)

-- What a rule gives from the given equations and those before it.
module _ (given before : List Equation) where
  abbrev pub Gives : Rule → Equation → Type 0
  Gives (rules.Given i) e = slice_get given i ≡ Some e
  Gives (rules.Part n k) e = (whole : Equation) × (slice_get before n ≡ Some whole) × IsPart whole k e
  Gives (rules.Flip n) e = slice_get before n ≡ Some (e.1, e.0)
  Gives (rules.Replace n m) e =
      (whole : Equation) × (x : Variable) × (t : Term) × (slice_get before n ≡ Some whole) × (n ≡ m → ⊥)
      × IsBinding before m x t × (e ≡ rewritten x t whole)

-- The rules give these equations, one after the other, where those before them are there already.
abbrev pub GiveAll : List Equation → List Equation → List Rule → List Equation → Type 0
GiveAll given before [] all = all ≡ before
GiveAll given before (rule ∷ rules) all =
    (e : Equation) × Gives given before rule e × GiveAll given (before ++ e ∷ []) rules all

-- the equation of a rule has the rule's number
abbrev pub Derives : List Equation → List Rule → List Equation → Type 0
Derives given rules all = GiveAll given [] rules all
