-- Why equations have no common solution: what is met first when they are solved from the front.
use Rattle.std.specs.Prelude.{ℕ, ◌≡◌, false, List, [], ◌∷◌, ◌++◌, map, Option, Some, None}
use Rattle.psg_terms.specs.Terms.{Term}
use Rattle.psg_terms.specs.Canonical.{Variable, variables, is_noted}
use Rattle.psg_relation.specs.Heads.{head_of}
use Rattle.psg_explain.specs.declared.refutation.Reason.{Reason}
use Rattle.psg_explain.specs.declared.refutation.Reason.TheVariants.{Clash, Circle}
use Rattle.psg_explain.specs.Equations.{Equation, arguments_of, IsOfHead, IsClash, StandsInside, rewritten, term_of}

-- the equations of the arguments, place by place
abbrev pub paired : List Term → List Term → List Equation
paired [] bs = []
paired (a ∷ as') [] = []
paired (a ∷ as') (b ∷ bs) = (a, b) ∷ paired as' bs

-- The first equation is taken. Equal sides: it is dropped. Equal constructors: the equations of its arguments are put
-- in its place. A variable on the left, or else on the right: it is replaced everywhere, if it is not inside the other
-- side. The reason is the first equation that cannot be solved, as it is then, or there is none.
pub data IsReason : List Equation → Option Reason → Type 0 where
  solved : IsReason [] None
  equal : {a : Term} {rest : List Equation} {r : Option Reason} → IsReason rest r → IsReason ((a, a) ∷ rest) r
  parts : {a b : Term} {rest : List Equation} {r : Option Reason} (c : ℕ) → (a ≡ b → ⊥) → IsOfHead c (a, b)
      → IsReason (paired (arguments_of a) (arguments_of b) ++ rest) r → IsReason ((a, b) ∷ rest) r
  clash : {a b : Term} {rest : List Equation} → IsClash (a, b) → IsReason ((a, b) ∷ rest) (Some (Clash a b))
  circle_left : {b : Term} {rest : List Equation} (x : Variable) → StandsInside x b
      → IsReason ((term_of x, b) ∷ rest) (Some (Circle (term_of x) b))
  circle_right : {a : Term} {rest : List Equation} (x : Variable) → StandsInside x a
      → IsReason ((a, term_of x) ∷ rest) (Some (Circle (term_of x) a))
  bound_left : {b : Term} {rest : List Equation} {r : Option Reason} (x : Variable)
      → is_noted x (variables b) ≡ false → IsReason (map (rewritten x b) rest) r → IsReason ((term_of x, b) ∷ rest) r
  bound_right : {a : Term} {rest : List Equation} {r : Option Reason} (x : Variable) (c : ℕ) → head_of a ≡ Some c
      → is_noted x (variables a) ≡ false → IsReason (map (rewritten x a) rest) r → IsReason ((a, term_of x) ∷ rest) r
