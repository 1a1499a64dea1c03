-- Lists in the order of a test, and rows in byte order of their texts.
use Rattle.std.specs.Prelude.{Bool, IsTrue, List, [], ◌∷◌}
use Rattle.std.specs.Cmp.Lexicographic.{slice_cmp}
use Rattle.std.specs.Ordering.{nat_cmp, is_le}
use Rattle.psg_terms.specs.Terms.{Term}
use Rattle.psg_terms.specs.Signature.{Signature}
use Rattle.psg_terms.specs.Relations.{IsIn}
use Rattle.psg_terms.specs.Text.{row_text}

-- the test holds of each element and each later one
abbrev pub IsOrdered : {X : Type 0} → (X → X → Bool) → List X → Type 0
IsOrdered test [] = Unit {0}
IsOrdered {X} test (x ∷ xs) = ((y : X) → IsIn y xs → IsTrue (test x y)) × IsOrdered test xs

-- each order of the first list is one of the second list
abbrev pub KeepsOrder : {X : Type 0} → List X → List X → Type 0
KeepsOrder {X} xs ys = (test : X → X → Bool) → IsOrdered test xs → IsOrdered test ys

-- whether the first row's text is not above the second one's
abbrev pub is_not_above : Signature → List Term → List Term → Bool
is_not_above sig r s = is_le (slice_cmp nat_cmp (row_text sig r) (row_text sig s))
