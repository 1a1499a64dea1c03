-- How far the parts and elements of specimens are nested.
use Rattle.std.proofs.Common.{◌≡◌, ℕ, ◌+◌, ◌*◌, ◌<◌, ◌≤◌, max, zero, suc, List, [], ◌∷◌, get_or, length, ap, Option, arith}
use Rattle.psg_terms.specs.Names.{Name}
use Rattle.psg_deflines.specs.WrittenTrees.{WrittenTree, operator, list_end}
use Rattle.psg_deflines.specs.TreeShapes.{with_part, with_parts, ending, list_of, tree_height}
use Rattle.psg_deflines.specs.declared.trees.LinePlace.{LinePlace}
use Rattle.psg_deflines.specs.declared.trees.LinePart.{LinePart}
use Rattle.psg_deflines.specs.declared.trees.LinePart.TheVariants as parts

-- how far specimens are nested, as counts that fall with each call
abbrev pub tree_measure : WrittenTree → ℕ
tree_measure t = 3 * tree_height t + 2

abbrev pub part_height : LinePart → ℕ
part_height p = tree_height (with_part (operator []) p)

abbrev pub parts_height : List LinePart → ℕ
parts_height ps = tree_height (with_parts (operator []) ps)

abbrev pub elements_height : List WrittenTree → ℕ
elements_height es = tree_height (list_of list_end es)

abbrev pub part_measure : LinePart → ℕ
part_measure p = 3 * part_height p

abbrev pub parts_measure : List LinePart → ℕ
parts_measure ps = 3 * parts_height ps + 1

abbrev pub elements_measure : List WrittenTree → ℕ
elements_measure es = 3 * elements_height es + 1

part-front : (f : WrittenTree) (p : LinePart) → tree_height (with_part f p) ≡ max (tree_height f) (part_height p)
part-front f (parts.Tree t) = omega arith
part-front f (parts.Name n) = omega arith
part-front f (parts.Number d) = omega arith
part-front f (parts.Text w) = omega arith

parts-front : (f : WrittenTree) (ps : List LinePart) → tree_height (with_parts f ps) ≡ max (tree_height f) (parts_height ps)
parts-front f [] = omega arith
parts-front f (p ∷ ps) = omega (arith, parts-front (with_part f p) ps, parts-front (with_part (operator []) p) ps, part-front f p)

pub operator-parts : (t : WrittenTree) (o : Name) (ps taken : List LinePart) → with_parts (operator o) ps ≡ t → taken ≡ ps → parts_measure taken < tree_measure t
operator-parts t o ps taken e same = let h = ap tree_height e in let m = ap parts_height same in omega (arith, parts-front (operator o) ps)

parts-at : (ps : List LinePart) (i : ℕ) (p : LinePart) → i < length ps → p ≡ get_or ps i p → part_height p ≤ parts_height ps
parts-at [] i p lt at = absurd (omega arith)
parts-at (x ∷ ps) zero p lt at = let h = ap part_height at in omega (arith, parts-front (with_part (operator []) x) ps)
parts-at (x ∷ ps) (suc i) p lt at = omega (arith, parts-at ps i p (omega arith) at, parts-front (with_part (operator []) x) ps)

pub part_below : (ps : List LinePart) (i : ℕ) (p : LinePart) → i < length ps → p ≡ get_or ps i p → part_measure p < parts_measure ps
part_below ps i p lt at = omega (arith, parts-at ps i p lt at)

pub part_tree : (p : LinePart) (t : WrittenTree) → p ≡ parts.Tree t → tree_measure t < part_measure p
part_tree p t e = let h = ap part_height e in omega arith

elements-front : (end : WrittenTree) (es : List WrittenTree) → tree_height (list_of end es) ≡ max (tree_height end) (elements_height es)
elements-front end [] = omega arith
elements-front end (e ∷ es) = omega (arith, elements-front end es)

pub list-elements : (t : WrittenTree) (rest : Option LinePlace) (es taken : List WrittenTree) → list_of (ending rest) es ≡ t → taken ≡ es → elements_measure taken < tree_measure t
list-elements t rest es taken e same = let h = ap tree_height e in let m = ap elements_height same in omega (arith, elements-front (ending rest) es)

elements-at : (es : List WrittenTree) (i : ℕ) (e : WrittenTree) → i < length es → e ≡ get_or es i e → tree_height e + 1 ≤ elements_height es
elements-at [] i e lt at = absurd (omega arith)
elements-at (x ∷ es) zero e lt at = let h = ap tree_height at in omega arith
elements-at (x ∷ es) (suc i) e lt at = omega (arith, elements-at es i e (omega arith) at)

pub element_below : (es : List WrittenTree) (i : ℕ) (e : WrittenTree) → i < length es → e ≡ get_or es i e → tree_measure e < elements_measure es
element_below es i e lt at = omega (arith, elements-at es i e lt at)
