-- How far the parts and elements of a node are nested.
use Rattle.std.proofs.Common.{◌≡◌, ℕ, zero, suc, ◌+◌, ◌<◌, ◌≤◌, max, Bool, List, [], ◌∷◌, length, get_or, refl, ap, sym, ◌∙◌, arith}
use Rattle.psg_grammar.specs.Fragments.{Fragment, operator}
use Rattle.psg_tree.specs.declared.tree.Part.{Part}
use Rattle.psg_tree.specs.declared.tree.Part.TheVariants.{Sub, Name, Number, Text}
use Rattle.psg_tree.specs.declared.tree.Shape.{Shape}
use Rattle.psg_tree.specs.declared.tree.Shape.TheVariants.{Op, List as ListOf}
use Rattle.psg_tree.specs.Shapes.{height, with_part, with_parts, list_of, tree_of}
use Rattle.psg_tree.specs.TreeFalls.{parts_le-height}

-- only the height of what the parts are added to counts
pub height-with_part : (f g : Fragment) (p : Part) → height f ≡ height g → height (with_part f p) ≡ height (with_part g p)
height-with_part f g (Sub t) e = ap (λ n. max n (height t + 1)) e
height-with_part f g (Name n) e = e
height-with_part f g (Number n) e = e
height-with_part f g (Text t) e = e

pub height-with_parts : (f g : Fragment) (ps : List Part) → height f ≡ height g → height (with_parts f ps) ≡ height (with_parts g ps)
height-with_parts f g [] e = e
height-with_parts f g (p ∷ ps) e = height-with_parts (with_part f p) (with_part g p) ps (height-with_part f g p e)

height-part : (f : Fragment) (p : Part) → height (with_part (operator 0) p) ≤ height (with_part f p)
height-part f (Sub t) = omega arith
height-part f (Name n) = omega arith
height-part f (Number n) = omega arith
height-part f (Text t) = omega arith

pub part_in : (f : Fragment) (ps : List Part) (i : ℕ) (p : Part) → i < length ps → p ≡ get_or ps i p → height (with_part (operator 0) p) ≤ height (with_parts f ps)
part_in f [] i p h e = absurd (omega (arith, h))
part_in f (q ∷ ps) zero p h e = omega (arith, ap (λ x. height (with_part (operator 0) x)) e, height-part f q, parts_le-height (with_part f q) ps)
part_in f (q ∷ ps) (suc i) p h e = part_in (with_part f q) ps i p (omega (arith, h)) e

pub height-list_of : (l : ℕ) (es : List Fragment) (u v : Bool) → height (list_of l es u) ≡ height (list_of 0 es v)
height-list_of l [] u v = refl
height-list_of l (e ∷ es) u v = ap (λ n. max (height e + 1) n) (height-list_of l es u v)

pub element_in : (l : ℕ) (es : List Fragment) (u : Bool) (i : ℕ) (e : Fragment) → i < length es → e ≡ get_or es i e → height e + 1 ≤ height (list_of l es u)
element_in l [] u i e h r = absurd (omega (arith, h))
element_in l (x ∷ es) u zero e h r = omega (arith, ap height r)
element_in l (x ∷ es) u (suc i) e h r = omega (arith, element_in l es u i e (omega (arith, h)) r)

-- the parts and the elements of a node that is read
pub op_height : (s : Shape) (o : ℕ) (ps : List Part) (f : Fragment) → s ≡ Op o ps → tree_of s ≡ f → height (with_parts (operator 0) ps) ≡ height f
op_height s o ps f e h = height-with_parts (operator 0) (operator o) ps refl ∙ ap height (sym (ap tree_of e) ∙ h)

pub list_height : (s : Shape) (l : ℕ) (es : List Fragment) (u : Bool) (f : Fragment) → s ≡ ListOf l es u → tree_of s ≡ f → height (list_of 0 es u) ≡ height f
list_height s l es u f e h = sym (height-list_of l es u u) ∙ ap height (sym (ap tree_of e) ∙ h)
