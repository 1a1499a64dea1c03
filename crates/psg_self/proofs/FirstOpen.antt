-- The first open place of a tree, child by child.
use Rattle.std.proofs.Common.{◌≡◌, ℕ, zero, suc, ◌+◌, ◌<◌, ◌≤◌, ◌⊎◌, Bool, true, false, cond, inl, inr, List, [], ◌∷◌, ◌++◌, length, drop, get_or, Option, Some, None, Bor, slice_get, refl, ap, ap₂, sym, ◌∙◌, arith}
use Rattle.std.specs.Option.{option_copied}
use Rattle.std.proofs.lemmas.Bool.{cases_lt}
use Rattle.std.proofs.lemmas.List.{drop_more, drop_all}
use Rattle.std.proofs.lemmas.Option.{slice_get_within, slice_get-get_or}
use Rattle.psg_grammar.specs.Fragments.{Fragment, hole, ending, cell, operator, with_child, with_name, with_number, with_text, anything, observed, children_of}
use Rattle.psg_grammar.specs.Paths.{Path}
use Rattle.psg_tree.specs.declared.tree.Part.{Part}
use Rattle.psg_tree.specs.declared.tree.Part.TheVariants.{Sub, Name, Number, Text}
use Rattle.psg_tree.specs.declared.tree.Shape.{Shape}
use Rattle.psg_tree.specs.declared.tree.Shape.TheVariants.{Op, List as ListOf}
use Rattle.psg_tree.specs.Shapes.{with_part, with_parts, list_of, tree_of, height}
use Rattle.psg_tree.proofs.Children.{children-list}
use Rattle.psg_self.specs.Openings.{first_of, is_open_ended, first_among, open_from, open_below}

-- ---- the children, one after the other

at-child : (cs : List Fragment) (n : ℕ) (c : Fragment) → slice_get cs n ≡ Some c → drop n cs ≡ c ∷ drop (n + 1) cs
at-child cs n c e =
    let inside = slice_get_within cs n c e in
    let at : Some (get_or cs n c) ≡ Some c = sym (slice_get-get_or cs n c inside) ∙ e in
    let same : get_or cs n c ≡ c = cc in
    drop_more cs n c inside ∙ ap (λ x. x ∷ drop (n + 1) cs) same

at-end : (cs : List Fragment) (n : ℕ) → slice_get cs n ≡ None → drop n cs ≡ []
at-end cs n e = elim (cases_lt n (length cs)) [
  | inl h ↦ absurd (some-none cs n h (sym (slice_get-get_or cs n anything h) ∙ e))
  | inr h ↦ drop_all n cs h
]
  where
    some-none : (xs : List Fragment) (k : ℕ) → k < length xs → Some (get_or xs k anything) ≡ None → ⊥
    some-none xs k h f = cc

pub child-is : (o : Option (Bor Fragment)) (b : Bor Fragment) (cs : List Fragment) (n : ℕ) → o ≡ Some b → option_copied o ≡ slice_get cs n
    → slice_get cs n ≡ Some b.now
child-is o b cs n is e = sym e ∙ ap option_copied is

pub none-is : (o : Option (Bor Fragment)) (cs : List Fragment) (n : ℕ) → o ≡ None → option_copied o ≡ slice_get cs n → slice_get cs n ≡ None
none-is o cs n is e = sym e ∙ ap option_copied is

pub next-among : (at : Path) (cs : List Fragment) (n : ℕ) (c : Fragment) (found : Option Path) → slice_get cs n ≡ Some c
    → first_among at 0 cs ≡ first_among at n (drop n cs) → found ≡ open_from (at ++ n ∷ []) c → found ≡ None
    → first_among at 0 cs ≡ first_among at (n + 1) (drop (n + 1) cs)
next-among at cs n c found is w f none =
    w ∙ ap (first_among at n) (at-child cs n c is)
    ∙ ap (λ x. first_of x (first_among at (n + 1) (drop (n + 1) cs))) (sym f ∙ none)

pub found-among : (at : Path) (cs : List Fragment) (n : ℕ) (c : Fragment) (found : Option Path) (path : Path) → slice_get cs n ≡ Some c
    → first_among at 0 cs ≡ first_among at n (drop n cs) → found ≡ open_from (at ++ n ∷ []) c → found ≡ Some path
    → Some path ≡ first_among at 0 cs
found-among at cs n c found path is w f some =
    sym (w ∙ ap (first_among at n) (at-child cs n c is)
    ∙ ap (λ x. first_of x (first_among at (n + 1) (drop (n + 1) cs))) (sym f ∙ some))

pub end-among : (at : Path) (cs : List Fragment) (n : ℕ) → slice_get cs n ≡ None
    → first_among at 0 cs ≡ first_among at n (drop n cs) → None ≡ first_among at 0 cs
end-among at cs n is w = sym (w ∙ ap (first_among at n) (at-end cs n is))

-- ---- nesting

among-snoc : (xs : List Fragment) (y c : Fragment) (n : ℕ) → slice_get (xs ++ y ∷ []) n ≡ Some c → (slice_get xs n ≡ Some c) ⊎ (y ≡ c)
among-snoc [] y c zero e = inr (let f : Some y ≡ Some c = e in cc)
among-snoc [] y c (suc n) e = absurd (none c e)
  where
    none : (x : Fragment) → None ≡ Some x → ⊥
    none x f = cc
among-snoc (x ∷ xs) y c zero e = inl e
among-snoc (x ∷ xs) y c (suc n) e = among-snoc xs y c n e

no-child : (n : ℕ) (c : Fragment) → ◌≡◌ {A = Option Fragment} (slice_get [] n) (Some c) → ⊥
no-child n c e = omega (arith, slice_get_within [] n c e)

pub child-lower : (f : Fragment) (n : ℕ) (c : Fragment) → slice_get (children_of f) n ≡ Some c → height c + 1 ≤ height f
child-lower (hole p) n c e = absurd (no-child n c e)
child-lower (ending l u) n c e = absurd (no-child n c e)
child-lower (cell l x r) zero c e = let same : x ≡ c = some x c e in omega (arith, ap height same)
  where
    some : (a b : Fragment) → Some a ≡ Some b → a ≡ b
    some a b f = cc
child-lower (cell l x r) (suc n) c e = omega (arith, child-lower r n c e)
child-lower (operator o) n c e = absurd (no-child n c e)
child-lower (with_child f t) n c e = elim (among-snoc (children_of f) t c n e) [
  | inl i ↦ omega (arith, child-lower f n c i)
  | inr s ↦ omega (arith, ap height s)
]
child-lower (with_name f x) n c e = child-lower f n c e
child-lower (with_number f x) n c e = child-lower f n c e
child-lower (with_text f x) n c e = child-lower f n c e
child-lower anything n c e = absurd (no-child n c e)
child-lower (observed f) n c e = child-lower f n c e

-- ---- lists

open-list : (l : ℕ) (es : List Fragment) (u : Bool) → is_open_ended (list_of l es u) ≡ u
open-list l [] u = refl
open-list l (e ∷ es) u = open-list l es u

below-list : (at : Path) (n l : ℕ) (es : List Fragment) (u : Bool) → open_below at n (list_of l es u) ≡ first_among at n es
below-list at n l [] u = refl
below-list at n l (e ∷ es) u = ap (first_of (open_from (at ++ n ∷ []) e)) (below-list at (n + 1) l es u)

from-list : (at : Path) (l : ℕ) (es : List Fragment) (u : Bool) → open_from at (list_of l es u) ≡ cond u (Some at) (first_among at 0 es)
from-list at l [] u = refl
from-list at l (e ∷ es) u =
    ap₂ (λ b x. cond b (Some at) (first_of (open_from (at ++ 0 ∷ []) e) x)) (open-list l es u) (below-list at 1 l es u)

pub list-from : (at : Path) (s : Shape) (l : ℕ) (es : List Fragment) (u : Bool) (f : Fragment) (found : Option Path) → s ≡ ListOf l es u
    → tree_of s ≡ f → u ≡ false → found ≡ first_among at 0 (children_of f) → found ≡ open_from at f
list-from at s l es u f found is read b e =
    let same : list_of l es u ≡ f = sym (ap tree_of is) ∙ read in
    e ∙ ap (first_among at 0) (ap children_of (sym same) ∙ children-list l es u)
    ∙ ap (λ c. cond c (Some at) (first_among at 0 es)) (sym b) ∙ sym (from-list at l es u) ∙ ap (open_from at) same

pub unfinished-from : (at : Path) (s : Shape) (l : ℕ) (es : List Fragment) (u : Bool) (f : Fragment) (found : Path) → s ≡ ListOf l es u
    → tree_of s ≡ f → u ≡ true → found ≡ at → Some found ≡ open_from at f
unfinished-from at s l es u f found is read b e =
    ap Some e ∙ ap (λ c. cond c (Some at) (first_among at 0 es)) (sym b)
    ∙ sym (from-list at l es u) ∙ ap (open_from at) (sym (ap tree_of is) ∙ read)

-- ---- operators

first-none : (a : Option Path) → first_of a None ≡ a
first-none None = refl
first-none (Some p) = refl

first-assoc : (a b c : Option Path) → first_of a (first_of b c) ≡ first_of (first_of a b) c
first-assoc None b c = refl
first-assoc (Some p) b c = refl

one-more : (at : Path) (n : ℕ) (cs : List Fragment) (t : Fragment)
    → first_among at n (cs ++ t ∷ []) ≡ first_of (first_among at n cs) (open_from (at ++ (n + length cs) ∷ []) t)
one-more at n [] t =
    let place : n ≡ n + 0 = omega arith in
    first-none (open_from (at ++ n ∷ []) t) ∙ ap (λ k. open_from (at ++ k ∷ []) t) place
one-more at n (c ∷ cs) t =
    let place : (n + 1) + length cs ≡ n + length (c ∷ cs) = omega arith in
    ap (first_of (open_from (at ++ n ∷ []) c)) (one-more at (n + 1) cs t)
    ∙ first-assoc (open_from (at ++ n ∷ []) c) (first_among at (n + 1) cs) (open_from (at ++ ((n + 1) + length cs) ∷ []) t)
    ∙ ap (λ k. first_of (first_of (open_from (at ++ n ∷ []) c) (first_among at (n + 1) cs)) (open_from (at ++ k ∷ []) t)) place

abbrev IsRow : Path → Fragment → Type 0
IsRow at f = open_below at 0 f ≡ first_among at 0 (children_of f)

row-part : (at : Path) (f : Fragment) (p : Part) → IsRow at f → IsRow at (with_part f p)
row-part at f (Sub t) h =
    let place : length (children_of f) ≡ 0 + length (children_of f) = omega arith in
    ap₂ (λ x k. first_of x (open_from (at ++ k ∷ []) t)) h place ∙ sym (one-more at 0 (children_of f) t)
row-part at f (Name n) h = h
row-part at f (Number n) h = h
row-part at f (Text t) h = h

row-parts : (at : Path) (f : Fragment) (ps : List Part) → IsRow at f → IsRow at (with_parts f ps)
row-parts at f [] h = h
row-parts at f (p ∷ ps) h = row-parts at (with_part f p) ps (row-part at f p h)

from-part : (at : Path) (f : Fragment) (p : Part) → open_from at (with_part f p) ≡ open_below at 0 (with_part f p)
from-part at f (Sub t) = refl
from-part at f (Name n) = refl
from-part at f (Number n) = refl
from-part at f (Text t) = refl

from-parts : (at : Path) (f : Fragment) (ps : List Part) → open_from at f ≡ open_below at 0 f
    → open_from at (with_parts f ps) ≡ open_below at 0 (with_parts f ps)
from-parts at f [] h = h
from-parts at f (p ∷ ps) h = from-parts at (with_part f p) ps (from-part at f p)

pub operator-from : (at : Path) (s : Shape) (o : ℕ) (ps : List Part) (f : Fragment) (found : Option Path) → s ≡ Op o ps → tree_of s ≡ f
    → found ≡ first_among at 0 (children_of f) → found ≡ open_from at f
operator-from at s o ps f found is read e =
    let same : with_parts (operator o) ps ≡ f = sym (ap tree_of is) ∙ read in
    e ∙ ap (λ x. first_among at 0 (children_of x)) (sym same) ∙ sym (row-parts at (operator o) ps refl)
    ∙ sym (from-parts at (operator o) ps refl) ∙ ap (open_from at) same
