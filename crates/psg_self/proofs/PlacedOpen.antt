-- The first open place among the nodes that are listed, and that a tree without one is complete.
use Rattle.std.proofs.Common.{◌≡◌, ℕ, zero, suc, ◌+◌, ◌<◌, Bool, true, false, cond, List, [], ◌∷◌, ◌++◌, length, Option, Some, None, slice_get, inl, inr, refl, ap, ap₂, sym, ◌∙◌, arith, decimal}
use Rattle.std.proofs.lemmas.Bool.{true≢false, cases_Bool}
use Rattle.psg_grammar.specs.declared.types.Kind.{Kind}
use Rattle.psg_grammar.specs.declared.types.Item.{Item}
use Rattle.psg_grammar.specs.declared.types.Definition.{Definition}
use Rattle.psg_grammar.specs.Fragments.{Fragment, hole, ending, cell, operator, with_child, with_name, with_number, with_text, anything, observed, children_of}
use Rattle.psg_grammar.specs.Paths.{Path}
use Rattle.psg_grammar.specs.WellFormed.{Fits, IsPlain, IsComplete, WellFormed}
use Rattle.psg_tree.specs.AbstractText.{quoted}
use Rattle.psg_unparse.specs.Spots.{Placed, Spot, placed_in, placed_from, placed_below, element_spot, rest_spot, child_spot, front_spot, leaf_spot, top_spot}
use Rattle.psg_self.specs.Export.{IsOpenEnded, IsFirstOpen}
use Rattle.psg_self.specs.Openings.{first_of, is_open_ended, open_from, open_below, open_in}

abbrev first_in_row : List Placed → Option Path
first_in_row [] = None
first_in_row (p ∷ ps) = cond (is_open_ended p.node) (Some p.spot.path) (first_in_row ps)

one-first : (b : Bool) (path : Path) (u v : Option Path) → cond b (Some path) (first_of u v) ≡ first_of (cond b (Some path) u) v
one-first true path u v = refl
one-first false path u v = refl

row-append : (ps qs : List Placed) → first_in_row (ps ++ qs) ≡ first_of (first_in_row ps) (first_in_row qs)
row-append [] qs = refl
row-append (p ∷ ps) qs =
    ap (cond (is_open_ended p.node) (Some p.spot.path)) (row-append ps qs)
    ∙ one-first (is_open_ended p.node) p.spot.path (first_in_row ps) (first_in_row qs)

mutual
  row-from : (def : Definition) (s : Spot) (f : Fragment) → first_in_row (placed_from def s f) ≡ open_from s.path f
  row-from def s (hole p) = refl
  row-from def s (ending l u) = refl
  row-from def s (cell l e r) =
      ap (cond (is_open_ended r) (Some s.path)) (row-append (placed_from def (element_spot def s 0 l r) e) (placed_below def (rest_spot def s l e r) 1 r)
      ∙ ap₂ first_of (row-from def (element_spot def s 0 l r) e) (row-below def (rest_spot def s l e r) 1 r))
  row-from def s (operator o) = refl
  row-from def s (with_child f t) =
      row-append (placed_below def (front_spot def s f t) 0 f) (placed_from def (child_spot def s f t) t)
      ∙ ap₂ first_of (row-below def (front_spot def s f t) 0 f) (row-from def (child_spot def s f t) t)
  row-from def s (with_name f n) = row-below def (leaf_spot def s f n) 0 f
  row-from def s (with_number f n) = row-below def (leaf_spot def s f (decimal n)) 0 f
  row-from def s (with_text f n) = row-below def (leaf_spot def s f (quoted n)) 0 f
  row-from def s anything = refl
  row-from def s (observed f) = row-below def s 0 f

  row-below : (def : Definition) (s : Spot) (n : ℕ) (f : Fragment) → first_in_row (placed_below def s n f) ≡ open_below s.path n f
  row-below def s n (hole p) = refl
  row-below def s n (ending l u) = refl
  row-below def s n (cell l e r) =
      row-append (placed_from def (element_spot def s n l r) e) (placed_below def (rest_spot def s l e r) (n + 1) r)
      ∙ ap₂ first_of (row-from def (element_spot def s n l r) e) (row-below def (rest_spot def s l e r) (n + 1) r)
  row-below def s n (operator o) = refl
  row-below def s n (with_child f t) =
      row-append (placed_below def (front_spot def s f t) n f) (placed_from def (child_spot def s f t) t)
      ∙ ap₂ first_of (row-below def (front_spot def s f t) n f) (row-from def (child_spot def s f t) t)
  row-below def s n (with_name f x) = row-below def (leaf_spot def s f x) n f
  row-below def s n (with_number f x) = row-below def (leaf_spot def s f (decimal x)) n f
  row-below def s n (with_text f x) = row-below def (leaf_spot def s f (quoted x)) n f
  row-below def s n anything = refl
  row-below def s n (observed f) = row-below def s n f

-- ---- the test and what it says

open-true : (f : Fragment) → is_open_ended f ≡ true → IsOpenEnded f
open-true (hole p) h = tt
open-true (ending l u) h = h
open-true (cell l e r) h = open-true r h
open-true (operator o) h = true≢false (sym h)
open-true (with_child f t) h = true≢false (sym h)
open-true (with_name f n) h = true≢false (sym h)
open-true (with_number f n) h = true≢false (sym h)
open-true (with_text f t) h = true≢false (sym h)
open-true anything h = true≢false (sym h)
open-true (observed f) h = true≢false (sym h)

open-tested : (f : Fragment) → IsOpenEnded f → is_open_ended f ≡ true
open-tested (hole p) h = refl
open-tested (ending l u) h = h
open-tested (cell l e r) h = open-tested r h
open-tested (operator o) h = absurd h
open-tested (with_child f t) h = absurd h
open-tested (with_name f n) h = absurd h
open-tested (with_number f n) h = absurd h
open-tested (with_text f t) h = absurd h
open-tested anything h = absurd h
open-tested (observed f) h = absurd h

some-is : (a b : Path) → Some a ≡ Some b → a ≡ b
some-is a b h = cc

placed-is : (a b : Placed) → Some a ≡ Some b → a ≡ b
placed-is a b e = cc

record IsFirstIn (ps : List Placed) (path : Path) : Type 0 where
  pub number : ℕ
  pub placed : Placed
  pub found : slice_get ps number ≡ Some placed
  pub path_is : placed.spot.path ≡ path
  pub is_open : IsOpenEnded placed.node
  pub first : (k : ℕ) (other : Placed) → k < number → slice_get ps k ≡ Some other → IsOpenEnded other.node → ⊥

first-found : (ps : List Placed) (path : Path) → first_in_row ps ≡ Some path → IsFirstIn ps path
first-found [] path h = absurd (none h)
  where
    none : ◌≡◌ {A = Option Path} None (Some path) → ⊥
    none e = cc
first-found (p ∷ ps) path h = elim (cases_Bool (is_open_ended p.node)) [
  | inl yes_open ↦ record {
    number = 0;
    placed = p;
    found = refl;
    path_is = some-is p.spot.path path (sym (ap (λ b. cond b (Some p.spot.path) (first_in_row ps)) yes_open) ∙ h);
    is_open = open-true p.node yes_open;
    first = λ k other l e o. absurd (omega (arith, l));
  }
  | inr not_open ↦ later not_open (first-found ps path (sym (ap (λ b. cond b (Some p.spot.path) (first_in_row ps)) not_open) ∙ h))
]
  where
    later : is_open_ended p.node ≡ false → IsFirstIn ps path → IsFirstIn (p ∷ ps) path
    later not_open i = record {
      number = suc i.number;
      placed = i.placed;
      found = i.found;
      path_is = i.path_is;
      is_open = i.is_open;
      first = before;
    }
      where
        before : (k : ℕ) (other : Placed) → k < suc i.number → slice_get (p ∷ ps) k ≡ Some other → IsOpenEnded other.node → ⊥
        before zero other l e o = true≢false (sym (open-tested other.node o) ∙ ap (λ q. is_open_ended q.node) (sym (placed-is p other e)) ∙ not_open)
        before (suc k) other l e o = i.first k other (omega (arith, l)) e o

pub first-open-is : (def : Definition) (f : Fragment) (path : Path) → Some path ≡ open_in f → IsFirstOpen def f path
first-open-is def f path h =
    let i = first-found (placed_in def f) path (row-from def top_spot f ∙ sym h) in
    record { number = i.number; placed = i.placed; found = i.found; path_is = i.path_is; is_open = i.is_open; first = i.first }

-- ---- nothing is open

none-left : (a b : Option Path) → first_of a b ≡ None → a ≡ None
none-left None b h = refl
none-left (Some p) b h = h

none-right : (a b : Option Path) → first_of a b ≡ None → b ≡ None
none-right None b h = h
none-right (Some p) b h = absurd (there p h)
  where
    there : (q : Path) → ◌≡◌ {A = Option Path} (Some q) None → ⊥
    there q e = cc

none-cond : (b : Bool) (path : Path) (other : Option Path) → cond b (Some path) other ≡ None → (b ≡ false) × (other ≡ None)
none-cond true path other h = absurd (there path h)
  where
    there : (q : Path) → ◌≡◌ {A = Option Path} (Some q) None → ⊥
    there q e = cc
none-cond false path other h = (refl, h)

-- what still has items is an operator
going : (def : Definition) (f : Fragment) (i : Item) (more : List Item) (kind : Kind) → Fits def f (i ∷ more) kind → is_open_ended f ≡ false
going def (hole p) i more kind h = absurd (omega (arith, ap length h.0))
going def (ending l u) i more kind h = absurd (omega (arith, ap length h.0))
going def (cell l e r) i more kind h = absurd (omega (arith, ap length h.0))
going def (operator o) i more kind h = refl
going def (with_child f t) i more kind h = refl
going def (with_name f n) i more kind h = refl
going def (with_number f n) i more kind h = refl
going def (with_text f t) i more kind h = refl
going def anything i more kind h = refl
going def (observed f) i more kind h = refl

mutual
  complete-from : (def : Definition) (at : Path) (f : Fragment) (more : List Item) (kind : Kind) → Fits def f more kind → IsPlain f
      → open_from at f ≡ None → IsComplete f
  complete-from def at (hole p) more kind h q n = absurd (true≢false (none-cond true at None n).0)
  complete-from def at (ending l u) more kind h q n = (none-cond u at None n).0
  complete-from def at (cell l e r) more kind (a, b, k, c, d, g, i) q n =
      let s = none-cond (is_open_ended r) at (first_of (open_from (at ++ 0 ∷ []) e) (open_below at 1 r)) n in
      let left = none-left (open_from (at ++ 0 ∷ []) e) (open_below at 1 r) s.1 in
      let right = none-right (open_from (at ++ 0 ∷ []) e) (open_below at 1 r) s.1 in
      (complete-from def (at ++ 0 ∷ []) e _ _ d q.0 left, complete-below def at 1 r _ _ g q.1 s.0 right)
  complete-from def at (operator o) more kind h q n = tt
  complete-from def at (with_child f t) more kind (k, a, b) q n =
      let step = at ++ length (children_of f) ∷ [] in (
        complete-below def at 0 f _ _ a q.0 (going def f _ _ _ a) (none-left (open_below at 0 f) (open_from step t) n),
        complete-from def step t _ _ b q.1 (none-right (open_below at 0 f) (open_from step t) n),
      )
  complete-from def at (with_name f x) more kind (inl (s, a), b) q n = complete-below def at 0 f _ _ a q (going def f _ _ _ a) n
  complete-from def at (with_name f x) more kind (inr (s, a), b) q n = complete-below def at 0 f _ _ a q (going def f _ _ _ a) n
  complete-from def at (with_number f x) more kind (a, b) q n = complete-below def at 0 f _ _ a q (going def f _ _ _ a) n
  complete-from def at (with_text f x) more kind (a, b) q n = complete-below def at 0 f _ _ a q (going def f _ _ _ a) n
  complete-from def at anything more kind h q n = h
  complete-from def at (observed f) more kind h q n = absurd q

  complete-below : (def : Definition) (at : Path) (m : ℕ) (f : Fragment) (more : List Item) (kind : Kind) → Fits def f more kind → IsPlain f
      → is_open_ended f ≡ false → open_below at m f ≡ None → IsComplete f
  complete-below def at m (hole p) more kind h q o n = true≢false o
  complete-below def at m (ending l u) more kind h q o n = o
  complete-below def at m (cell l e r) more kind (a, b, k, c, d, g, i) q o n =
      let step = at ++ m ∷ [] in (
        complete-from def step e _ _ d q.0 (none-left (open_from step e) (open_below at (m + 1) r) n),
        complete-below def at (m + 1) r _ _ g q.1 o (none-right (open_from step e) (open_below at (m + 1) r) n),
      )
  complete-below def at m (operator o) more kind h q e n = tt
  complete-below def at m (with_child f t) more kind (k, a, b) q o n =
      let step = at ++ length (children_of f) ∷ [] in (
        complete-below def at m f _ _ a q.0 (going def f _ _ _ a) (none-left (open_below at m f) (open_from step t) n),
        complete-from def step t _ _ b q.1 (none-right (open_below at m f) (open_from step t) n),
      )
  complete-below def at m (with_name f x) more kind (inl (s, a), b) q o n = complete-below def at m f _ _ a q (going def f _ _ _ a) n
  complete-below def at m (with_name f x) more kind (inr (s, a), b) q o n = complete-below def at m f _ _ a q (going def f _ _ _ a) n
  complete-below def at m (with_number f x) more kind (a, b) q o n = complete-below def at m f _ _ a q (going def f _ _ _ a) n
  complete-below def at m (with_text f x) more kind (a, b) q o n = complete-below def at m f _ _ a q (going def f _ _ _ a) n
  complete-below def at m anything more kind h q o n = h
  complete-below def at m (observed f) more kind h q o n = absurd q

pub complete-is : (def : Definition) (f : Fragment) (kind : Kind) → WellFormed def f kind → None ≡ open_in f → IsComplete f
complete-is def f kind w h = complete-from def [] f [] kind w.0 w.1 (sym h)
