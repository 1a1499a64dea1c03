-- Children of changed nodes, and the notes of them.
use Rattle.std.proofs.Common.{◌≡◌, inl, inr, ℕ, zero, suc, ◌+◌, ◌<◌, ◌≤◌, ◌==◌, Bool, true, false, cond, List, [], ◌∷◌, ◌++◌, length, map, take, drop, get_or, slice_get, Some, None, refl, sym, ◌∙◌, ap, ap₂, subst, append_assoc, arith}
use Rattle.std.specs.List.{AllByRecursion}
use Rattle.std.proofs.lemmas.Bool.Decides.{eqb_tells}
use Rattle.std.proofs.lemmas.List.{drop_all, drop_at, drop-append-le, drop-map, length-append, length-take-le, map-append, take_at, take-append-le, take-map}
use Rattle.std.proofs.lemmas.Option.{none-some, slice_get_within}
use Rattle.psg_terms.proofs.Lists.{slice_get-end_is, slice_get-not_end}
use Rattle.psg_grammar.specs.declared.types.Definition.{Definition}
use Rattle.psg_grammar.specs.declared.types.Kind.{Kind}
use Rattle.psg_grammar.specs.declared.types.Kind.TheVariants as kinds
use Rattle.psg_grammar.specs.Fragments.{Fragment, hole, ending, cell, operator, with_child, with_name, with_number, with_text, anything, observed, children_of, top_operator}
use Rattle.psg_grammar.specs.Paths.{change_child, inserted, removed, IsList}
use Rattle.psg_cache.proofs.RealTrees.{IsReal, IsSpine}
use Rattle.psg_grammar.specs.Work.{leaving}
use Rattle.psg_grammar.specs.WellFormed.{Fits}
use Rattle.psg_tree.specs.declared.tree.Part.{Part}
use Rattle.psg_tree.specs.declared.tree.Part.TheVariants.{Sub, Name as Named, Number, Text}
use Rattle.psg_tree.specs.declared.tree.Shape.{Shape}
use Rattle.psg_tree.specs.declared.tree.Shape.TheVariants.{Op, List as ListOf, Hole}
use Rattle.psg_tree.specs.Shapes.{list_of, tree_of, with_parts}
use Rattle.psg_tree.proofs.Children.{children-list}
use Rattle.psg_cache.specs.Annotated.{Annotated, tree_in, whole_in}
use Rattle.psg_cache.specs.Changes.{remade_ticks}
use Rattle.psg_cache.specs.Noted.{IsNoted}
use Rattle.psg_cache.specs.Walks.{AreNotesOf}
use Rattle.psg_cache.proofs.Each.{each_append}

-- ---- a changed child

module _ (g : Fragment → Fragment) where
  pub children_changed : (f : Fragment) (k : ℕ) (c : Fragment) → slice_get (children_of f) k ≡ Some c
      → children_of (change_child g k f) ≡ take k (children_of f) ++ g c ∷ drop (suc k) (children_of f)
  children_changed (hole p) k c at = absurd (none-some c at)
  children_changed (ending l u) k c at = absurd (none-some c at)
  children_changed (cell l e r) zero c at =
      let same : e ≡ c = cc in ap (λ x. g x ∷ children_of r) same
  children_changed (cell l e r) (suc k) c at = ap (λ cs. e ∷ cs) (children_changed r k c at)
  children_changed (operator o) k c at = absurd (none-some c at)
  children_changed (with_child f t) k c at =
      let cs : List Fragment = children_of f in
      let B : Bool → Type 0 =
      λ b. children_of (cond b (with_child f (g t)) (with_child (change_child g k f) t))
      ≡ take k (cs ++ t ∷ []) ++ g c ∷ drop (suc k) (cs ++ t ∷ []) in
      let many : length (cs ++ t ∷ []) ≡ length cs + 1 = length-append cs (t ∷ []) in
      elim (eqb_tells (length (children_of f)) k) [
        | inl e ↦
            let there = subst (λ n. slice_get (children_of f ++ t ∷ []) n ≡ Some c) (sym e.1) at in
            let same : c ≡ t = slice_get-end_is (children_of f) t c there in
            let front : take k (cs ++ t ∷ []) ≡ cs = take_at cs (t ∷ []) k e.1 in
            let back : drop (suc k) (cs ++ t ∷ []) ≡ [] =
            drop_all (suc k) (cs ++ t ∷ []) (let q = e.1 in omega (arith, many, q)) in
            subst B (sym e.0)
            (ap (λ x. cs ++ g x ∷ []) (sym same) ∙ sym (ap₂ (λ a b. a ++ g c ∷ b) front back))
        | inr e ↦
            let inside = slice_get-not_end (children_of f) t c k e.1 at in
            let small : k < length cs = slice_get_within cs k c inside in
            let front : take k (cs ++ t ∷ []) ≡ take k cs = take-append-le k cs (t ∷ []) (omega (arith, small)) in
            let back : drop (suc k) (cs ++ t ∷ []) ≡ drop (suc k) cs ++ t ∷ [] =
            drop-append-le (suc k) cs (t ∷ []) (omega (arith, small)) in
            subst B (sym e.0)
            (ap (λ x. x ++ t ∷ []) (children_changed f k c inside)
            ∙ append_assoc (take k cs) (g c ∷ drop (suc k) cs) (t ∷ [])
            ∙ sym (ap₂ (λ a b. a ++ g c ∷ b) front back))
      ]
  children_changed (with_name f n) k c at = children_changed f k c at
  children_changed (with_number f n) k c at = children_changed f k c at
  children_changed (with_text f n) k c at = children_changed f k c at
  children_changed anything k c at = absurd (none-some c at)
  children_changed (observed f) k c at = children_changed f k c at

  top_changed : (f : Fragment) (k : ℕ) → top_operator (change_child g k f) ≡ top_operator f
  top_changed (hole p) k = refl
  top_changed (ending l u) k = refl
  top_changed (cell l e r) zero = refl
  top_changed (cell l e r) (suc k) = refl
  top_changed (operator o) k = refl
  top_changed (with_child f t) k =
      let B : Bool → Type 0 =
      λ b. top_operator (cond b (with_child f (g t)) (with_child (change_child g k f) t)) ≡ top_operator f in
      elim (eqb_tells (length (children_of f)) k) [
        | inl e ↦ subst B (sym e.0) refl
        | inr e ↦ subst B (sym e.0) (top_changed f k)
      ]
  top_changed (with_name f n) k = top_changed f k
  top_changed (with_number f n) k = top_changed f k
  top_changed (with_text f n) k = top_changed f k
  top_changed anything k = refl
  top_changed (observed f) k = top_changed f k

  -- how many evaluations a node takes above a changed child
  pub ticks_changed : (f : Fragment) (k : ℕ) (c : Fragment) → slice_get (children_of f) k ≡ Some c
      → remade_ticks (change_child g k f) (k + 1) ≡ leaving f k
  ticks_changed (hole p) k c at = refl
  ticks_changed (ending l u) k c at = refl
  ticks_changed (cell l e r) zero c at = refl
  ticks_changed (cell l e r) (suc k) c at = refl
  ticks_changed (operator o) k c at = refl
  ticks_changed (with_child f t) k c at =
      let B : Bool → Type 0 =
      λ b. remade_ticks (cond b (with_child f (g t)) (with_child (change_child g k f) t)) (k + 1) ≡ 1 in
      elim (eqb_tells (length (children_of f)) k) [
        | inl e ↦ subst B (sym e.0) refl
        | inr e ↦ subst B (sym e.0) refl
      ]
  ticks_changed (with_name f n) k c at = refl
  ticks_changed (with_number f n) k c at = refl
  ticks_changed (with_text f n) k c at = refl
  ticks_changed anything k c at = refl
  ticks_changed (observed f) k c at = refl

-- ---- lists

-- a list is one of its children
pub list_self : (f : Fragment) (l : ℕ) (es : List Fragment) (u : Bool) → f ≡ list_of l es u
    → f ≡ list_of l (children_of f) u
list_self f l es u e = e ∙ ap (λ x. list_of l x u) (sym (children-list l es u) ∙ ap children_of (sym e))

pub no_operator : (l : ℕ) (es : List Fragment) (u : Bool) → top_operator (list_of l es u) ≡ None
no_operator l [] u = refl
no_operator l (e ∷ es) u = refl

pub not_list : (f : Fragment) (o l : ℕ) (es : List Fragment) (u : Bool) → top_operator f ≡ Some o
    → f ≡ list_of l es u → ⊥
not_list f o l es u top e = none-some o (sym (ap top_operator e ∙ no_operator l es u) ∙ top)

cell_list : (l m : ℕ) (e r : Fragment) (es : List Fragment) (u : Bool) → cell l e r ≡ list_of m es u
    → (l ≡ m) × (ds : List Fragment) × (r ≡ list_of m ds u)
cell_list l m e r [] u h = absurd (cc)
cell_list l m e r (x ∷ es) u h = (cc, es, cc)

ending_list : (l m : ℕ) (v : Bool) (es : List Fragment) (u : Bool) → ending l v ≡ list_of m es u
    → ending l v ≡ list_of m [] u
ending_list l m v [] u h = h
ending_list l m v (x ∷ es) u h = absurd (cc)

longer_list : (l m : ℕ) (e r : Fragment) (ds : List Fragment) (u : Bool) → l ≡ m → r ≡ list_of m ds u
    → cell l e r ≡ list_of m (e ∷ ds) u
longer_list l m e r ds u a b = ap₂ (λ n x. cell n e x) a b

no_child : (f t : Fragment) (l : ℕ) (es : List Fragment) (u : Bool) → with_child f t ≡ list_of l es u → ⊥
no_child f t l [] u h = cc
no_child f t l (e ∷ es) u h = cc

-- the old node is such a list too
module _ (g : Fragment → Fragment) where
  pub list_changed : (f : Fragment) (k l : ℕ) (es : List Fragment) (u : Bool) → change_child g k f ≡ list_of l es u
      → (ds : List Fragment) × (f ≡ list_of l ds u)
  list_changed (ending m v) k l es u h = ([], ending_list m l v es u h)
  list_changed (cell m e r) zero l es u h =
      let (one, ds, two) = cell_list m l (g e) r es u h in (e ∷ ds, longer_list m l e r ds u one two)
  list_changed (cell m e r) (suc k) l es u h =
      let (one, ds, two) = cell_list m l e (change_child g k r) es u h in
      let (cs, rest) = list_changed r k l ds u two in
      (e ∷ cs, longer_list m l e r cs u one rest)
  list_changed (hole p) k l [] u h = absurd (cc)
  list_changed (hole p) k l (e ∷ es) u h = absurd (cc)
  list_changed (operator o) k l es u h = absurd (not_list (operator o) o l es u refl h)
  list_changed (with_child f t) k l es u h = no_cond (length (children_of f) == k) h where
    no_cond : (b : Bool) → cond b (with_child f (g t)) (with_child (change_child g k f) t) ≡ list_of l es u
        → (ds : List Fragment) × (with_child f t ≡ list_of l ds u)
    no_cond true h = absurd (no_child f (g t) l es u h)
    no_cond false h = absurd (no_child (change_child g k f) t l es u h)
  list_changed (with_name f n) k l [] u h = absurd (cc)
  list_changed (with_name f n) k l (e ∷ es) u h = absurd (cc)
  list_changed (with_number f n) k l [] u h = absurd (cc)
  list_changed (with_number f n) k l (e ∷ es) u h = absurd (cc)
  list_changed (with_text f n) k l [] u h = absurd (cc)
  list_changed (with_text f n) k l (e ∷ es) u h = absurd (cc)
  list_changed anything k l [] u h = absurd (cc)
  list_changed anything k l (e ∷ es) u h = absurd (cc)
  list_changed (observed f) k l [] u h = absurd (cc)
  list_changed (observed f) k l (e ∷ es) u h = absurd (cc)

pub children_inserted : (new : Fragment) (k : ℕ) (f : Fragment) → IsReal f → IsList f → k ≤ length (children_of f)
    → children_of (inserted k new f) ≡ take k (children_of f) ++ new ∷ drop k (children_of f)
children_inserted new zero (ending l u) real list small = refl
children_inserted new zero (cell l e r) real list small = refl
children_inserted new (suc k) (ending l u) real list small = absurd (omega (arith, small))
children_inserted new (suc k) (cell l e r) real list small =
    ap (λ cs. e ∷ cs) (children_inserted new k r real.1 real.2 (omega (arith, small)))
children_inserted new k (hole p) real list small = absurd list
children_inserted new k (operator o) real list small = absurd list
children_inserted new k (with_child f t) real list small = absurd list
children_inserted new k (with_name f n) real list small = absurd list
children_inserted new k (with_number f n) real list small = absurd list
children_inserted new k (with_text f n) real list small = absurd list
children_inserted new k anything real list small = absurd list
children_inserted new k (observed f) real list small = absurd list

pub list_inserted : (new : Fragment) (k : ℕ) (f : Fragment) → IsReal f → IsList f → (l : ℕ) (es : List Fragment)
    (u : Bool) → k ≤ length (children_of f) → inserted k new f ≡ list_of l es u
    → (ds : List Fragment) × (f ≡ list_of l ds u)
list_inserted new zero (ending m v) real list l es u small h =
    let (one, ds, two) = cell_list m l new (ending m v) es u h in (ds, two)
list_inserted new zero (cell m e r) real list l es u small h =
    let (one, ds, two) = cell_list m l new (cell m e r) es u h in (ds, two)
list_inserted new (suc k) (ending m v) real list l es u small h = absurd (omega (arith, small))
list_inserted new (suc k) (cell m e r) real list l es u small h =
    let (one, ds, two) = cell_list m l e (inserted k new r) es u h in
    let (cs, rest) = list_inserted new k r real.1 real.2 l ds u (omega (arith, small)) two in
    (e ∷ cs, longer_list m l e r cs u one rest)
list_inserted new k (hole p) real list l es u small h = absurd list
list_inserted new k (operator o) real list l es u small h = absurd list
list_inserted new k (with_child f t) real list l es u small h = absurd list
list_inserted new k (with_name f n) real list l es u small h = absurd list
list_inserted new k (with_number f n) real list l es u small h = absurd list
list_inserted new k (with_text f n) real list l es u small h = absurd list
list_inserted new k anything real list l es u small h = absurd list
list_inserted new k (observed f) real list l es u small h = absurd list

pub ticks_inserted : (new : Fragment) (k n : ℕ) (f : Fragment) → IsReal f → IsList f → k ≤ length (children_of f)
    → remade_ticks (inserted k new f) n ≡ n
ticks_inserted new zero n (ending l u) real list small = refl
ticks_inserted new zero n (cell l e r) real list small = refl
ticks_inserted new (suc k) n (ending l u) real list small = absurd (omega (arith, small))
ticks_inserted new (suc k) n (cell l e r) real list small = refl
ticks_inserted new k n (hole p) real list small = absurd list
ticks_inserted new k n (operator o) real list small = absurd list
ticks_inserted new k n (with_child f t) real list small = absurd list
ticks_inserted new k n (with_name f x) real list small = absurd list
ticks_inserted new k n (with_number f x) real list small = absurd list
ticks_inserted new k n (with_text f x) real list small = absurd list
ticks_inserted new k n anything real list small = absurd list
ticks_inserted new k n (observed f) real list small = absurd list

pub children_removed : (k : ℕ) (f : Fragment) → IsReal f → IsList f → k < length (children_of f)
    → children_of (removed k f) ≡ take k (children_of f) ++ drop (suc k) (children_of f)
children_removed zero (cell l e r) real list small = refl
children_removed (suc k) (cell l e r) real list small =
    ap (λ cs. e ∷ cs) (children_removed k r real.1 real.2 (omega (arith, small)))
children_removed k (ending l u) real list small = absurd (omega (arith, small))
children_removed k (hole p) real list small = absurd list
children_removed k (operator o) real list small = absurd list
children_removed k (with_child f t) real list small = absurd list
children_removed k (with_name f n) real list small = absurd list
children_removed k (with_number f n) real list small = absurd list
children_removed k (with_text f n) real list small = absurd list
children_removed k anything real list small = absurd list
children_removed k (observed f) real list small = absurd list

pub ticks_removed : (k n : ℕ) (f : Fragment) → IsReal f → IsList f → k < length (children_of f)
    → remade_ticks (removed k f) n ≡ n
ticks_removed zero n (cell l e (cell m d r)) real list small = refl
ticks_removed zero n (cell l e (ending m u)) real list small = refl
ticks_removed zero n (cell l e (hole p)) real list small = absurd real.2
ticks_removed zero n (cell l e (operator o)) real list small = absurd real.2
ticks_removed zero n (cell l e (with_child f t)) real list small = absurd real.2
ticks_removed zero n (cell l e (with_name f t)) real list small = absurd real.2
ticks_removed zero n (cell l e (with_number f t)) real list small = absurd real.2
ticks_removed zero n (cell l e (with_text f t)) real list small = absurd real.2
ticks_removed zero n (cell l e anything) real list small = absurd real.2
ticks_removed zero n (cell l e (observed f)) real list small = absurd real.2
ticks_removed (suc k) n (cell l e r) real list small = refl
ticks_removed k n (ending l u) real list small = absurd (omega (arith, small))
ticks_removed k n (hole p) real list small = absurd list
ticks_removed k n (operator o) real list small = absurd list
ticks_removed k n (with_child f t) real list small = absurd list
ticks_removed k n (with_name f x) real list small = absurd list
ticks_removed k n (with_number f x) real list small = absurd list
ticks_removed k n (with_text f x) real list small = absurd list
ticks_removed k n anything real list small = absurd list
ticks_removed k n (observed f) real list small = absurd list

same_number : (l m : ℕ) → kinds.List l ≡ kinds.List m → l ≡ m
same_number l m e = cc

module _ (def : Definition) where
  kind_of_list : (l m : ℕ) (ds : List Fragment) (u : Bool) → Fits def (list_of m ds u) [] (kinds.List l) → l ≡ m
  kind_of_list l m [] u h = same_number l m h.1
  kind_of_list l m (d ∷ ds) u h = same_number l m h.1

  pub list_removed : (k : ℕ) (f : Fragment) (kind : Kind) → Fits def f [] kind → IsReal f → IsList f → (l : ℕ)
      (es : List Fragment) (u : Bool) → k < length (children_of f) → removed k f ≡ list_of l es u
      → (ds : List Fragment) × (f ≡ list_of l ds u)
  list_removed zero (cell m e r) kind h real list l es u small same =
      let (a, b, own, at, fe, shape, z) = h in
      let one : m ≡ l = kind_of_list m l es u (subst (λ x. Fits def x [] (kinds.List m)) same shape) in
      (e ∷ es, longer_list m l e r es u one same)
  list_removed (suc k) (cell m e r) kind h real list l es u small same =
      let (a, b, own, at, fe, shape, z) = h in
      let (one, ds, two) = cell_list m l e (removed k r) es u same in
      let (cs, rest) = list_removed k r (kinds.List m) shape real.1 real.2 l ds u
      (omega (arith, small)) two in
      (e ∷ cs, longer_list m l e r cs u one rest)
  list_removed k (ending m v) kind h real list l es u small same = absurd (omega (arith, small))
  list_removed k (hole p) kind h real list l es u small same = absurd list
  list_removed k (operator o) kind h real list l es u small same = absurd list
  list_removed k (with_child f t) kind h real list l es u small same = absurd list
  list_removed k (with_name f n) kind h real list l es u small same = absurd list
  list_removed k (with_number f n) kind h real list l es u small same = absurd list
  list_removed k (with_text f n) kind h real list l es u small same = absurd list
  list_removed k anything kind h real list l es u small same = absurd list
  list_removed k (observed f) kind h real list l es u small same = absurd list

-- ---- notes in place of notes

module _ (def : Definition) where
  pub notes_append : (cs ds : List Fragment) (ns ms : List Annotated) → AreNotesOf def cs ns → AreNotesOf def ds ms
      → AreNotesOf def (cs ++ ds) (ns ++ ms)
  notes_append cs ds ns ms h k = (
    map-append tree_in ns ms ∙ ap₂ (λ a b. a ++ b) h.0 k.0,
    each_append (IsNoted def) ns ms h.1 k.1,
  )

  each_take : (k : ℕ) (ns : List Annotated) → AllByRecursion (IsNoted def) ns → AllByRecursion (IsNoted def) (take k ns)
  each_take zero ns h = tt
  each_take (suc k) [] h = tt
  each_take (suc k) (n ∷ ns) h = (h.0, each_take k ns h.1)

  each_drop : (k : ℕ) (ns : List Annotated) → AllByRecursion (IsNoted def) ns → AllByRecursion (IsNoted def) (drop k ns)
  each_drop zero ns h = h
  each_drop (suc k) [] h = tt
  each_drop (suc k) (n ∷ ns) h = each_drop k ns h.1

  pub notes_take : (k : ℕ) (cs : List Fragment) (ns : List Annotated) → AreNotesOf def cs ns
      → AreNotesOf def (take k cs) (take k ns)
  notes_take k cs ns h = (sym (take-map tree_in k ns) ∙ ap (take k) h.0, each_take k ns h.1)

  pub notes_drop : (k : ℕ) (cs : List Fragment) (ns : List Annotated) → AreNotesOf def cs ns
      → AreNotesOf def (drop k cs) (drop k ns)
  notes_drop k cs ns h = (sym (drop-map tree_in k ns) ∙ ap (drop k) h.0, each_drop k ns h.1)

  pub notes_spliced : (p b : ℕ) (cs ds : List Fragment) (ns ms : List Annotated) → AreNotesOf def cs ns
      → AreNotesOf def ds ms
      → AreNotesOf def ((take p cs ++ ds) ++ drop b cs) ((take p ns ++ ms) ++ drop b ns)
  notes_spliced p b cs ds ns ms h k =
      notes_append (take p cs ++ ds) (drop b cs) (take p ns ++ ms) (drop b ns)
      (notes_append (take p cs) ds (take p ns) ms (notes_take p cs ns h) k) (notes_drop b cs ns h)

-- what stands behind the new ones
pub kept_behind : {X : Type 0} (p b : ℕ) (ns ms : List X) (n : ℕ) → p ≤ length ns → n ≡ p + length ms
    → drop n ((take p ns ++ ms) ++ drop b ns) ≡ drop b ns
kept_behind p b ns ms n small many =
    let front : length (take p ns) ≡ p = length-take-le p ns small in
    let all : length (take p ns ++ ms) ≡ length (take p ns) + length ms = length-append (take p ns) ms in
    drop_at (take p ns ++ ms) (drop b ns) n (omega (arith, front, all, many))

-- what stands in front of them
pub taken_front : {X : Type 0} (p b : ℕ) (ns ms : List X) → p ≤ length ns
    → take p ((take p ns ++ ms) ++ drop b ns) ≡ take p ns
taken_front p b ns ms small =
    ap (take p) (append_assoc (take p ns) ms (drop b ns))
    ∙ take_at (take p ns) (ms ++ drop b ns) p (length-take-le p ns small)

-- one with the same summary in the place of another
pub spliced_same : (k : ℕ) (ns : List Annotated) (c old : Annotated) → k < length ns → old ≡ get_or ns k old
    → whole_in c ≡ whole_in old
    → map whole_in ((take k ns ++ c ∷ []) ++ drop (suc k) ns) ≡ map whole_in ns
spliced_same k [] c old small at same = absurd (omega (arith, small))
spliced_same zero (n ∷ ns) c old small at same = ap (λ s. s ∷ map whole_in ns) (same ∙ ap whole_in at)
spliced_same (suc k) (n ∷ ns) c old small at same =
    ap (λ ss. whole_in n ∷ ss) (spliced_same k ns c old (omega (arith, small)) at same)

pub long_enough : {X : Type 0} (p b : ℕ) (ns ms : List X) (n : ℕ) → p ≤ length ns → n ≡ p + length ms
    → n ≤ length ((take p ns ++ ms) ++ drop b ns)
long_enough p b ns ms n small many =
    let front : length (take p ns) ≡ p = length-take-le p ns small in
    let all : length (take p ns ++ ms) ≡ length (take p ns) + length ms = length-append (take p ns) ms in
    let whole : length ((take p ns ++ ms) ++ drop b ns) ≡ length (take p ns ++ ms) + length (drop b ns) =
    length-append (take p ns ++ ms) (drop b ns) in
    omega (arith, front, all, whole, many)

-- ---- how many evaluations a node takes

spine_ticks : (f : Fragment) (ps : List Part) (n : ℕ) → IsSpine f → remade_ticks (with_parts f ps) n ≡ 1
spine_ticks (operator o) [] n s = refl
spine_ticks (with_child f t) [] n s = refl
spine_ticks (with_name f t) [] n s = refl
spine_ticks (with_number f t) [] n s = refl
spine_ticks (with_text f t) [] n s = refl
spine_ticks (hole p) [] n s = absurd s
spine_ticks (ending l u) [] n s = absurd s
spine_ticks (cell l e r) [] n s = absurd s
spine_ticks anything [] n s = absurd s
spine_ticks (observed f) [] n s = absurd s
spine_ticks f (Sub t ∷ ps) n s = spine_ticks (with_child f t) ps n s
spine_ticks f (Named t ∷ ps) n s = spine_ticks (with_name f t) ps n s
spine_ticks f (Number t ∷ ps) n s = spine_ticks (with_number f t) ps n s
spine_ticks f (Text t ∷ ps) n s = spine_ticks (with_text f t) ps n s

pub hole_ticks : (s : Shape) (p : ℕ) (f : Fragment) (n : ℕ) → s ≡ Hole p → tree_of s ≡ f → remade_ticks f n ≡ 1
hole_ticks s p f n e there = ap (λ x. remade_ticks x n) (sym there ∙ ap tree_of e)

pub operator_ticks : (s : Shape) (o : ℕ) (ps : List Part) (f : Fragment) (n : ℕ) → s ≡ Op o ps → tree_of s ≡ f
    → remade_ticks f n ≡ 1
operator_ticks s o ps f n e there =
    ap (λ x. remade_ticks x n) (sym there ∙ ap tree_of e) ∙ spine_ticks (operator o) ps n tt

pub list_ticks : (s : Shape) (l : ℕ) (es : List Fragment) (u : Bool) (f : Fragment) (n : ℕ) → s ≡ ListOf l es u
    → tree_of s ≡ f → remade_ticks f n ≡ n
list_ticks s l es u f n e there = ap (λ x. remade_ticks x n) (sym there ∙ ap tree_of e) ∙ go es where
  go : (es : List Fragment) → remade_ticks (list_of l es u) n ≡ n
  go [] = refl
  go (x ∷ es) = refl

pub spine_once : (f : Fragment) (o n : ℕ) → top_operator f ≡ Some o → remade_ticks f n ≡ 1
spine_once (operator k) o n top = refl
spine_once (with_child f t) o n top = refl
spine_once (with_name f t) o n top = refl
spine_once (with_number f t) o n top = refl
spine_once (with_text f t) o n top = refl
spine_once (hole p) o n top = refl
spine_once (ending l u) o n top = absurd (none-some o top)
spine_once (cell l e r) o n top = absurd (none-some o top)
spine_once anything o n top = refl
spine_once (observed f) o n top = refl

-- none of them takes at most as many as some
pub fewer_ticks : (f : Fragment) (n : ℕ) → remade_ticks f 0 ≤ remade_ticks f (n + 1)
fewer_ticks (operator k) n = omega arith
fewer_ticks (with_child f t) n = omega arith
fewer_ticks (with_name f t) n = omega arith
fewer_ticks (with_number f t) n = omega arith
fewer_ticks (with_text f t) n = omega arith
fewer_ticks (hole p) n = omega arith
fewer_ticks (ending l u) n = omega arith
fewer_ticks (cell l e r) n = omega arith
fewer_ticks anything n = omega arith
fewer_ticks (observed f) n = omega arith
