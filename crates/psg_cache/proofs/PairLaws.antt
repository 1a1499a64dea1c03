-- What two trees differ in: their tops, and their children one by one.
use Rattle.std.proofs.Common.{◌≡◌, ◌⊎◌, inl, inr, ℕ, zero, suc, ◌+◌, ◌<◌, ◌≤◌, ◌==◌, ◌&&◌, ◌||◌, Bool, true, false, cond, List, [], ◌∷◌, ◌++◌, length, take, get_or, slice_get, Option, Some, None, refl, sym, ◌∙◌, ap, ap₂, subst, append_assoc, append-nil, arith}
use Rattle.std.specs.Bool.{beq}
use Rattle.std.proofs.lemmas.Bool.{false≢true, and_parts, or_cases, or_parts, cases_Bool, eqb-true}
use Rattle.std.proofs.lemmas.List.{length-append, same_from_push}
use Rattle.std.proofs.lemmas.List.Sums.{sum_by-cons}
use Rattle.std.proofs.lemmas.Option.{none-some, same_Some}
use Rattle.psg_terms.proofs.Lists.{eqb-refl, beq_same}
use Rattle.psg_terms.proofs.DeclareLaws.{bytes_eq-same}
use Rattle.psg_grammar.specs.declared.types.Kind.{Kind}
use Rattle.psg_grammar.specs.declared.types.Item.{Item}
use Rattle.psg_grammar.specs.declared.types.Item.TheVariants as items
use Rattle.psg_grammar.specs.declared.types.Operator.{Operator}
use Rattle.psg_grammar.specs.declared.types.Definition.{Definition}
use Rattle.psg_grammar.specs.Fragments.{Fragment, hole, ending, cell, operator, with_child, with_name, with_number, with_text, anything, observed, children_of, top_operator}
use Rattle.psg_grammar.specs.Lookups.{part_items}
use Rattle.psg_grammar.specs.Paths.{IsList}
use Rattle.psg_grammar.specs.Same.{same_tree}
use Rattle.psg_grammar.specs.Work.{work_of, works_of}
use Rattle.psg_grammar.specs.WellFormed.{Fits}
use Rattle.psg_cache.specs.Alike.{diff_top, hole_number, is_paired}
use Rattle.psg_cache.specs.Diff.{agree, diff_below, diff_cells, diff_of, last_differing, list_number, place_before, same_some}
use Rattle.psg_cache.specs.Notes.{IsFormed}
use Rattle.psg_cache.proofs.Counting.{together}
use Rattle.psg_cache.proofs.DiffLaws.{diff-same}
use Rattle.psg_cache.proofs.RealTrees.{IsReal, IsSpine, real}

-- ---- the test tells equality

pub same_equal : (f g : Fragment) → same_tree f g ≡ true → f ≡ g
same_equal (hole p) (hole q) h = ap hole (eqb-true p q h)
same_equal (ending l u) (ending k v) h =
    let b = and_parts (l == k) (beq u v) h in ap₂ (λ x y. ending x y) (eqb-true l k b.0) (beq_same u v b.1)
same_equal (cell l e r) (cell k d s) h =
    let b = and_parts (l == k) (same_tree e d && same_tree r s) h in
    let c = and_parts (same_tree e d) (same_tree r s) b.1 in
    ap₂ (λ x y. cell x e y) (eqb-true l k b.0) (same_equal r s c.1) ∙ ap (λ x. cell k x s) (same_equal e d c.0)
same_equal (operator o) (operator p) h = ap operator (eqb-true o p h)
same_equal (with_child f t) (with_child g u) h =
    let b = and_parts (same_tree f g) (same_tree t u) h in
    ap₂ (λ x y. with_child x y) (same_equal f g b.0) (same_equal t u b.1)
same_equal (with_name f n) (with_name g m) h =
    let b = and_parts (same_tree f g) _ h in ap₂ (λ x y. with_name x y) (same_equal f g b.0) (bytes_eq-same n m b.1)
same_equal (with_number f n) (with_number g m) h =
    let b = and_parts (same_tree f g) (n == m) h in ap₂ (λ x y. with_number x y) (same_equal f g b.0) (eqb-true n m b.1)
same_equal (with_text f t) (with_text g u) h =
    let b = and_parts (same_tree f g) _ h in ap₂ (λ x y. with_text x y) (same_equal f g b.0) (bytes_eq-same t u b.1)
same_equal anything anything h = refl
same_equal (observed f) (observed g) h = ap observed (same_equal f g h)
same_equal (hole p) (ending k v) h = absurd (false≢true h)
same_equal (hole p) (cell k d s) h = absurd (false≢true h)
same_equal (hole p) (operator b) h = absurd (false≢true h)
same_equal (hole p) (with_child g x) h = absurd (false≢true h)
same_equal (hole p) (with_name g m) h = absurd (false≢true h)
same_equal (hole p) (with_number g m) h = absurd (false≢true h)
same_equal (hole p) (with_text g x) h = absurd (false≢true h)
same_equal (hole p) anything h = absurd (false≢true h)
same_equal (hole p) (observed g) h = absurd (false≢true h)
same_equal (ending l u) (hole q) h = absurd (false≢true h)
same_equal (ending l u) (cell k d s) h = absurd (false≢true h)
same_equal (ending l u) (operator b) h = absurd (false≢true h)
same_equal (ending l u) (with_child g x) h = absurd (false≢true h)
same_equal (ending l u) (with_name g m) h = absurd (false≢true h)
same_equal (ending l u) (with_number g m) h = absurd (false≢true h)
same_equal (ending l u) (with_text g x) h = absurd (false≢true h)
same_equal (ending l u) anything h = absurd (false≢true h)
same_equal (ending l u) (observed g) h = absurd (false≢true h)
same_equal (cell l c r) (hole q) h = absurd (false≢true h)
same_equal (cell l c r) (ending k v) h = absurd (false≢true h)
same_equal (cell l c r) (operator b) h = absurd (false≢true h)
same_equal (cell l c r) (with_child g x) h = absurd (false≢true h)
same_equal (cell l c r) (with_name g m) h = absurd (false≢true h)
same_equal (cell l c r) (with_number g m) h = absurd (false≢true h)
same_equal (cell l c r) (with_text g x) h = absurd (false≢true h)
same_equal (cell l c r) anything h = absurd (false≢true h)
same_equal (cell l c r) (observed g) h = absurd (false≢true h)
same_equal (operator o) (hole q) h = absurd (false≢true h)
same_equal (operator o) (ending k v) h = absurd (false≢true h)
same_equal (operator o) (cell k d s) h = absurd (false≢true h)
same_equal (operator o) (with_child g x) h = absurd (false≢true h)
same_equal (operator o) (with_name g m) h = absurd (false≢true h)
same_equal (operator o) (with_number g m) h = absurd (false≢true h)
same_equal (operator o) (with_text g x) h = absurd (false≢true h)
same_equal (operator o) anything h = absurd (false≢true h)
same_equal (operator o) (observed g) h = absurd (false≢true h)
same_equal (with_child f t) (hole q) h = absurd (false≢true h)
same_equal (with_child f t) (ending k v) h = absurd (false≢true h)
same_equal (with_child f t) (cell k d s) h = absurd (false≢true h)
same_equal (with_child f t) (operator b) h = absurd (false≢true h)
same_equal (with_child f t) (with_name g m) h = absurd (false≢true h)
same_equal (with_child f t) (with_number g m) h = absurd (false≢true h)
same_equal (with_child f t) (with_text g x) h = absurd (false≢true h)
same_equal (with_child f t) anything h = absurd (false≢true h)
same_equal (with_child f t) (observed g) h = absurd (false≢true h)
same_equal (with_name f n) (hole q) h = absurd (false≢true h)
same_equal (with_name f n) (ending k v) h = absurd (false≢true h)
same_equal (with_name f n) (cell k d s) h = absurd (false≢true h)
same_equal (with_name f n) (operator b) h = absurd (false≢true h)
same_equal (with_name f n) (with_child g x) h = absurd (false≢true h)
same_equal (with_name f n) (with_number g m) h = absurd (false≢true h)
same_equal (with_name f n) (with_text g x) h = absurd (false≢true h)
same_equal (with_name f n) anything h = absurd (false≢true h)
same_equal (with_name f n) (observed g) h = absurd (false≢true h)
same_equal (with_number f n) (hole q) h = absurd (false≢true h)
same_equal (with_number f n) (ending k v) h = absurd (false≢true h)
same_equal (with_number f n) (cell k d s) h = absurd (false≢true h)
same_equal (with_number f n) (operator b) h = absurd (false≢true h)
same_equal (with_number f n) (with_child g x) h = absurd (false≢true h)
same_equal (with_number f n) (with_name g m) h = absurd (false≢true h)
same_equal (with_number f n) (with_text g x) h = absurd (false≢true h)
same_equal (with_number f n) anything h = absurd (false≢true h)
same_equal (with_number f n) (observed g) h = absurd (false≢true h)
same_equal (with_text f t) (hole q) h = absurd (false≢true h)
same_equal (with_text f t) (ending k v) h = absurd (false≢true h)
same_equal (with_text f t) (cell k d s) h = absurd (false≢true h)
same_equal (with_text f t) (operator b) h = absurd (false≢true h)
same_equal (with_text f t) (with_child g x) h = absurd (false≢true h)
same_equal (with_text f t) (with_name g m) h = absurd (false≢true h)
same_equal (with_text f t) (with_number g m) h = absurd (false≢true h)
same_equal (with_text f t) anything h = absurd (false≢true h)
same_equal (with_text f t) (observed g) h = absurd (false≢true h)
same_equal anything (hole q) h = absurd (false≢true h)
same_equal anything (ending k v) h = absurd (false≢true h)
same_equal anything (cell k d s) h = absurd (false≢true h)
same_equal anything (operator b) h = absurd (false≢true h)
same_equal anything (with_child g x) h = absurd (false≢true h)
same_equal anything (with_name g m) h = absurd (false≢true h)
same_equal anything (with_number g m) h = absurd (false≢true h)
same_equal anything (with_text g x) h = absurd (false≢true h)
same_equal anything (observed g) h = absurd (false≢true h)
same_equal (observed f) (hole q) h = absurd (false≢true h)
same_equal (observed f) (ending k v) h = absurd (false≢true h)
same_equal (observed f) (cell k d s) h = absurd (false≢true h)
same_equal (observed f) (operator b) h = absurd (false≢true h)
same_equal (observed f) (with_child g x) h = absurd (false≢true h)
same_equal (observed f) (with_name g m) h = absurd (false≢true h)
same_equal (observed f) (with_number g m) h = absurd (false≢true h)
same_equal (observed f) (with_text g x) h = absurd (false≢true h)
same_equal (observed f) anything h = absurd (false≢true h)

pub same_false : (f g : Fragment) → (f ≡ g → ⊥) → same_tree f g ≡ false
same_false f g never = elim (cases_Bool (same_tree f g)) [ inl e ↦ absurd (never (same_equal f g e)) | inr e ↦ e ]

-- ---- the sums for children one by one

abbrev pub pairs : List Fragment → List Fragment → ℕ
pairs [] ds = together ds
pairs (c ∷ cs) [] = 0
pairs (c ∷ cs) (d ∷ ds) = diff_of c d + pairs cs ds

pairs_push : (cs ds : List Fragment) (t u : Fragment) → length cs ≡ length ds
    → pairs (cs ++ t ∷ []) (ds ++ u ∷ []) ≡ pairs cs ds + diff_of t u
pairs_push [] [] t u e = omega arith
pairs_push [] (d ∷ ds) t u e = absurd (omega (arith, e))
pairs_push (c ∷ cs) [] t u e = absurd (omega (arith, e))
pairs_push (c ∷ cs) (d ∷ ds) t u e = let h = pairs_push cs ds t u (omega (arith, e)) in omega (arith, h)

pairs_same : (cs : List Fragment) → pairs cs cs ≡ 0
pairs_same [] = omega arith
pairs_same (c ∷ cs) = let a = diff-same c (diff_below c c) in let b = pairs_same cs in omega (arith, a, b)

pairs_suc : (cs ds : List Fragment) (i : ℕ) (c d : Fragment) → i < length cs → i < length ds → c ≡ get_or cs i c
    → d ≡ get_or ds i d → pairs (take (suc i) cs) (take (suc i) ds) ≡ pairs (take i cs) (take i ds) + diff_of c d
pairs_suc [] ds i c d a b at to = absurd (omega (arith, a))
pairs_suc (x ∷ cs) [] i c d a b at to = absurd (omega (arith, b))
pairs_suc (x ∷ cs) (y ∷ ds) zero c d a b at to =
    let one : diff_of x y ≡ diff_of c d = ap₂ (λ m n. diff_of m n) (sym at) (sym to) in omega (arith, one)
pairs_suc (x ∷ cs) (y ∷ ds) (suc i) c d a b at to =
    let h = pairs_suc cs ds i c d (omega (arith, a)) (omega (arith, b)) at to in omega (arith, h)

pub pairs_next : (cs ds : List Fragment) (i : ℕ) (c d : Fragment) → i < length cs → i < length ds → c ≡ get_or cs i c
    → d ≡ get_or ds i d → pairs (take (i + 1) cs) (take (i + 1) ds) ≡ pairs (take i cs) (take i ds) + diff_of c d
pairs_next cs ds i c d a b at to =
    let one : suc i ≡ i + 1 = omega arith in
    subst (λ k. pairs (take k cs) (take k ds) ≡ pairs (take i cs) (take i ds) + diff_of c d) one
    (pairs_suc cs ds i c d a b at to)

pub pairs_front : (cs ds : List Fragment) (i : ℕ) → i ≤ length cs → pairs (take i cs) (take i ds) ≤ pairs cs ds
pairs_front [] ds zero a = omega arith
pairs_front (c ∷ cs) [] zero a = omega arith
pairs_front (c ∷ cs) (d ∷ ds) zero a = omega arith
pairs_front [] ds (suc i) a = absurd (omega (arith, a))
pairs_front (c ∷ cs) [] (suc i) a = omega arith
pairs_front (c ∷ cs) (d ∷ ds) (suc i) a = let h = pairs_front cs ds i (omega (arith, a)) in omega (arith, h)

-- ---- parts of one operator are of the same kinds

-- the kinds of the parts: subtrees, names, numbers, texts
abbrev sorts_of : Fragment → List ℕ
sorts_of (with_child f t) = sorts_of f ++ 0 ∷ []
sorts_of (with_name f n) = sorts_of f ++ 1 ∷ []
sorts_of (with_number f n) = sorts_of f ++ 2 ∷ []
sorts_of (with_text f t) = sorts_of f ++ 3 ∷ []
sorts_of _ = []

abbrev item_sorts : List Item → List ℕ
item_sorts [] = []
item_sorts (items.Slot k ∷ is) = 0 ∷ item_sorts is
item_sorts (items.Refers s ∷ is) = 1 ∷ item_sorts is
item_sorts (items.Declares s ∷ is) = 1 ∷ item_sorts is
item_sorts (items.Number ∷ is) = 2 ∷ item_sorts is
item_sorts (items.Text ∷ is) = 3 ∷ item_sorts is
item_sorts (_ ∷ is) = item_sorts is

no_end : (xs : List ℕ) (a : ℕ) → xs ++ a ∷ [] ≡ [] → ⊥
no_end [] a e = cc
no_end (x ∷ xs) a e = cc

module _ (def : Definition) where
  record IsSorted (f : Fragment) (more : List Item) : Type 0 where
    number : ℕ
    op : Operator
    top : top_operator f ≡ Some number
    found : slice_get def.operators number ≡ Some op
    sorts : item_sorts (part_items op.items) ≡ sorts_of f ++ item_sorts more

  longer : (f g : Fragment) (a : ℕ) (more next : List Item) → top_operator g ≡ top_operator f
      → sorts_of g ≡ sorts_of f ++ a ∷ [] → item_sorts next ≡ a ∷ item_sorts more → IsSorted f next → IsSorted g more
  longer f g a more next top sorts one h = record {
    number = h.number;
    op = h.op;
    top = top ∙ h.top;
    found = h.found;
    sorts =
        h.sorts ∙ ap (λ x. sorts_of f ++ x) one ∙ sym (append_assoc (sorts_of f) (a ∷ []) (item_sorts more))
        ∙ ap (λ x. x ++ item_sorts more) (sym sorts);
  }

  sorted : (f : Fragment) (more : List Item) (kind : Kind) → Fits def f more kind → IsSpine f → IsSorted f more
  sorted (operator o) more kind (op, found, e, k) s =
      record { number = o; op = op; top = refl; found = found; sorts = ap item_sorts (sym e) }
  sorted (with_child f t) more kind (k, hf, ht) s =
      longer f (with_child f t) 0 more (items.Slot k ∷ more) refl refl refl (sorted f (items.Slot k ∷ more) kind hf s)
  sorted (with_name f n) more kind (inl (a, h), name) s =
      longer f (with_name f n) 1 more (items.Refers a ∷ more) refl refl refl (sorted f (items.Refers a ∷ more) kind h s)
  sorted (with_name f n) more kind (inr (a, h), name) s =
      longer f (with_name f n) 1 more (items.Declares a ∷ more) refl refl refl
      (sorted f (items.Declares a ∷ more) kind h s)
  sorted (with_number f n) more kind (h, small) s =
      longer f (with_number f n) 2 more (items.Number ∷ more) refl refl refl (sorted f (items.Number ∷ more) kind h s)
  sorted (with_text f t) more kind (h, text) s =
      longer f (with_text f t) 3 more (items.Text ∷ more) refl refl refl (sorted f (items.Text ∷ more) kind h s)
  sorted (hole p) more kind h s = absurd s
  sorted (ending l u) more kind h s = absurd s
  sorted (cell l e r) more kind h s = absurd s
  sorted anything more kind h s = absurd s
  sorted (observed f) more kind h s = absurd s

  same_sorts : (f g : Fragment) (i j : Kind) → Fits def f [] i → Fits def g [] j → IsSpine f → IsSpine g
      → (o : ℕ) → top_operator f ≡ Some o → top_operator g ≡ Some o → sorts_of f ≡ sorts_of g
  same_sorts f g i j hf hg sf sg o tf tg =
      let a = sorted f [] i hf sf in
      let b = sorted g [] j hg sg in
      let one : a.number ≡ b.number = same_Some a.number b.number (sym a.top ∙ tf ∙ sym tg ∙ b.top) in
      let op : a.op ≡ b.op =
      same_Some a.op b.op (sym a.found ∙ ap (λ n. slice_get def.operators n) one ∙ b.found) in
      sym (append-nil (sorts_of f)) ∙ sym a.sorts ∙ ap (λ (x : Operator). item_sorts (part_items x.items)) op ∙ b.sorts
      ∙ append-nil (sorts_of g)

-- ---- the children of an operator

pairs_parts : (f g : Fragment) → IsSpine f → IsSpine g → sorts_of f ≡ sorts_of g
    → (length (children_of f) ≡ length (children_of g)) × (pairs (children_of f) (children_of g) ≤ diff_below f g)
pairs_parts (operator o) (operator p) sf sg e = (refl, omega arith)
pairs_parts (with_child f t) (with_child g u) sf sg e =
    let h = pairs_parts f g sf sg (same_from_push (sorts_of f) (sorts_of g) 0 0 e).0 in
    let long = h.0 in
    let less = h.1 in
    let m : length (children_of f ++ t ∷ []) ≡ length (children_of f) + 1 = length-append (children_of f) (t ∷ []) in
    let n : length (children_of g ++ u ∷ []) ≡ length (children_of g) + 1 = length-append (children_of g) (u ∷ []) in
    let sum = pairs_push (children_of f) (children_of g) t u long in (omega (arith, m, n, long), omega (arith, sum, less))
pairs_parts (with_name f n) (with_name g m) sf sg e =
    pairs_parts f g sf sg (same_from_push (sorts_of f) (sorts_of g) 1 1 e).0
pairs_parts (with_number f n) (with_number g m) sf sg e =
    pairs_parts f g sf sg (same_from_push (sorts_of f) (sorts_of g) 2 2 e).0
pairs_parts (with_text f t) (with_text g u) sf sg e =
    pairs_parts f g sf sg (same_from_push (sorts_of f) (sorts_of g) 3 3 e).0
pairs_parts (operator o) (hole q) sf sg e = absurd sg
pairs_parts (operator o) (ending k v) sf sg e = absurd sg
pairs_parts (operator o) (cell k d s) sf sg e = absurd sg
pairs_parts (operator o) (with_child g x) sf sg e = absurd (no_end (sorts_of g) 0 (sym e))
pairs_parts (operator o) (with_name g m) sf sg e = absurd (no_end (sorts_of g) 1 (sym e))
pairs_parts (operator o) (with_number g m) sf sg e = absurd (no_end (sorts_of g) 2 (sym e))
pairs_parts (operator o) (with_text g x) sf sg e = absurd (no_end (sorts_of g) 3 (sym e))
pairs_parts (operator o) anything sf sg e = absurd sg
pairs_parts (operator o) (observed g) sf sg e = absurd sg
pairs_parts (with_child f t) (hole q) sf sg e = absurd sg
pairs_parts (with_child f t) (ending k v) sf sg e = absurd sg
pairs_parts (with_child f t) (cell k d s) sf sg e = absurd sg
pairs_parts (with_child f t) (operator b) sf sg e = absurd (no_end (sorts_of f) 0 e)
pairs_parts (with_child f t) (with_name g m) sf sg e =
    let b : ◌≡◌ {A = ℕ} 0 1 = (same_from_push (sorts_of f) (sorts_of g) 0 1 e).1 in absurd (omega (arith, b))
pairs_parts (with_child f t) (with_number g m) sf sg e =
    let b : ◌≡◌ {A = ℕ} 0 2 = (same_from_push (sorts_of f) (sorts_of g) 0 2 e).1 in absurd (omega (arith, b))
pairs_parts (with_child f t) (with_text g x) sf sg e =
    let b : ◌≡◌ {A = ℕ} 0 3 = (same_from_push (sorts_of f) (sorts_of g) 0 3 e).1 in absurd (omega (arith, b))
pairs_parts (with_child f t) anything sf sg e = absurd sg
pairs_parts (with_child f t) (observed g) sf sg e = absurd sg
pairs_parts (with_name f n) (hole q) sf sg e = absurd sg
pairs_parts (with_name f n) (ending k v) sf sg e = absurd sg
pairs_parts (with_name f n) (cell k d s) sf sg e = absurd sg
pairs_parts (with_name f n) (operator b) sf sg e = absurd (no_end (sorts_of f) 1 e)
pairs_parts (with_name f n) (with_child g x) sf sg e =
    let b : ◌≡◌ {A = ℕ} 1 0 = (same_from_push (sorts_of f) (sorts_of g) 1 0 e).1 in absurd (omega (arith, b))
pairs_parts (with_name f n) (with_number g m) sf sg e =
    let b : ◌≡◌ {A = ℕ} 1 2 = (same_from_push (sorts_of f) (sorts_of g) 1 2 e).1 in absurd (omega (arith, b))
pairs_parts (with_name f n) (with_text g x) sf sg e =
    let b : ◌≡◌ {A = ℕ} 1 3 = (same_from_push (sorts_of f) (sorts_of g) 1 3 e).1 in absurd (omega (arith, b))
pairs_parts (with_name f n) anything sf sg e = absurd sg
pairs_parts (with_name f n) (observed g) sf sg e = absurd sg
pairs_parts (with_number f n) (hole q) sf sg e = absurd sg
pairs_parts (with_number f n) (ending k v) sf sg e = absurd sg
pairs_parts (with_number f n) (cell k d s) sf sg e = absurd sg
pairs_parts (with_number f n) (operator b) sf sg e = absurd (no_end (sorts_of f) 2 e)
pairs_parts (with_number f n) (with_child g x) sf sg e =
    let b : ◌≡◌ {A = ℕ} 2 0 = (same_from_push (sorts_of f) (sorts_of g) 2 0 e).1 in absurd (omega (arith, b))
pairs_parts (with_number f n) (with_name g m) sf sg e =
    let b : ◌≡◌ {A = ℕ} 2 1 = (same_from_push (sorts_of f) (sorts_of g) 2 1 e).1 in absurd (omega (arith, b))
pairs_parts (with_number f n) (with_text g x) sf sg e =
    let b : ◌≡◌ {A = ℕ} 2 3 = (same_from_push (sorts_of f) (sorts_of g) 2 3 e).1 in absurd (omega (arith, b))
pairs_parts (with_number f n) anything sf sg e = absurd sg
pairs_parts (with_number f n) (observed g) sf sg e = absurd sg
pairs_parts (with_text f t) (hole q) sf sg e = absurd sg
pairs_parts (with_text f t) (ending k v) sf sg e = absurd sg
pairs_parts (with_text f t) (cell k d s) sf sg e = absurd sg
pairs_parts (with_text f t) (operator b) sf sg e = absurd (no_end (sorts_of f) 3 e)
pairs_parts (with_text f t) (with_child g x) sf sg e =
    let b : ◌≡◌ {A = ℕ} 3 0 = (same_from_push (sorts_of f) (sorts_of g) 3 0 e).1 in absurd (omega (arith, b))
pairs_parts (with_text f t) (with_name g m) sf sg e =
    let b : ◌≡◌ {A = ℕ} 3 1 = (same_from_push (sorts_of f) (sorts_of g) 3 1 e).1 in absurd (omega (arith, b))
pairs_parts (with_text f t) (with_number g m) sf sg e =
    let b : ◌≡◌ {A = ℕ} 3 2 = (same_from_push (sorts_of f) (sorts_of g) 3 2 e).1 in absurd (omega (arith, b))
pairs_parts (with_text f t) anything sf sg e = absurd sg
pairs_parts (with_text f t) (observed g) sf sg e = absurd sg
pairs_parts (hole p) g sf sg e = absurd sf
pairs_parts (ending l u) g sf sg e = absurd sf
pairs_parts (cell l c r) g sf sg e = absurd sf
pairs_parts anything g sf sg e = absurd sf
pairs_parts (observed f) g sf sg e = absurd sf

-- ---- the elements of a list

pub works_list : (f : Fragment) → IsReal f → IsList f → together (children_of f) ≡ works_of f
works_list (ending l u) is list = omega arith
works_list (cell l e r) is list =
    let h = works_list r is.1 is.2 in omega (arith, h, sum_by-cons work_of e (children_of r))
works_list (hole p) is list = absurd list
works_list (operator o) is list = absurd list
works_list (with_child f t) is list = absurd list
works_list (with_name f n) is list = absurd list
works_list (with_number f n) is list = absurd list
works_list (with_text f t) is list = absurd list
works_list anything is list = absurd list
works_list (observed f) is list = absurd list

pairs_list : (f g : Fragment) → IsReal f → IsReal g → IsList f → IsList g
    → pairs (children_of f) (children_of g) ≤ diff_below f g
pairs_list (ending l u) (ending k v) rf rg lf lg = omega arith
pairs_list (ending l u) (cell k d s) rf rg lf lg = let h = works_list (cell k d s) rg tt in omega (arith, h)
pairs_list (cell l e r) (ending k v) rf rg lf lg = omega arith
pairs_list (cell l e r) (cell k d s) rf rg lf lg = let h = pairs_list r s rf.1 rg.1 rf.2 rg.2 in omega (arith, h)
pairs_list (ending l u) (hole q) rf rg lf lg = absurd lg
pairs_list (ending l u) (operator b) rf rg lf lg = absurd lg
pairs_list (ending l u) (with_child g x) rf rg lf lg = absurd lg
pairs_list (ending l u) (with_name g m) rf rg lf lg = absurd lg
pairs_list (ending l u) (with_number g m) rf rg lf lg = absurd lg
pairs_list (ending l u) (with_text g x) rf rg lf lg = absurd lg
pairs_list (ending l u) anything rf rg lf lg = absurd lg
pairs_list (ending l u) (observed g) rf rg lf lg = absurd lg
pairs_list (cell l c r) (hole q) rf rg lf lg = absurd lg
pairs_list (cell l c r) (operator b) rf rg lf lg = absurd lg
pairs_list (cell l c r) (with_child g x) rf rg lf lg = absurd lg
pairs_list (cell l c r) (with_name g m) rf rg lf lg = absurd lg
pairs_list (cell l c r) (with_number g m) rf rg lf lg = absurd lg
pairs_list (cell l c r) (with_text g x) rf rg lf lg = absurd lg
pairs_list (cell l c r) anything rf rg lf lg = absurd lg
pairs_list (cell l c r) (observed g) rf rg lf lg = absurd lg
pairs_list (hole p) g rf rg lf lg = absurd lf
pairs_list (operator o) g rf rg lf lg = absurd lf
pairs_list (with_child f t) g rf rg lf lg = absurd lf
pairs_list (with_name f n) g rf rg lf lg = absurd lf
pairs_list (with_number f n) g rf rg lf lg = absurd lf
pairs_list (with_text f t) g rf rg lf lg = absurd lf
pairs_list anything g rf rg lf lg = absurd lf
pairs_list (observed f) g rf rg lf lg = absurd lf

-- two lists that agree are equally long
pub agree_long : (f g : Fragment) → agree f g ≡ true → length (children_of f) ≡ length (children_of g)
agree_long (ending l u) (ending k v) h = refl
agree_long (cell l e r) (cell k d s) h = let n = agree_long r s h in omega (arith, n)
agree_long (ending l u) (hole q) h = absurd (false≢true h)
agree_long (ending l u) (cell k d s) h = absurd (false≢true h)
agree_long (ending l u) (operator b) h = absurd (false≢true h)
agree_long (ending l u) (with_child g x) h = absurd (false≢true h)
agree_long (ending l u) (with_name g m) h = absurd (false≢true h)
agree_long (ending l u) (with_number g m) h = absurd (false≢true h)
agree_long (ending l u) (with_text g x) h = absurd (false≢true h)
agree_long (ending l u) anything h = absurd (false≢true h)
agree_long (ending l u) (observed g) h = absurd (false≢true h)
agree_long (cell l c r) (hole q) h = absurd (false≢true h)
agree_long (cell l c r) (ending k v) h = absurd (false≢true h)
agree_long (cell l c r) (operator b) h = absurd (false≢true h)
agree_long (cell l c r) (with_child g x) h = absurd (false≢true h)
agree_long (cell l c r) (with_name g m) h = absurd (false≢true h)
agree_long (cell l c r) (with_number g m) h = absurd (false≢true h)
agree_long (cell l c r) (with_text g x) h = absurd (false≢true h)
agree_long (cell l c r) anything h = absurd (false≢true h)
agree_long (cell l c r) (observed g) h = absurd (false≢true h)
agree_long (hole p) g h = absurd (false≢true h)
agree_long (operator o) g h = absurd (false≢true h)
agree_long (with_child f t) g h = absurd (false≢true h)
agree_long (with_name f n) g h = absurd (false≢true h)
agree_long (with_number f n) g h = absurd (false≢true h)
agree_long (with_text f t) g h = absurd (false≢true h)
agree_long anything g h = absurd (false≢true h)
agree_long (observed f) g h = absurd (false≢true h)

place_some : (n : ℕ) → 1 ≤ place_before false n
place_some zero = omega arith
place_some (suc n) = omega arith

place_more : (b : Bool) (n k : ℕ) → suc k ≤ n → suc (suc k) ≤ place_before b n
place_more b zero k h = absurd (omega (arith, h))
place_more true (suc n) k h = omega (arith, h)
place_more false (suc n) k h = omega (arith, h)

-- the last place that differs is no nearer than any that differs
pub last_reaches : (f g : Fragment) → agree f g ≡ true → (k : ℕ) (c d : Fragment) → slice_get (children_of f) k ≡ Some c
    → slice_get (children_of g) k ≡ Some d → (c ≡ d → ⊥) → suc k ≤ last_differing f g
last_reaches (ending l u) g h k c d at to never = absurd (none-some c at)
last_reaches (cell l e r) (cell j x s) h zero c d at to never =
    let one : e ≡ c = same_Some e c at in
    let two : x ≡ d = same_Some x d to in
    let differ : same_tree e x ≡ false = same_false e x (λ q. never (sym one ∙ q ∙ two)) in
    let put = ap (λ b. place_before b (last_differing r s)) differ in
    omega (arith, put, place_some (last_differing r s))
last_reaches (cell l e r) (cell j x s) h (suc k) c d at to never =
    place_more (same_tree e x) (last_differing r s) k (last_reaches r s h k c d at to never)
last_reaches (cell l e r) (hole q) h k c d at to never = absurd (false≢true h)
last_reaches (cell l e r) (ending m v) h k c d at to never = absurd (false≢true h)
last_reaches (cell l e r) (operator b) h k c d at to never = absurd (false≢true h)
last_reaches (cell l e r) (with_child g x) h k c d at to never = absurd (false≢true h)
last_reaches (cell l e r) (with_name g m) h k c d at to never = absurd (false≢true h)
last_reaches (cell l e r) (with_number g m) h k c d at to never = absurd (false≢true h)
last_reaches (cell l e r) (with_text g x) h k c d at to never = absurd (false≢true h)
last_reaches (cell l e r) anything h k c d at to never = absurd (false≢true h)
last_reaches (cell l e r) (observed g) h k c d at to never = absurd (false≢true h)
last_reaches (hole p) g h k c d at to never = absurd (false≢true h)
last_reaches (operator o) g h k c d at to never = absurd (false≢true h)
last_reaches (with_child f t) g h k c d at to never = absurd (false≢true h)
last_reaches (with_name f n) g h k c d at to never = absurd (false≢true h)
last_reaches (with_number f n) g h k c d at to never = absurd (false≢true h)
last_reaches (with_text f t) g h k c d at to never = absurd (false≢true h)
last_reaches anything g h k c d at to never = absurd (false≢true h)
last_reaches (observed f) g h k c d at to never = absurd (false≢true h)

-- ---- the same operator, or lists of one kind

pub same_both : (a b : Option ℕ) → same_some a b ≡ true → (o : ℕ) × (a ≡ Some o) × (b ≡ Some o)
same_both (Some a) (Some b) h = (a, refl, ap Some (sym (eqb-true a b h)))
same_both (Some a) None h = absurd (false≢true h)
same_both None (Some b) h = absurd (false≢true h)
same_both None None h = absurd (false≢true h)

pub spine_of : (f : Fragment) (o : ℕ) → IsReal f → top_operator f ≡ Some o → IsSpine f
spine_of (operator p) o is top = tt
spine_of (with_child f t) o is top = is.2
spine_of (with_name f n) o is top = is.1
spine_of (with_number f n) o is top = is.1
spine_of (with_text f t) o is top = is.1
spine_of (hole p) o is top = absurd (none-some o top)
spine_of (ending l u) o is top = absurd (none-some o top)
spine_of (cell l e r) o is top = absurd (none-some o top)
spine_of anything o is top = absurd (none-some o top)
spine_of (observed f) o is top = absurd is

pub list_of_kind : (f : Fragment) (l : ℕ) → list_number f ≡ Some l → (IsList f) × (top_operator f ≡ None)
list_of_kind (ending k u) l e = (tt, refl)
list_of_kind (cell k d r) l e = (tt, refl)
list_of_kind (hole p) l e = absurd (none-some l e)
list_of_kind (operator o) l e = absurd (none-some l e)
list_of_kind (with_child f t) l e = absurd (none-some l e)
list_of_kind (with_name f n) l e = absurd (none-some l e)
list_of_kind (with_number f n) l e = absurd (none-some l e)
list_of_kind (with_text f t) l e = absurd (none-some l e)
list_of_kind anything l e = absurd (none-some l e)
list_of_kind (observed f) l e = absurd (none-some l e)

none_same : (a b : Option ℕ) → a ≡ None → same_some a b ≡ false
none_same a b e = ap (λ x. same_some x b) e

-- lists of one kind, by their number
pub lists_paired : (f g : Fragment) → same_some (list_number f) (list_number g) ≡ true
    → (IsList f) × (IsList g) × (same_some (top_operator f) (top_operator g) ≡ false)
lists_paired f g h =
    let (l, one, two) = same_both (list_number f) (list_number g) h in
    let a = list_of_kind f l one in
    let b = list_of_kind g l two in (a.0, b.0, none_same (top_operator f) (top_operator g) a.1)

-- what two trees differ in at the top, and each pair of children, is no more than the whole difference
module _ (def : Definition) where
  -- trees of one operator have as many children
  pub operators_long : (f g : Fragment) → IsFormed def f → IsFormed def g → (o : ℕ) → top_operator f ≡ Some o
      → top_operator g ≡ Some o → length (children_of f) ≡ length (children_of g)
  operators_long f g (i, (hf, pf)) (j, (hg, pg)) o one two =
      let sf = spine_of f o (real def f (i, (hf, pf))) one in
      let sg = spine_of g o (real def g (j, (hg, pg))) two in
      (pairs_parts f g sf sg (same_sorts def f g i j hf hg sf sg o one two)).0

  below_most : (f g : Fragment) → IsFormed def f → IsFormed def g → is_paired f g ≡ true
      → pairs (children_of f) (children_of g) ≤ diff_below f g
  below_most f g (i, (hf, pf)) (j, (hg, pg)) paired =
      let rf = real def f (i, (hf, pf)) in
      let rg = real def g (j, (hg, pg)) in
      elim (or_cases (same_some (top_operator f) (top_operator g)) (same_some (list_number f) (list_number g)) paired) [
        | inl e ↦
            let (o, one, two) = same_both (top_operator f) (top_operator g) e in
            let sf = spine_of f o rf one in
            let sg = spine_of g o rg two in
            (pairs_parts f g sf sg (same_sorts def f g i j hf hg sf sg o one two)).1
        | inr e ↦ let h = lists_paired f g e in pairs_list f g rf rg h.0 h.1
      ]

  pub whole_most : (f g : Fragment) → IsFormed def f → IsFormed def g → is_paired f g ≡ true
      → pairs (children_of f) (children_of g) + diff_top f g ≤ diff_of f g
  whole_most f g formed also paired =
      let below = below_most f g formed also paired in
      let tops : Bool = same_some (top_operator f) (top_operator g) in
      let lists : Bool = same_some (list_number f) (list_number g) in
      let list : ℕ = cond lists (diff_below f g + diff_cells f g) (work_of g) in
      elim (cases_Bool (same_tree f g)) [
        | inl e ↦
            let none : pairs (children_of f) (children_of g) ≡ 0 =
            ap (λ x. pairs (children_of f) (children_of x)) (sym (same_equal f g e)) ∙ pairs_same (children_of f) in
            let top : diff_top f g ≡ 0 = ap (λ b. cond b 0 (cond tops 1 (diff_cells f g))) e in
            omega (arith, none, top)
        | inr e ↦
            let top : diff_top f g ≡ cond tops 1 (diff_cells f g) =
            ap (λ b. cond b 0 (cond tops 1 (diff_cells f g))) e in
            let whole : diff_of f g ≡ cond tops (diff_below f g + 1) list =
            ap (λ b. cond b 0 (cond tops (diff_below f g + 1) list)) e in
            elim (cases_Bool tops) [
              | inl o ↦
                  let top_one : cond tops 1 (diff_cells f g) ≡ 1 = ap (λ b. cond b 1 (diff_cells f g)) o in
                  let whole_one : cond tops (diff_below f g + 1) list ≡ diff_below f g + 1 =
                  ap (λ b. cond b (diff_below f g + 1) list) o in
                  omega (arith, top, whole, top_one, whole_one, below)
              | inr o ↦
                  let kind : lists ≡ true =
                  elim (or_cases tops lists paired) [ inl x ↦ absurd (false≢true (sym o ∙ x)) | inr x ↦ x ] in
                  let top_two : cond tops 1 (diff_cells f g) ≡ diff_cells f g = ap (λ b. cond b 1 (diff_cells f g)) o in
                  let whole_two : cond tops (diff_below f g + 1) list ≡ diff_below f g + diff_cells f g =
                  ap (λ b. cond b (diff_below f g + 1) list) o ∙ ap (λ b. cond b (diff_below f g + diff_cells f g) (work_of g)) kind in
                  omega (arith, top, whole, top_two, whole_two, below)
            ]
      ]

-- a tree of another top is made whole
pub other_whole : (f g : Fragment) → is_paired f g ≡ false → (f ≡ g → ⊥) → diff_of f g ≡ work_of g
other_whole f g apart never =
    let tops : Bool = same_some (top_operator f) (top_operator g) in
    let lists : Bool = same_some (list_number f) (list_number g) in
    let b = or_parts tops lists apart in
    let list : ℕ = cond lists (diff_below f g + diff_cells f g) (work_of g) in
    ap (λ x. cond x 0 (cond tops (diff_below f g + 1) list)) (same_false f g never)
    ∙ ap (λ x. cond x (diff_below f g + 1) list) b.0
    ∙ ap (λ x. cond x (diff_below f g + diff_cells f g) (work_of g)) b.1

-- ---- placeholders

hole_of_number : (f : Fragment) (p : ℕ) → hole_number f ≡ Some p → f ≡ hole p
hole_of_number (hole q) p e = ap hole (same_Some q p e)
hole_of_number (ending l u) q e = absurd (none-some q e)
hole_of_number (cell l c r) q e = absurd (none-some q e)
hole_of_number (operator o) q e = absurd (none-some q e)
hole_of_number (with_child f t) q e = absurd (none-some q e)
hole_of_number (with_name f n) q e = absurd (none-some q e)
hole_of_number (with_number f n) q e = absurd (none-some q e)
hole_of_number (with_text f t) q e = absurd (none-some q e)
hole_of_number anything q e = absurd (none-some q e)
hole_of_number (observed f) q e = absurd (none-some q e)

pub same_hole : (f g : Fragment) → same_some (hole_number f) (hole_number g) ≡ true → f ≡ g
same_hole f g h =
    let (p, one, two) = same_both (hole_number f) (hole_number g) h in
    hole_of_number f p one ∙ sym (hole_of_number g p two)

spine_top : (f : Fragment) → IsSpine f → (o : ℕ) × (top_operator f ≡ Some o)
spine_top (operator o) s = (o, refl)
spine_top (with_child f t) s = spine_top f s
spine_top (with_name f n) s = spine_top f s
spine_top (with_number f n) s = spine_top f s
spine_top (with_text f t) s = spine_top f s
spine_top (hole p) s = absurd s
spine_top (ending l u) s = absurd s
spine_top (cell l e r) s = absurd s
spine_top anything s = absurd s
spine_top (observed f) s = absurd s

spine_paired : (f : Fragment) → IsSpine f → is_paired f f ≡ true
spine_paired f s =
    let (o, top) = spine_top f s in
    ap (λ x. same_some x x || same_some (list_number f) (list_number f)) top
    ∙ ap (λ b. b || same_some (list_number f) (list_number f)) (eqb-refl o)

-- a tree that is not paired with itself is a placeholder
alone : (f : Fragment) → IsReal f → is_paired f f ≡ false → same_some (hole_number f) (hole_number f) ≡ true
alone (hole p) is h = eqb-refl p
alone (ending l u) is h = absurd (false≢true (sym h ∙ eqb-refl l))
alone (cell l e r) is h = absurd (false≢true (sym h ∙ eqb-refl l))
alone (operator o) is h = absurd (false≢true (sym h ∙ spine_paired (operator o) tt))
alone (with_child f t) is h = absurd (false≢true (sym h ∙ spine_paired (with_child f t) is.2))
alone (with_name f n) is h = absurd (false≢true (sym h ∙ spine_paired (with_name f n) is.1))
alone (with_number f n) is h = absurd (false≢true (sym h ∙ spine_paired (with_number f n) is.1))
alone (with_text f t) is h = absurd (false≢true (sym h ∙ spine_paired (with_text f t) is.1))
alone anything is h = absurd is
alone (observed f) is h = absurd is

pub other_differs : (f g : Fragment) → IsReal f → is_paired f g ≡ false
    → same_some (hole_number f) (hole_number g) ≡ false → f ≡ g → ⊥
other_differs f g is apart others same =
    let itself = subst (λ x. is_paired f x ≡ false) (sym same) apart in
    let told = subst (λ x. same_some (hole_number f) (hole_number x) ≡ false) (sym same) others in
    false≢true (sym told ∙ alone f is itself)
