-- Trees with other names, one for one, and without their literals: their nodes and regions are the same.
use Rattle.std.proofs.Common.{◌≡◌, ℕ, ◌+◌, Bool, true, false, cond, not, ◌&&◌, ◌||◌, List, [], ◌∷◌, ◌++◌, map, Option, Some, None, refl, ap, ap₂, sym, ◌∙◌}
use Rattle.std.proofs.lemmas.List.{map-append}
use Rattle.psg_terms.specs.Names.{Name, is_among, has_twice}
use Rattle.psg_grammar.specs.declared.types.Item.{Item}
use Rattle.psg_grammar.specs.declared.types.Item.TheVariants as items
use Rattle.psg_grammar.specs.declared.types.Definition.{Definition}
use Rattle.psg_grammar.specs.Fragments.{Fragment, hole, ending, cell, operator, with_child, with_name, with_number, with_text, anything, observed, top_operator, parts_count}
use Rattle.psg_grammar.specs.Keys.{Key, space_of, outward}
use Rattle.psg_grammar.specs.Lookups.{is_scope, next_item, is_declares, key_at, key_of}
use Rattle.psg_grammar.specs.Regions.{declared_inside, names_inside, unfinished_inside, passing, AreDistinct, DistinctBelow, IsDistinct}
use Rattle.psg_renaming.proofs.Permuting.{Permutation, among_image, twice_image}

module _ (p : Permutation) where
  -- the tree with the new names, and with the number 0 or the empty text for each literal
  abbrev pub turned : Fragment → Fragment
  turned (hole q) = hole q
  turned (ending l u) = ending l u
  turned (cell l e r) = cell l (turned e) (turned r)
  turned (operator o) = operator o
  turned (with_child f t) = with_child (turned f) (turned t)
  turned (with_name f n) = with_name (turned f) (p.to n)
  turned (with_number f n) = with_number (turned f) 0
  turned (with_text f t) = with_text (turned f) []
  turned anything = anything
  turned (observed f) = observed (turned f)

  abbrev pub new_key : Key → Key
  new_key [] = []
  new_key (s ∷ n) = s ∷ p.to n

  abbrev pub old_key : Key → Key
  old_key [] = []
  old_key (s ∷ n) = s ∷ p.back n

  pub undo_key : (k : Key) → old_key (new_key k) ≡ k
  undo_key [] = refl
  undo_key (s ∷ n) = ap (λ m. s ∷ m) (p.undo n)

  pub redo_key : (k : Key) → new_key (old_key k) ≡ k
  redo_key [] = refl
  redo_key (s ∷ n) = ap (λ m. s ∷ m) (p.redo n)

  pub space_new : (k : Key) → space_of (new_key k) ≡ space_of k
  space_new [] = refl
  space_new (s ∷ n) = refl

  pub space_old : (k : Key) → space_of (old_key k) ≡ space_of k
  space_old [] = refl
  space_old (s ∷ n) = refl

  pub among_new : (ks : List Key) (k : Key) → is_among (map new_key ks) (new_key k) ≡ is_among ks k
  among_new = among_image new_key old_key undo_key

  pub among_old : (ks : List Key) (k : Key) → is_among (map new_key ks) k ≡ is_among ks (old_key k)
  among_old ks k = ap (is_among (map new_key ks)) (sym (redo_key k)) ∙ among_new ks (old_key k)

  pub twice_new : (ks : List Key) → has_twice (map new_key ks) ≡ has_twice ks
  twice_new = twice_image new_key old_key undo_key

  -- ---- the node itself is the same

  pub same_top : (f : Fragment) → top_operator (turned f) ≡ top_operator f
  same_top (hole q) = refl
  same_top (ending l u) = refl
  same_top (cell l e r) = refl
  same_top (operator o) = refl
  same_top (with_child f t) = same_top f
  same_top (with_name f n) = same_top f
  same_top (with_number f n) = same_top f
  same_top (with_text f t) = same_top f
  same_top anything = refl
  same_top (observed f) = same_top f

  same_count : (f : Fragment) → parts_count (turned f) ≡ parts_count f
  same_count (hole q) = refl
  same_count (ending l u) = refl
  same_count (cell l e r) = refl
  same_count (operator o) = refl
  same_count (with_child f t) = ap (λ n. n + 1) (same_count f)
  same_count (with_name f n) = ap (λ n. n + 1) (same_count f)
  same_count (with_number f n) = ap (λ n. n + 1) (same_count f)
  same_count (with_text f t) = ap (λ n. n + 1) (same_count f)
  same_count anything = refl
  same_count (observed f) = same_count f

  key_of-new : (i : Option Item) (n : Name) → key_of i (p.to n) ≡ new_key (key_of i n)
  key_of-new None n = refl
  key_of-new (Some (items.Word w)) n = refl
  key_of-new (Some (items.Slot k)) n = refl
  key_of-new (Some (items.Refers s)) n = refl
  key_of-new (Some (items.Declares s)) n = refl
  key_of-new (Some items.Number) n = refl
  key_of-new (Some items.Text) n = refl
  key_of-new (Some items.Space) n = refl
  key_of-new (Some items.Tight) n = refl
  key_of-new (Some items.Line) n = refl
  key_of-new (Some items.In) n = refl
  key_of-new (Some items.Out) n = refl

  module _ (def : Definition) where
    pub same_scope : (f : Fragment) → is_scope def (turned f) ≡ is_scope def f
    same_scope f = let e = same_top f in cc

    same_item : (f : Fragment) → next_item def (turned f) ≡ next_item def f
    same_item f = let e = same_top f in let d = same_count f in cc

    pub key_at-new : (f : Fragment) (n : Name) → key_at def (turned f) (p.to n) ≡ new_key (key_at def f n)
    key_at-new f n = ap (λ i. key_of i (p.to n)) (same_item f) ∙ key_of-new (next_item def f) n

  -- ---- regions

  map-cond : (b : Bool) (xs : List Key) → cond b [] (map new_key xs) ≡ map new_key (cond b [] xs)
  map-cond true xs = refl
  map-cond false xs = refl

  map-one : (b : Bool) (k : Key) → cond b (new_key k ∷ []) [] ≡ map new_key (cond b (k ∷ []) [])
  map-one true k = refl
  map-one false k = refl

  pub kept-new : (b : Bool) (k : Key) (ks : List Key)
      → cond b (map new_key ks) (new_key k ∷ map new_key ks) ≡ map new_key (cond b ks (k ∷ ks))
  kept-new true k ks = refl
  kept-new false k ks = refl

  outward-new : (u w : ℕ → Bool) (d ns : List Key) → ((s : ℕ) → u s ≡ w s)
      → outward u (map new_key d) (map new_key ns) ≡ map new_key (outward w d ns)
  outward-new u w d [] same = refl
  outward-new u w d (n ∷ ns) same =
      ap₂ (λ b l. cond b l (new_key n ∷ l))
      (ap₂ (λ a b. a || b) (same (space_of (new_key n)) ∙ ap w (space_new n)) (among_new d n))
      (outward-new u w d ns same)
      ∙ kept-new (w (space_of n) || is_among d n) n (outward w d ns)

  passing-new : (scope : Bool) (u w : ℕ → Bool) (d ns : List Key) → ((s : ℕ) → u s ≡ w s)
      → passing scope u (map new_key d) (map new_key ns) ≡ map new_key (passing scope w d ns)
  passing-new true u w d ns same = outward-new u w d ns same
  passing-new false u w d ns same = refl

  module _ (def : Definition) where
    pub declared_new : (f : Fragment) → declared_inside def (turned f) ≡ map new_key (declared_inside def f)
    declared_new (hole q) = refl
    declared_new (ending l u) = refl
    declared_new (cell l e r) =
        ap₂ (λ a b. a ++ b)
        (ap₂ (λ s d. cond s [] d) (same_scope def e) (declared_new e) ∙ map-cond (is_scope def e)
        (declared_inside def e)) (declared_new r)
        ∙ sym (map-append new_key (cond (is_scope def e) [] (declared_inside def e)) (declared_inside def r))
    declared_new (operator o) = refl
    declared_new (with_child f t) =
        ap₂ (λ a b. a ++ b) (declared_new f)
        (ap₂ (λ s d. cond s [] d) (same_scope def t) (declared_new t) ∙ map-cond (is_scope def t)
        (declared_inside def t))
        ∙ sym (map-append new_key (declared_inside def f) (cond (is_scope def t) [] (declared_inside def t)))
    declared_new (with_name f n) =
        ap₂ (λ a b. a ++ b) (declared_new f)
        (ap₂ (λ i k. cond (is_declares i) (k ∷ []) []) (same_item def f) (key_at-new def f n) ∙ map-one
        (is_declares (next_item def f)) (key_at def f n))
        ∙ sym (map-append new_key (declared_inside def f)
        (cond (is_declares (next_item def f)) (key_at def f n ∷ []) []))
    declared_new (with_number f n) = declared_new f
    declared_new (with_text f t) = declared_new f
    declared_new anything = refl
    declared_new (observed f) = declared_new f

    pub unfinished_new : (f : Fragment) (s : ℕ) → unfinished_inside def s (turned f) ≡ unfinished_inside def s f
    unfinished_new (hole q) s = refl
    unfinished_new (ending l u) s = refl
    unfinished_new (cell l e r) s =
        ap₂ (λ a b. a || b) (ap₂ (λ c d. not c && d) (same_scope def e) (unfinished_new e s)) (unfinished_new r s)
    unfinished_new (operator o) s = refl
    unfinished_new (with_child f t) s =
        ap₂ (λ a b. a || b) (unfinished_new f s) (ap₂ (λ c d. not c && d) (same_scope def t) (unfinished_new t s))
    unfinished_new (with_name f n) s = unfinished_new f s
    unfinished_new (with_number f n) s = unfinished_new f s
    unfinished_new (with_text f t) s = unfinished_new f s
    unfinished_new anything s = refl
    unfinished_new (observed f) s = unfinished_new f s

    -- the keys that pass outward from a tree with these inside
    pub passing_of : (t : Fragment) → names_inside def (turned t) ≡ map new_key (names_inside def t)
        → passing (is_scope def (turned t)) (λ s. unfinished_inside def s (turned t)) (declared_inside def (turned t))
        (names_inside def (turned t))
        ≡ map new_key (passing (is_scope def t) (λ s. unfinished_inside def s t) (declared_inside def t)
        (names_inside def t))
    passing_of t names =
        ap (λ b. passing b (λ s. unfinished_inside def s (turned t)) (declared_inside def (turned t))
        (names_inside def (turned t))) (same_scope def t)
        ∙ ap₂ (λ d ns. passing (is_scope def t) (λ s. unfinished_inside def s (turned t)) d ns) (declared_new t) names
        ∙ passing-new (is_scope def t) (λ s. unfinished_inside def s (turned t)) (λ s. unfinished_inside def s t)
        (declared_inside def t) (names_inside def t) (unfinished_new t)

    pub names_new : (f : Fragment) → names_inside def (turned f) ≡ map new_key (names_inside def f)
    names_new (hole q) = refl
    names_new (ending l u) = refl
    names_new (cell l e r) =
        ap₂ (λ a b. a ++ b) (passing_of e (names_new e)) (names_new r)
        ∙ sym (map-append new_key
        (passing (is_scope def e) (λ s. unfinished_inside def s e) (declared_inside def e) (names_inside def e))
        (names_inside def r))
    names_new (operator o) = refl
    names_new (with_child f t) =
        ap₂ (λ a b. a ++ b) (names_new f) (passing_of t (names_new t))
        ∙ sym (map-append new_key (names_inside def f)
        (passing (is_scope def t) (λ s. unfinished_inside def s t) (declared_inside def t) (names_inside def t)))
    names_new (with_name f n) =
        ap₂ (λ a k. a ++ k ∷ []) (names_new f) (key_at-new def f n)
        ∙ sym (map-append new_key (names_inside def f) (key_at def f n ∷ []))
    names_new (with_number f n) = names_new f
    names_new (with_text f t) = names_new f
    names_new anything = refl
    names_new (observed f) = names_new f

    -- ---- keys that are declared twice

    same_twice : (f : Fragment) → has_twice (declared_inside def (turned f)) ≡ has_twice (declared_inside def f)
    same_twice f = ap has_twice (declared_new f) ∙ twice_new (declared_inside def f)

    distinct_to : (f : Fragment) → AreDistinct (is_scope def f) (declared_inside def f)
        → AreDistinct (is_scope def (turned f)) (declared_inside def (turned f))
    distinct_to f d e = same_twice f ∙ d (sym (same_scope def f) ∙ e)

    distinct_from : (f : Fragment) → AreDistinct (is_scope def (turned f)) (declared_inside def (turned f))
        → AreDistinct (is_scope def f) (declared_inside def f)
    distinct_from f d e = sym (same_twice f) ∙ d (same_scope def f ∙ e)

    below_to : (f : Fragment) → DistinctBelow def f → DistinctBelow def (turned f)
    below_to (hole q) d = tt
    below_to (ending l u) d = tt
    below_to (cell l e r) (a, b, c) = (below_to e a, distinct_to e b, below_to r c)
    below_to (operator o) d = tt
    below_to (with_child f t) (a, b, c) = (below_to f a, below_to t b, distinct_to t c)
    below_to (with_name f n) d = below_to f d
    below_to (with_number f n) d = below_to f d
    below_to (with_text f t) d = below_to f d
    below_to anything d = tt
    below_to (observed f) d = below_to f d

    below_from : (f : Fragment) → DistinctBelow def (turned f) → DistinctBelow def f
    below_from (hole q) d = tt
    below_from (ending l u) d = tt
    below_from (cell l e r) (a, b, c) = (below_from e a, distinct_from e b, below_from r c)
    below_from (operator o) d = tt
    below_from (with_child f t) (a, b, c) = (below_from f a, below_from t b, distinct_from t c)
    below_from (with_name f n) d = below_from f d
    below_from (with_number f n) d = below_from f d
    below_from (with_text f t) d = below_from f d
    below_from anything d = tt
    below_from (observed f) d = below_from f d

    pub distinct_new : (f : Fragment) → IsDistinct def f → IsDistinct def (turned f)
    distinct_new f (a, b) = (same_twice f ∙ a, below_to f b)

    pub distinct_old : (f : Fragment) → IsDistinct def (turned f) → IsDistinct def f
    distinct_old f (a, b) = (sym (same_twice f) ∙ a, below_from f b)
