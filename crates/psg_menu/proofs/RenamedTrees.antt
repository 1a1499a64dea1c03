-- The summary under a candidate's name is that of the tree with the candidate.
use Rattle.std.proofs.Common.{◌≡◌, ℕ, zero, suc, ◌+◌, Bool, true, false, cond, not, ◌&&◌, ◌||◌, List, [], ◌∷◌, ◌++◌, map, bytes_eq, slice_get, option_map, Some, refl, ap, ap₂, sym, ◌∙◌, subst, true≢false, arith}
use Rattle.std.specs.List.{AllByRecursion}
use Rattle.std.proofs.lemmas.Option.{slice_get-map}
use Rattle.std.proofs.lemmas.Bool.{false_from_ne_true, or_right, or_left}
use Rattle.std.proofs.Math.Bool.{or-false, and-false, or_assoc}
use Rattle.psg_terms.specs.Names.{Name, is_among, has_twice}
use Rattle.psg_terms.specs.Relations.{IsRelation}
use Rattle.psg_terms.proofs.DeclareLaws.{is_among-append}
use Rattle.psg_grammar.specs.declared.types.Definition.{Definition}
use Rattle.psg_grammar.specs.Fragments.{Fragment, hole, ending, cell, operator, with_child, with_name, with_number, with_text, anything, observed}
use Rattle.psg_grammar.specs.Keys.{Key, in_order, name_in}
use Rattle.psg_grammar.specs.Kinds.{IsOfKind}
use Rattle.psg_grammar.specs.Regions.{declared_in}
use Rattle.psg_grammar.specs.Sound.{IsSound}
use Rattle.psg_relation.specs.Choices.{AllHaveSorts, IsProjected, picked}
use Rattle.psg_scope.specs.declared.header.NameCol.{NameCol}
use Rattle.psg_scope.specs.Headers.{AreRising, IsKey, declare_one, is_declared, keep_if, key_of, keys}
use Rattle.psg_scope.proofs.HeaderLaws.{header-among, header-rising, keys-whole, whole-append}
use Rattle.psg_scope.proofs.KeyLists.{below-among, in_order-among, in_order-rising, in_order-whole, key_is, key_refl, less-differs, or-swap, rising-same}
use Rattle.psg_relation.specs.Fewer.{FewerColumns}
use Rattle.psg_unify.specs.Pairs.{Pair as Columns}
use Rattle.psg_eval.specs.declared.summary.SummaryParts.{SummaryParts}
use Rattle.psg_eval.specs.Renamed.{IsRenamed, moved_names, moved_places, other_names, other_places}
use Rattle.psg_eval.specs.Summaries.{IsHeaderOf, IsSummaryOf}
use Rattle.psg_eval.specs.Trees.{seen_in}
use Rattle.psg_eval.specs.Walks.{IsWalk, walk_none, walk_left, walk_right, walk_both}
use Rattle.psg_renaming.proofs.Permuting.{Permutation, same_test, swapped, swap_first, swap_other}
use Rattle.psg_renaming.proofs.Picking.{index_of, places, shifted}
use Rattle.psg_renaming.proofs.Relating.{seen_count, whole_columns, whole_taken}
use Rattle.psg_renaming.proofs.Turned.{turned, new_key, undo_key, old_key, among_new, twice_new}
use Rattle.psg_menu.proofs.TurnedTrees.{declares_turned, kind_back, keys_turned, region_keys, seen_turned, spaces_turned}

-- ---- columns along a walk

heads : {x y : ℕ} {xs ys : List ℕ} → x ∷ xs ≡ y ∷ ys → (x ≡ y) × (xs ≡ ys)
heads e = ((cc), (cc))

walk_columns : (g : Key → ℕ) {A B : List ℕ} {K L M : List Key} {pairs : List Columns} {keep : List ℕ} → IsWalk 0 A B K L M pairs keep
    → A ≡ map g K → B ≡ map g L → keep ≡ map g M
walk_columns g walk_none a b = refl
walk_columns g (walk_left x k w) a b =
    let (h, t) = heads a in
    ap₂ (λ y ys. y ∷ ys) h (walk_columns g w t b)
walk_columns g (walk_right y k w) a b =
    let (h, t) = heads b in
    let z : 0 + y ≡ y = omega arith in
    ap₂ (λ x xs. x ∷ xs) (z ∙ h) (walk_columns g w a t)
walk_columns g (walk_both x y k w) a b =
    let (h, t) = heads a in
    let (v, u) = heads b in
    ap₂ (λ z zs. z ∷ zs) h (walk_columns g w t u)

-- a key of a rising list stands at its only place
index_is : (ms : List Key) (i : ℕ) (k : Key) → AreRising ms → slice_get ms i ≡ Some k → index_of ms k ≡ i
index_is [] i k s e = absurd (cc)
index_is (m ∷ ms) zero k s e =
    let d : m ≡ k = cc in
    ap (λ b. cond b 0 (suc (index_of ms k))) (subst (λ x. bytes_eq m x ≡ true) d (key_refl m))
index_is (m ∷ ms) (suc i) k (b, s) e =
    ap (λ c. cond c 0 (suc (index_of ms k))) (less-differs m k (below-among m k ms b (got ms i k e))) ∙ ap suc (index_is ms i k s e) where
      got : (ks : List Key) (j : ℕ) (x : Key) → slice_get ks j ≡ Some x → is_among ks x ≡ true
      got [] j x e = absurd (cc)
      got (y ∷ ks) zero x e =
          let d : y ≡ x = cc in
          or_left (bytes_eq y x) (is_among ks x) (subst (λ z. bytes_eq y z ≡ true) d (key_refl y))
      got (y ∷ ks) (suc j) x e = or_right (bytes_eq y x) (is_among ks x) (got ks j x e)

-- ---- the names change places

module _ (to from : Name) (other : bytes_eq to from ≡ false) where
  abbrev pub p : Permutation
  p = swapped to from

  -- the key of a name, under the other name where it is that one
  abbrev pub old : NameCol → Key
  old c = cond (bytes_eq c.name from) (c.space ∷ to) (key_of c)

  -- the name is not the new one
  abbrev pub AreFree : List NameCol → Type 0
  AreFree cols = AllByRecursion (λ (c : NameCol). bytes_eq c.name to ≡ false) cols

  back : (c : NameCol) → bytes_eq c.name to ≡ false → new_key p (old c) ≡ key_of c
  back c free = by (bytes_eq c.name from) refl where
    turn : (m n : Name) → bytes_eq m n ≡ false → bytes_eq n m ≡ false
    turn m n e = false_from_ne_true (bytes_eq n m) (λ h. true≢false (sym (subst (λ x. bytes_eq x n ≡ true) (key_is n m h) (key_refl n)) ∙ e))

    by : (b : Bool) → bytes_eq c.name from ≡ b → new_key p (cond b (c.space ∷ to) (key_of c)) ≡ key_of c
    by true e = ap (λ n. c.space ∷ n) (swap_first to from ∙ sym (key_is c.name from e))
    by false e = ap (λ n. c.space ∷ n) (swap_other to from c.name (turn c.name to free) (turn c.name from e))

  test : (c : NameCol) (k : Key) → bytes_eq c.name to ≡ false → bytes_eq (old c) k ≡ bytes_eq (key_of c) (new_key p k)
  test c k free = sym (same_test (new_key p) (old_key p) (undo_key p) (old c) k) ∙ ap (λ x. bytes_eq x (new_key p k)) (back c free)

  -- the keys of both lists are the old ones
  kept_among : (b : Bool) (m o : NameCol) (ms os : List NameCol) (k : Key) (t r : Bool) → bytes_eq (cond b (key_of m) (key_of o)) k ≡ t
      → (is_among (keys ms) k || is_among (keys os) k) ≡ r
      → (is_among (keys (keep_if b m ms)) k || is_among (keys (keep_if (not b) o os)) k) ≡ (t || r)
  kept_among true m o ms os k t r e h = or_assoc (bytes_eq (key_of m) k) (is_among (keys ms) k) (is_among (keys os) k) ∙ ap₂ (λ x y. x || y) e h
  kept_among false m o ms os k t r e h = or-swap (is_among (keys ms) k) (bytes_eq (key_of o) k) (is_among (keys os) k) ∙ ap₂ (λ x y. x || y) e h

  pub parts_among : (cols : List NameCol) (k : Key) → AreFree cols
      → (is_among (keys (moved_names from to cols)) k || is_among (keys (other_names from cols)) k) ≡ is_among (keys cols) (new_key p k)
  parts_among [] k free = refl
  parts_among (c ∷ cols) k (one, free) =
      kept_among (bytes_eq c.name from) (record c { name = to }) c (moved_names from to cols) (other_names from cols) k
      (bytes_eq (key_of c) (new_key p k)) (is_among (keys cols) (new_key p k)) (as_cond (bytes_eq c.name from) c k ∙ test c k one) (parts_among cols k free) where
        as_cond : (b : Bool) (d : NameCol) (q : Key) → bytes_eq (cond b (key_of (record d { name = to })) (key_of d)) q ≡ bytes_eq (cond b (d.space ∷ to) (key_of d)) q
        as_cond b d q = refl

  kept_declared : (b d : Bool) (m o : NameCol) (ms os : List NameCol) (k : Key) (t r : Bool) → m.declared ≡ d → o.declared ≡ d
      → bytes_eq (cond b (key_of m) (key_of o)) k ≡ t → (is_declared ms k || is_declared os k) ≡ r
      → (is_declared (keep_if b m ms) k || is_declared (keep_if (not b) o os) k) ≡ ((d && t) || r)
  kept_declared true d m o ms os k t r x y e h =
      or_assoc (m.declared && bytes_eq (key_of m) k) (is_declared ms k) (is_declared os k) ∙ ap₂ (λ a b. a || b) (ap₂ (λ a b. a && b) x e) h
  kept_declared false d m o ms os k t r x y e h =
      or-swap (is_declared ms k) (o.declared && bytes_eq (key_of o) k) (is_declared os k) ∙ ap₂ (λ a b. a || b) (ap₂ (λ a b. a && b) y e) h

  pub parts_declared : (cols : List NameCol) (k : Key) → AreFree cols
      → (is_declared (moved_names from to cols) k || is_declared (other_names from cols) k) ≡ is_declared cols (new_key p k)
  parts_declared [] k free = refl
  parts_declared (c ∷ cols) k (one, free) =
      kept_declared (bytes_eq c.name from) c.declared (record c { name = to }) c (moved_names from to cols) (other_names from cols) k
      (bytes_eq (key_of c) (new_key p k)) (is_declared cols (new_key p k)) refl refl (test c k one) (parts_declared cols k free)

  -- ---- no key is declared in both

  free_kept : (b : Bool) (c : NameCol) (cols : List NameCol) → bytes_eq c.name to ≡ false → AreFree cols → AreFree (keep_if b c cols)
  free_kept true c cols one free = (one, free)
  free_kept false c cols one free = free

  others_free : (cols : List NameCol) → AreFree cols → AreFree (other_names from cols)
  others_free [] free = tt
  others_free (c ∷ cols) (one, free) = free_kept (not (bytes_eq c.name from)) c (other_names from cols) one (others_free cols free)

  abbrev AreNew : List NameCol → Type 0
  AreNew cols = AllByRecursion (λ (c : NameCol). c.name ≡ to) cols

  new_kept : (b : Bool) (c : NameCol) (cols : List NameCol) → c.name ≡ to → AreNew cols → AreNew (keep_if b c cols)
  new_kept true c cols one all = (one, all)
  new_kept false c cols one all = all

  moved_new : (cols : List NameCol) → AreNew (moved_names from to cols)
  moved_new [] = tt
  moved_new (c ∷ cols) = new_kept (bytes_eq c.name from) (record c { name = to }) (moved_names from to cols) refl (moved_new cols)

  not_declared : (cols : List NameCol) (space : ℕ) (name : Name) → name ≡ to → AreFree cols → is_declared cols (space ∷ name) ≡ false
  not_declared [] space name e free = refl
  not_declared (c ∷ cols) space name e (one, free) =
      ap₂ (λ a b. a || b) (ap (λ b. c.declared && b) differs ∙ and-false c.declared) (not_declared cols space name e free) where
        differs : bytes_eq (key_of c) (space ∷ name) ≡ false
        differs = false_from_ne_true (bytes_eq (key_of c) (space ∷ name)) clash where
          clash : bytes_eq (key_of c) (space ∷ name) ≡ true → ⊥
          clash h =
              let same : ◌≡◌ {A = Key} (c.space ∷ c.name) (space ∷ name) = key_is (key_of c) (space ∷ name) h in
              let names : c.name ≡ name = ap name_in same in
              true≢false (sym (subst (λ n. bytes_eq c.name n ≡ true) (names ∙ e) (key_refl c.name)) ∙ one)

  no_clash : (xs ys : List NameCol) → AreNew xs → AreFree ys → declare_one xs ys ≡ false
  no_clash [] ys all free = refl
  no_clash (x ∷ xs) ys (one, all) free =
      ap₂ (λ a b. a || b) (ap (λ b. x.declared && b) (not_declared ys x.space x.name one free) ∙ and-false x.declared) (no_clash xs ys all free)

  -- ---- the columns

  module _ (whole : List Key) where
    abbrev column : Key → ℕ
    column k = suc (index_of whole (new_key p k))

    kept_places : (b : Bool) (n : ℕ) (ns : List ℕ) (x : NameCol) (xs : List NameCol) → (b ≡ true → n ≡ column (key_of x)) → ns ≡ map column (keys xs)
        → keep_if b n ns ≡ map column (keys (keep_if b x xs))
    kept_places true n ns x xs e h = ap₂ (λ y ys. y ∷ ys) (e refl) h
    kept_places false n ns x xs e h = h

    abbrev AreAt : ℕ → List NameCol → Type 0
    AreAt i cols = (j : ℕ) (c : NameCol) → slice_get cols j ≡ Some c → index_of whole (key_of c) ≡ i + j

    at_rest : (i : ℕ) (c : NameCol) (cols : List NameCol) → AreAt i (c ∷ cols) → AreAt (suc i) cols
    at_rest i c cols at j d e = let h = at (suc j) d e in omega (arith, h)

    first_at : (i : ℕ) (c : NameCol) (cols : List NameCol) → AreAt i (c ∷ cols) → suc i ≡ suc (index_of whole (key_of c))
    first_at i c cols at = let h = at 0 c refl in omega (arith, h)

    moved_at : (i : ℕ) (cols : List NameCol) → AreAt i cols → AreFree cols → moved_places from (suc i) cols ≡ map column (keys (moved_names from to cols))
    moved_at i [] at free = refl
    moved_at i (c ∷ cols) at (one, free) =
        kept_places (bytes_eq c.name from) (suc i) (moved_places from (suc (suc i)) cols) (record c { name = to }) (moved_names from to cols)
        (λ e. first_at i c cols at ∙ ap (λ k. suc (index_of whole k)) (sym (subst (λ b. new_key p (cond b (c.space ∷ to) (key_of c)) ≡ key_of c) e (back c one))))
        (moved_at (suc i) cols (at_rest i c cols at) free)

    others_at : (i : ℕ) (cols : List NameCol) → AreAt i cols → AreFree cols → other_places from (suc i) cols ≡ map column (keys (other_names from cols))
    others_at i [] at free = refl
    others_at i (c ∷ cols) at (one, free) =
        kept_places (not (bytes_eq c.name from)) (suc i) (other_places from (suc (suc i)) cols) c (other_names from cols)
        (λ e. first_at i c cols at ∙ ap (λ k. suc (index_of whole k)) (sym (subst (λ b. new_key p (cond b (c.space ∷ to) (key_of c)) ≡ key_of c) (is_false (bytes_eq c.name from) e) (back c one))))
        (others_at (suc i) cols (at_rest i c cols at) free) where
          is_false : (b : Bool) → not b ≡ true → b ≡ false
          is_false true e = sym e
          is_false false e = refl

    columns_apart : (ks : List Key) → map column ks ≡ map suc (map (index_of whole) (map (new_key p) ks))
    columns_apart [] = refl
    columns_apart (k ∷ ks) = ap (λ xs. column k ∷ xs) (columns_apart ks)

  -- ---- the tree

  whole_back : (ks : List Key) → AllByRecursion IsKey (map (new_key p) ks) → AllByRecursion IsKey ks
  whole_back [] w = tt
  whole_back ([] ∷ ks) (w, ws) = absurd w
  whole_back ((s ∷ n) ∷ ks) (w, ws) = (tt, whole_back ks ws)

  seen_same : (f : Fragment) → seen_count f ≡ seen_in f
  seen_same (hole q) = refl
  seen_same (ending l u) = refl
  seen_same (cell l e r) = ap₂ (λ a b. a + b) (seen_same e) (seen_same r)
  seen_same (operator o) = refl
  seen_same (with_child f t) = ap₂ (λ a b. a + b) (seen_same f) (seen_same t)
  seen_same (with_name f n) = seen_same f
  seen_same (with_number f n) = seen_same f
  seen_same (with_text f t) = seen_same f
  seen_same anything = refl
  seen_same (observed f) = let h = seen_same f in omega (arith, h)

  module _ (def : Definition) (f : Fragment) (s new : SummaryParts) (is : IsSummaryOf def (turned p f) s) (made : IsRenamed def from to s new) (free : AreFree s.header.names) where
    abbrev ns : List Key
    ns = region_keys p def f

    whole_names : AllByRecursion IsKey ns
    whole_names = whole_back ns (subst (AllByRecursion IsKey) (keys_turned p def f) is.header.whole)

    new_among : (k : Key) → is_among (keys new.header.names) k ≡ is_among (keys s.header.names) (new_key p k)
    new_among k =
        let moved = keys (moved_names from to s.header.names) in
        let others = keys (other_names from s.header.names) in
        ap (λ l. is_among l k) made.union.keys_are
        ∙ in_order-among (moved ++ others) k (whole-append moved others (keys-whole (moved_names from to s.header.names)) (keys-whole (other_names from s.header.names)))
        ∙ is_among-append moved others k ∙ parts_among s.header.names k free

    keys_among : (k : Key) → is_among (keys new.header.names) k ≡ is_among (in_order ns) k
    keys_among k =
        new_among k ∙ header-among is.header (new_key p k) ∙ ap (λ l. is_among l (new_key p k)) (keys_turned p def f)
        ∙ among_new p ns k ∙ sym (in_order-among ns k whole_names)

    keys_same : keys new.header.names ≡ in_order ns
    keys_same =
        rising-same (keys new.header.names) (in_order ns) made.ordered.keys_rise (in_order-rising ns whole_names)
        (keys-whole new.header.names) (in_order-whole ns whole_names) keys_among

    renamed_header : IsHeaderOf def f new.header
    renamed_header = record {
      whole = whole_names;
      keys_are = keys_same;
      declares = λ k.
          made.union.declares k ∙ parts_declared s.header.names k free ∙ is.header.declares (new_key p k)
          ∙ ap (λ l. is_among l (new_key p k)) (declares_turned p def f) ∙ among_new p (declared_in def f) k;
      spaces = λ n. made.union.spaces n ∙ is.header.spaces n ∙ spaces_turned p def f n;
      ascending = made.union.spaces_rise;
      repeats =
          made.union.repeats ∙ ap (λ b. s.header.twice || b) (no_clash (moved_names from to s.header.names) (other_names from s.header.names) (moved_new s.header.names) (others_free s.header.names free))
          ∙ or-false s.header.twice ∙ is.header.repeats ∙ ap has_twice (declares_turned p def f) ∙ twice_new p (declared_in def f);
    }

    old_keys : keys s.header.names ≡ in_order (map (new_key p) ns)
    old_keys = is.header.keys_are ∙ ap in_order (keys_turned p def f)

    at_places : AreAt (keys s.header.names) 0 s.header.names
    at_places j c e =
        let z : j ≡ 0 + j = omega arith in
        index_is (keys s.header.names) j (key_of c) (header-rising is.header)
        (slice_get-map key_of s.header.names j ∙ ap (option_map key_of) e) ∙ z

    columns_are : made.columns ≡ map suc (places (in_order (map (new_key p) ns)) (map (new_key p) (in_order ns)))
    columns_are =
        let old = keys s.header.names in
        walk_columns (column old) made.walk
        (moved_at old 0 s.header.names at_places free) (others_at old 0 s.header.names at_places free)
        ∙ columns_apart old (keys new.header.names)
        ∙ ap₂ (λ ms ks. map suc (map (index_of ms) (map (new_key p) ks))) old_keys keys_same

    -- the tree has the summary under its own name
    pub renamed_summary : p.to [] ≡ [] → IsSound def → FewerColumns def.signature → s.seen ≡ 0 → IsSummaryOf def f new
    renamed_summary empty sound fewer silent =
        let (sorts, rel) = is.rows in
        let none : seen_count f ≡ 0 = seen_same f ∙ sym (seen_turned p f) ∙ sym is.seen ∙ silent in
        let sorted : AllHaveSorts def.signature s.rel sorts = λ row h. (rel.shapes row h).sorted in
        let columns : ◌≡◌ {A = List ℕ} (0 ∷ made.columns) (whole_columns p empty def sound fewer f) =
        ap (λ ks. 0 ∷ ks) columns_are
        ∙ ap (λ m. shifted (suc m) (places (in_order (map (new_key p) ns)) (map (new_key p) (in_order ns)))) (sym none) in
        let projected = subst (λ keep. IsRelation def.signature (picked sorts keep) (IsProjected def.signature s.rel keep) new.rel) columns (made.rows sorts sorted) in
        record {
          kind = subst (IsOfKind def f) (sym made.kind) (kind_back p def f s.kind is.kind);
          header = renamed_header;
          seen = made.seen ∙ is.seen ∙ seen_turned p f;
          rows = (
            picked sorts (whole_columns p empty def sound fewer f),
            whole_taken p empty def sound fewer f sorts s.rel new.rel rel projected,
          );
        }
