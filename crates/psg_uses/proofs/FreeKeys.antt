-- The keys of the names that nothing declares.
use Rattle.std.proofs.Common.{◌≡◌, ◌⊎◌, inl, inr, ℕ, zero, suc, ◌+◌, ◌<◌, ◌≤◌, ◌==◌, ◌||◌, ◌&&◌, not, Bool, true, false, cond, List, [], ◌∷◌, ◌++◌, length, take, drop, map, get_or, slice_get, bytes_eq, Some, refl, ap, ap₂, sym, ◌∙◌, subst, arith, append_assoc, append-nil, true≢false}
use Rattle.std.specs.Prelude.{option_and_then}
use Rattle.std.specs.List.{AllByRecursion, list_any}
use Rattle.std.proofs.Math.Bool.{and-false, and-true, or-false, or-true, or_assoc}
use Rattle.std.proofs.lemmas.Bool.{and_parts, or_cases, or_left, or_right}
use Rattle.std.proofs.lemmas.List.{map-append, take_all}
use Rattle.psg_terms.specs.Names.{is_among}
use Rattle.psg_terms.specs.Relations.{IsIn, first, later}
use Rattle.psg_terms.proofs.DeclareLaws.{is_among-append}
use Rattle.psg_terms.proofs.Lists.{get_or_fixed, take_item}
use Rattle.psg_grammar.specs.declared.types.Definition.{Definition}
use Rattle.psg_grammar.specs.declared.types.Item.{Item}
use Rattle.psg_grammar.specs.declared.types.Item.TheVariants as items
use Rattle.psg_grammar.specs.declared.types.Kind.{Kind}
use Rattle.psg_grammar.specs.declared.types.Kind.TheVariants as kinds
use Rattle.psg_grammar.specs.declared.types.Operator.{Operator}
use Rattle.psg_grammar.specs.Fragments.{Fragment, hole, ending, cell, operator, with_child, with_name, with_number, with_text, anything, observed, parts_count, top_operator}
use Rattle.psg_grammar.specs.Keys.{Key, outward}
use Rattle.psg_grammar.specs.Lookups.{is_scope, items_of, key_at, next_item, operator_at, part_items}
use Rattle.psg_grammar.specs.Lookups as lookups
use Rattle.psg_grammar.specs.Paths.{Path, node_at}
use Rattle.psg_grammar.specs.Regions.{declared_in, declared_inside, names_inside, names_of, passing, unfinished_inside}
use Rattle.psg_grammar.specs.WellFormed.{Fits, IsPlain}
use Rattle.psg_scope.specs.Headers.{IsKey}
use Rattle.psg_scope.proofs.HeaderLaws.{outward-among, outward-whole, whole-append}
use Rattle.psg_scope.proofs.KeyLists.{among-whole, in_order-among, in_order-whole, key_is, key_refl}
use Rattle.psg_places.specs.Places.{below}
use Rattle.psg_uses.specs.declared.names.Written.{Written}
use Rattle.psg_uses.specs.Free.{first_of_each, free_uses, has_key, is_linked, other_keys, unlinked}
use Rattle.psg_uses.specs.Naming.{is_same_key, key_of, used_names}
use Rattle.psg_uses.specs.Outward.{WarnsOfFree}
use Rattle.psg_uses.specs.Regions.{begins_region, begins_with, declared_of, declared_on, is_unfinished_with, may_be_declared, ways_from, ways_up}
use Rattle.psg_uses.proofs.FreeLaws.{same_parts}
use Rattle.psg_uses.proofs.OutwardLaws.{along, any_and, any_eq, inside_keys, is_out, links_at, links_there, moved, passed, regrouped, sits_below}

-- ---- Booleans

again : (a r : Bool) → (a || (a || r)) ≡ (a || r)
again true r = refl
again false r = refl

under : (a d o r : Bool) → (a || o) ≡ (a || r) → (a || (d || o)) ≡ (a || (d || r))
under true d o r h = refl
under false d o r h = ap (λ x. d || x) h

linked_out : (b whole l a : Bool) → (b ≡ true → whole ≡ (l || a)) → (b && not whole) ≡ (not l && (b && not a))
linked_out true whole l a h = ap not (h refl) ∙ moved true l a
linked_out false whole l a h = sym (and-false (not l))

not_scope : (d u f : Bool) → u ≡ false → (not (d || u) && f) ≡ ((d || f) && not d)
not_scope true u f e = refl
not_scope false u f e = ap (λ x. not x && f) e ∙ sym (and-true f)

-- ---- each name of a tree has a key

module _ (def : Definition) where
  record AtItem (f : Fragment) (more : List Item) : Type 0 where
    o : ℕ
    op : Operator
    top : top_operator f ≡ Some o
    found : slice_get def.operators o ≡ Some op
    rest : drop (parts_count f) (part_items op.items) ≡ more

  drop_next : (c : ℕ) (xs : List Item) (y : Item) (ys : List Item) → drop c xs ≡ y ∷ ys → drop (c + 1) xs ≡ ys
  drop_next zero [] y ys e = let wrong : [] ≡ y ∷ ys = e in absurd (cc)
  drop_next zero (x ∷ xs) y ys e = let same : x ∷ xs ≡ y ∷ ys = e in cc
  drop_next (suc c) [] y ys e = let wrong : [] ≡ y ∷ ys = e in absurd (cc)
  drop_next (suc c) (x ∷ xs) y ys e =
      let next : suc c + 1 ≡ suc (c + 1) = omega arith in
      ap (λ m. drop m (x ∷ xs)) next ∙ drop_next c xs y ys e

  drop_first : (c : ℕ) (xs : List Item) (y : Item) (ys : List Item) → drop c xs ≡ y ∷ ys → slice_get xs c ≡ Some y
  drop_first zero [] y ys e = let wrong : [] ≡ y ∷ ys = e in absurd (cc)
  drop_first zero (x ∷ xs) y ys e = let same : x ∷ xs ≡ y ∷ ys = e in let head : x ≡ y = cc in ap Some head
  drop_first (suc c) [] y ys e = let wrong : [] ≡ y ∷ ys = e in absurd (cc)
  drop_first (suc c) (x ∷ xs) y ys e = drop_first c xs y ys e

  one_more : (f g : Fragment) (i : Item) (more : List Item) → top_operator g ≡ top_operator f → parts_count g ≡ parts_count f + 1
      → AtItem f (i ∷ more) → AtItem g more
  one_more f g i more t c a = record {
    o = a.o;
    op = a.op;
    top = t ∙ a.top;
    found = a.found;
    rest = ap (λ m. drop m (part_items a.op.items)) c ∙ drop_next (parts_count f) (part_items a.op.items) i more a.rest;
  }

  at_item : (f : Fragment) (i : Item) (more : List Item) (kind : Kind) → Fits def f (i ∷ more) kind → IsPlain f → AtItem f (i ∷ more)
  at_item (hole p) i more kind h plain = let e : i ∷ more ≡ [] = h.0 in absurd (cc)
  at_item (ending l u) i more kind h plain = let e : i ∷ more ≡ [] = h.0 in absurd (cc)
  at_item (cell l e r) i more kind h plain = let wrong : i ∷ more ≡ [] = h.0 in absurd (cc)
  at_item (operator o) i more kind (op, found, e, k) plain = record { o = o; op = op; top = refl; found = found; rest = sym e }
  at_item (with_child f t) i more kind (k, hf, ht) plain =
      one_more f (with_child f t) (items.Slot k) (i ∷ more) refl refl (at_item f (items.Slot k) (i ∷ more) kind hf plain.0)
  at_item (with_name f x) i more kind (inl (s, h), w) plain =
      one_more f (with_name f x) (items.Refers s) (i ∷ more) refl refl (at_item f (items.Refers s) (i ∷ more) kind h plain)
  at_item (with_name f x) i more kind (inr (s, h), w) plain =
      one_more f (with_name f x) (items.Declares s) (i ∷ more) refl refl (at_item f (items.Declares s) (i ∷ more) kind h plain)
  at_item (with_number f x) i more kind (h, w) plain =
      one_more f (with_number f x) items.Number (i ∷ more) refl refl (at_item f items.Number (i ∷ more) kind h plain)
  at_item (with_text f x) i more kind (h, w) plain =
      one_more f (with_text f x) items.Text (i ∷ more) refl refl (at_item f items.Text (i ∷ more) kind h plain)
  at_item anything i more kind h plain = absurd h
  at_item (observed f) i more kind h plain = absurd plain

  next_is : (f : Fragment) (i : Item) (more : List Item) → AtItem f (i ∷ more) → next_item def f ≡ Some i
  next_is f i more a =
      ap (λ t. slice_get (items_of (option_and_then (operator_at def) t)) (parts_count f)) a.top
      ∙ ap (λ o. slice_get (items_of o) (parts_count f)) a.found
      ∙ drop_first (parts_count f) (part_items a.op.items) i more a.rest

  passing_whole : (b : Bool) (unf : ℕ → Bool) (ds ns : List Key) → AllByRecursion IsKey ns → AllByRecursion IsKey (passing b unf ds ns)
  passing_whole true unf ds ns w = outward-whole ns ds unf w
  passing_whole false unf ds ns w = w

  own_whole : (f : Fragment) (i : Item) (more : List Item) (kind : Kind) (x : List ℕ) → Fits def f (i ∷ more) kind → IsPlain f
      → IsKey (lookups.key_of (Some i) x) → IsKey (key_at def f x)
  own_whole f i more kind x h plain k =
      subst (λ o. IsKey (lookups.key_of o x)) (sym (next_is f i more (at_item f i more kind h plain))) k

  whole_names : (f : Fragment) (more : List Item) (kind : Kind) → Fits def f more kind → IsPlain f → AllByRecursion IsKey (names_inside def f)
  whole_names (hole p) more kind h plain = tt
  whole_names (ending l u) more kind h plain = tt
  whole_names (cell l e r) more kind (a, b, k, found, fe, fr, z) plain =
      whole-append (passing (is_scope def e) (λ s. unfinished_inside def s e) (declared_inside def e) (names_inside def e)) (names_inside def r)
      (passing_whole (is_scope def e) (λ s. unfinished_inside def s e) (declared_inside def e) (names_inside def e)
      (whole_names e [] (kinds.Phylum k.element) fe plain.0))
      (whole_names r [] (kinds.List l) fr plain.1)
  whole_names (operator o) more kind h plain = tt
  whole_names (with_child f t) more kind (k, hf, ht) plain =
      whole-append (names_inside def f) (passing (is_scope def t) (λ s. unfinished_inside def s t) (declared_inside def t) (names_inside def t))
      (whole_names f (items.Slot k ∷ more) kind hf plain.0)
      (passing_whole (is_scope def t) (λ s. unfinished_inside def s t) (declared_inside def t) (names_inside def t) (whole_names t [] k ht plain.1))
  whole_names (with_name f x) more kind (inl (s, h), w) plain =
      whole-append (names_inside def f) (key_at def f x ∷ []) (whole_names f (items.Refers s ∷ more) kind h plain)
      (own_whole f (items.Refers s) more kind x h plain tt, tt)
  whole_names (with_name f x) more kind (inr (s, h), w) plain =
      whole-append (names_inside def f) (key_at def f x ∷ []) (whole_names f (items.Declares s ∷ more) kind h plain)
      (own_whole f (items.Declares s) more kind x h plain tt, tt)
  whole_names (with_number f x) more kind (h, w) plain = whole_names f (items.Number ∷ more) kind h plain
  whole_names (with_text f x) more kind (h, w) plain = whole_names f (items.Text ∷ more) kind h plain
  whole_names anything more kind h plain = tt
  whole_names (observed f) more kind h plain = absurd plain

-- ---- the first of each key

module _ (s : ℕ) (n : List ℕ) where
  keys_among : (ws : List Written) → is_among (map key_of ws) (s ∷ n) ≡ list_any (λ w. bytes_eq (key_of w) (s ∷ n)) ws
  keys_among [] = refl
  keys_among (w ∷ ws) = ap (λ b. bytes_eq (key_of w) (s ∷ n) || b) (keys_among ws)

  others_step : (w d : Written) (ds : List Written) (b : Bool) → is_same_key d w ≡ b
      → (bytes_eq (key_of w) (s ∷ n) || is_among (map key_of (other_keys w ds)) (s ∷ n)) ≡ (bytes_eq (key_of w) (s ∷ n) || is_among (map key_of ds) (s ∷ n))
      → (bytes_eq (key_of w) (s ∷ n) || is_among (map key_of (cond b (other_keys w ds) (d ∷ other_keys w ds))) (s ∷ n))
      ≡ (bytes_eq (key_of w) (s ∷ n) || is_among (map key_of (d ∷ ds)) (s ∷ n))
  others_step w d ds true e h =
      let (space, name) = same_parts d w e in
      let same : bytes_eq (key_of d) (s ∷ n) ≡ bytes_eq (key_of w) (s ∷ n) = ap₂ (λ a b. bytes_eq (a ∷ b) (s ∷ n)) space name in
      h ∙ sym (again (bytes_eq (key_of w) (s ∷ n)) (is_among (map key_of ds) (s ∷ n)))
      ∙ ap (λ b. bytes_eq (key_of w) (s ∷ n) || (b || is_among (map key_of ds) (s ∷ n))) (sym same)
  others_step w d ds false e h =
      under (bytes_eq (key_of w) (s ∷ n)) (bytes_eq (key_of d) (s ∷ n)) (is_among (map key_of (other_keys w ds)) (s ∷ n)) (is_among (map key_of ds) (s ∷ n)) h

  among_others : (w : Written) (ds : List Written)
      → (bytes_eq (key_of w) (s ∷ n) || is_among (map key_of (other_keys w ds)) (s ∷ n)) ≡ (bytes_eq (key_of w) (s ∷ n) || is_among (map key_of ds) (s ∷ n))
  among_others w [] = refl
  among_others w (d ∷ ds) = others_step w d ds (is_same_key d w) refl (among_others w ds)

  each_key : (ws : List Written) → is_among (map key_of (first_of_each ws)) (s ∷ n) ≡ is_among (map key_of ws) (s ∷ n)
  each_key [] = refl
  each_key (w ∷ ws) = among_others w (first_of_each ws) ∙ ap (λ b. bytes_eq (key_of w) (s ∷ n) || b) (each_key ws)

  unlinked_step : (w : Written) (ws : List Written) (b r : Bool) → is_among (map key_of ws) (s ∷ n) ≡ r
      → is_among (map key_of (cond b ws (w ∷ ws))) (s ∷ n) ≡ ((bytes_eq (key_of w) (s ∷ n) && not b) || r)
  unlinked_step w ws true r h = h ∙ ap (λ a. a || r) (sym (and-false (bytes_eq (key_of w) (s ∷ n))))
  unlinked_step w ws false r h = ap₂ (λ a b. a || b) (sym (and-true (bytes_eq (key_of w) (s ∷ n)))) h

  unlinked_keys : (def : Definition) (f : Fragment) (ws : List Written)
      → is_among (map key_of (unlinked def f ws)) (s ∷ n) ≡ list_any (λ w. bytes_eq (key_of w) (s ∷ n) && not (is_linked def f w)) ws
  unlinked_keys def f [] = refl
  unlinked_keys def f (w ∷ ws) =
      unlinked_step w (unlinked def f ws) (is_linked def f w) (list_any (λ d. bytes_eq (key_of d) (s ∷ n) && not (is_linked def f d)) ws) (unlinked_keys def f ws)

  -- ---- the ways up

  abbrev key_in : List Written → ℕ → List ℕ → Bool
  key_in ds r x = list_any (λ d. d.space == r && bytes_eq d.name x) ds

  among_in : (ds : List Written) → key_in ds s n ≡ is_among (map key_of ds) (s ∷ n)
  among_in [] = refl
  among_in (d ∷ ds) = ap (λ b. (d.space == s && bytes_eq d.name n) || b) (among_in ds)

  parts_of : (w : Written) → bytes_eq (key_of w) (s ∷ n) ≡ true → (w.space ≡ s) × (w.name ≡ n)
  parts_of w h =
      let e : w.space ∷ w.name ≡ s ∷ n = key_is (key_of w) (s ∷ n) h in
      let one : w.space ≡ s = cc in
      let two : w.name ≡ n = cc in (one, two)

  key_there : (ds : List Written) (w : Written) → w.space ≡ s → w.name ≡ n → has_key ds w ≡ is_among (map key_of ds) (s ∷ n)
  key_there ds w a b = ap₂ (key_in ds) a b ∙ among_in ds

  module _ (def : Definition) (f : Fragment) where
    links_on : (qs : List Path) → (is_among (map key_of (declared_on def f qs)) (s ∷ n) || may_be_declared def f s qs)
        ≡ list_any (links_at def f s n) qs
    links_on [] = refl
    links_on (q ∷ qs) =
        ap (λ b. b || ((begins_region def f q && is_unfinished_with def s (node_at f q)) || may_be_declared def f s qs))
        (ap (λ l. is_among l (s ∷ n)) (map-append key_of (declared_of def f q) (declared_on def f qs))
        ∙ is_among-append (map key_of (declared_of def f q)) (map key_of (declared_on def f qs)) (s ∷ n))
        ∙ regrouped (is_among (map key_of (declared_of def f q)) (s ∷ n)) (is_among (map key_of (declared_on def f qs)) (s ∷ n))
        (begins_region def f q && is_unfinished_with def s (node_at f q)) (may_be_declared def f s qs)
        ∙ ap (λ b. links_at def f s n q || b) (links_on qs)

    along_push : (base q : Path) (x : ℕ) → along def f s n base (q ++ x ∷ []) ≡ (along def f s n base q || links_at def f s n ((base ++ q) ++ x ∷ []))
    along_push base [] x =
        or-false (links_at def f s n (below base x)) ∙ ap (λ p. links_at def f s n (p ++ x ∷ [])) (sym (append-nil base))
    along_push base (j ∷ q) x =
        ap (λ b. links_at def f s n (below base j) || b)
        (along_push (below base j) q x
        ∙ ap (λ p. along def f s n (below base j) q || links_at def f s n (p ++ x ∷ [])) (append_assoc base (j ∷ []) q))
        ∙ sym (or_assoc (links_at def f s n (below base j)) (along def f s n (below base j) q) (links_at def f s n ((base ++ j ∷ q) ++ x ∷ [])))

    turned : (l r a : Bool) → (l || (r || a)) ≡ (r || (a || l))
    turned true true a = refl
    turned true false a = sym (or-true a)
    turned false r a = ap (λ x. r || x) (sym (or-false a))

    ways_link : (p : Path) (m : ℕ) → m ≤ length p → list_any (links_at def f s n) (ways_from p m)
        ≡ (links_at def f s n [] || along def f s n [] (take m p))
    ways_link p zero le = refl
    ways_link p (suc m) le =
        let lt : m < length p = omega (arith, le) in
        let x = get_or p m 0 in
        let next : suc m ≡ m + 1 = omega arith in
        let longer : take (suc m) p ≡ take m p ++ x ∷ [] = ap (λ k. take k p) next ∙ take_item p m x lt (get_or_fixed p m 0 lt) in
        ap₂ (λ a b. a || b) (ap (links_at def f s n) longer) (ways_link p m (omega (arith, le)))
        ∙ turned (links_at def f s n (take m p ++ x ∷ [])) (links_at def f s n []) (along def f s n [] (take m p))
        ∙ ap (λ b. links_at def f s n [] || b) (sym (along_push [] (take m p) x) ∙ ap (along def f s n []) (sym longer))

    linked_is : (w : Written) → bytes_eq (key_of w) (s ∷ n) ≡ true
        → is_linked def f w ≡ (links_at def f s n [] || along def f s n [] w.path)
    linked_is w h =
        let (space, name) = parts_of w h in
        ap₂ (λ a b. a || b) (key_there (declared_on def f (ways_up w.path)) w space name) (ap (λ r. may_be_declared def f r (ways_up w.path)) space)
        ∙ links_on (ways_up w.path) ∙ ways_link w.path (length w.path) (omega arith)
        ∙ ap (λ p. links_at def f s n [] || along def f s n [] p) (take_all (length w.path) w.path (omega arith))

    free_are : is_among (map key_of (free_uses def f)) (s ∷ n)
        ≡ (not (links_at def f s n []) && list_any (is_out def f s n []) (used_names def f))
    free_are =
        each_key (unlinked def f (used_names def f)) ∙ unlinked_keys def f (used_names def f)
        ∙ any_eq (λ w. bytes_eq (key_of w) (s ∷ n) && not (is_linked def f w)) (λ w. not (links_at def f s n []) && is_out def f s n [] w)
        (λ w. linked_out (bytes_eq (key_of w) (s ∷ n)) (is_linked def f w) (links_at def f s n []) (along def f s n [] w.path) (linked_is w))
        (used_names def f)
        ∙ any_and (not (links_at def f s n [])) (is_out def f s n []) (used_names def f)

    -- ---- with the recursion over trees

    by_root : (b d u o : Bool) (ns ds : List Key) (unf : ℕ → Bool) → is_among ds (s ∷ n) ≡ d → unf s ≡ u → is_among ns (s ∷ n) ≡ (d || o)
        → (b ≡ false → u ≡ false)
        → (not (d || u) && o) ≡ (is_among (passing b unf ds ns) (s ∷ n) && not (is_among (cond b [] ds) (s ∷ n)))
    by_root true d u o ns ds unf hd hu hn z =
        sym (and-true (is_among (outward unf ds ns) (s ∷ n))
        ∙ outward-among (s ∷ n) ns ds unf ∙ ap₂ (λ a c. a && not (c || is_among ds (s ∷ n))) hn hu
        ∙ ap (λ c. (d || o) && not (u || c)) hd ∙ passed d u o)
    by_root false d u o ns ds unf hd hu hn z =
        not_scope d u o (z refl) ∙ sym (ap₂ (λ a c. a && not c) hn hd)

    no_space : (is_scope def f ≡ true) ⊎ ((r : ℕ) → unfinished_inside def r f ≡ false) → is_scope def f ≡ false → unfinished_inside def s f ≡ false
    no_space (inl h) off = absurd (true≢false (sym h ∙ off))
    no_space (inr h) off = h s

    free_keys : (kind : Kind) → Fits def f [] kind → IsPlain f → AllByRecursion IsKey (names_inside def f)
        → (is_scope def f ≡ true) ⊎ ((r : ℕ) → unfinished_inside def r f ≡ false)
        → is_among (map key_of (free_uses def f)) (s ∷ n) ≡ (is_among (names_of def f) (s ∷ n) && not (is_among (declared_in def f) (s ∷ n)))
    free_keys kind fits plain whole scope =
        let d = is_among (declared_inside def f) (s ∷ n) in
        let u = unfinished_inside def s f in
        let o = list_any (is_out def f s n []) (used_names def f) in
        let passes = passing (is_scope def f) (λ r. unfinished_inside def r f) (declared_inside def f) (names_inside def f) in
        let begins : begins_with def [] (Some f) ≡ true = or-true (is_scope def f) in
        free_are
        ∙ ap (λ l. not l && o) (links_there def f s n [] f true plain refl begins)
        ∙ by_root (is_scope def f) d u o (names_inside def f) (declared_inside def f) (λ r. unfinished_inside def r f) refl refl
        (inside_keys def f s n f [] kind [] 0 fits plain (sits_below def f s n [] f refl) (λ q. refl)) (no_space scope)
        ∙ ap (λ a. a && not (is_among (declared_in def f) (s ∷ n)))
        (sym (in_order-among passes (s ∷ n) (passing_whole def (is_scope def f) (λ r. unfinished_inside def r f) (declared_inside def f) (names_inside def f) whole)))

-- ---- members

in_is : (ks : List Key) (k : Key) → IsIn k ks → is_among ks k ≡ true
in_is [] k h = elim h [ ]
in_is (m ∷ ks) k first = or_left (bytes_eq m k) (is_among ks k) (key_refl m)
in_is (m ∷ ks) k (later h) = or_right (bytes_eq m k) (is_among ks k) (in_is ks k h)

is_in : (ks : List Key) (k : Key) → is_among ks k ≡ true → IsIn k ks
is_in [] k h = absurd (true≢false (sym h))
is_in (m ∷ ks) k h = elim (or_cases (bytes_eq m k) (is_among ks k) h) [
  | inl e ↦ subst (λ x. IsIn k (x ∷ ks)) (sym (key_is m k e)) first
  | inr r ↦ later (is_in ks k r)
]

no_empty : (ws : List Written) → IsIn [] (map key_of ws) → ⊥
no_empty [] h = elim h [ ]
no_empty (w ∷ ws) (later h) = no_empty ws h

not_true : (b : Bool) → b ≡ false → not b ≡ true
not_true b h = ap not h

is_false : (b : Bool) → not b ≡ true → b ≡ false
is_false true h = sym h
is_false false h = refl

pub warns_of_free : (def : Definition) → WarnsOfFree def
warns_of_free def f kind formed scope [] = (
  (λ h. absurd (no_empty (free_uses def f) h)),
  (λ h.
      let passes = passing (is_scope def f) (λ r. unfinished_inside def r f) (declared_inside def f) (names_inside def f) in
      let whole = in_order-whole passes (passing_whole def (is_scope def f) (λ r. unfinished_inside def r f) (declared_inside def f) (names_inside def f)
      (whole_names def f [] kind formed.0 formed.1)) in
      absurd (among-whole (names_of def f) [] whole (in_is (names_of def f) [] h.0))),
)
warns_of_free def f kind formed scope (s ∷ n) =
    let same = free_keys s n def f kind formed.0 formed.1 (whole_names def f [] kind formed.0 formed.1) scope in (
      (λ h.
          let both = and_parts (is_among (names_of def f) (s ∷ n)) (not (is_among (declared_in def f) (s ∷ n)))
          (sym same ∙ in_is (map key_of (free_uses def f)) (s ∷ n) h) in
          (is_in (names_of def f) (s ∷ n) both.0, is_false (is_among (declared_in def f) (s ∷ n)) both.1)),
      (λ h. is_in (map key_of (free_uses def f)) (s ∷ n)
          (same ∙ ap₂ (λ a b. a && not b) (in_is (names_of def f) (s ∷ n) h.0) h.1)),
    )
