-- The keys that nothing declares are those that pass outward: paths and regions by path, against the recursion over trees.
use Rattle.std.proofs.Common.{◌≡◌, inl, inr, ℕ, suc, ◌+◌, ◌||◌, ◌&&◌, not, Bool, true, false, cond, List, [], ◌∷◌, ◌++◌, length, drop, map, slice_get, bytes_eq, Option, Some, None, refl, ap, ap₂, sym, ◌∙◌, subst, arith, append_assoc, append-nil}
use Rattle.std.specs.Prelude.{option_and_then}
use Rattle.std.specs.List.{AllByRecursion, list_any}
use Rattle.std.proofs.Math.Bool.{and-true, or-false, or-true}
use Rattle.std.proofs.lemmas.List.{map-append}
use Rattle.std.proofs.lemmas.List.Folds.{list_any-append}
use Rattle.psg_terms.specs.Names.{is_among}
use Rattle.psg_terms.proofs.DeclareLaws.{is_among-append}
use Rattle.psg_terms.proofs.Lists.{each_append, slice_get-end, slice_get-front}
use Rattle.psg_grammar.specs.declared.types.Definition.{Definition}
use Rattle.psg_grammar.specs.declared.types.Item.{Item}
use Rattle.psg_grammar.specs.declared.types.Item.TheVariants as items
use Rattle.psg_grammar.specs.declared.types.Kind.{Kind}
use Rattle.psg_grammar.specs.declared.types.Kind.TheVariants as kinds
use Rattle.psg_grammar.specs.Fragments.{Fragment, hole, ending, cell, operator, with_child, with_name, with_number, with_text, anything, observed, children_of}
use Rattle.psg_grammar.specs.Keys.{Key}
use Rattle.psg_grammar.specs.Lookups.{is_declares, is_scope, next_item}
use Rattle.psg_grammar.specs.Lookups as lookups
use Rattle.psg_grammar.specs.Paths.{Path, node_at}
use Rattle.psg_grammar.specs.Regions.{declared_inside, names_inside, passing, unfinished_inside}
use Rattle.psg_grammar.specs.WellFormed.{Fits, IsPlain}
use Rattle.psg_scope.proofs.HeaderLaws.{outward-among}
use Rattle.psg_places.specs.Places.{below, is_list, names_before}
use Rattle.psg_uses.specs.declared.names.NameItem.{NameItem}
use Rattle.psg_uses.specs.declared.names.Written.{Written}
use Rattle.psg_uses.specs.Naming.{is_same, key_of, name_item, names_below, wanted_name, written}
use Rattle.psg_uses.specs.Regions.{begins_region, begins_with, declared_of, declared_with, is_root, is_unfinished_with}

-- ---- Booleans and lists

pub regrouped : (a b c d : Bool) → ((a || b) || (c || d)) ≡ ((a || c) || (b || d))
regrouped true b c d = refl
regrouped false b true d = or-true b
regrouped false b false d = refl

pub moved : (a l b : Bool) → (a && not (l || b)) ≡ (not l && (a && not b))
moved true true b = refl
moved true false b = refl
moved false true b = refl
moved false false b = refl

pub passed : (d u f : Bool) → ((d || f) && not (u || d)) ≡ (not (d || u) && f)
passed true u f = ap not (or-true u)
passed false true true = refl
passed false true false = refl
passed false false true = refl
passed false false false = refl

pub any_and : (b : Bool) (P : Written → Bool) (ws : List Written) → list_any (λ w. b && P w) ws ≡ (b && list_any P ws)
any_and true P ws = refl
any_and false P [] = refl
any_and false P (w ∷ ws) = any_and false P ws

pub any_eq : (P Q : Written → Bool) → ((w : Written) → P w ≡ Q w) → (ws : List Written) → list_any P ws ≡ list_any Q ws
any_eq P Q same [] = refl
any_eq P Q same (w ∷ ws) = ap₂ (λ a b. a || b) (same w) (any_eq P Q same ws)

any_same : (R : Written → Type 0) (P Q : Written → Bool) → ((w : Written) → R w → P w ≡ Q w) → (ws : List Written) → AllByRecursion R ws
    → list_any P ws ≡ list_any Q ws
any_same R P Q same [] h = refl
any_same R P Q same (w ∷ ws) h = ap₂ (λ a b. a || b) (same w h.0) (any_same R P Q same ws h.1)

drop_front : (base r : Path) → drop (length base) (base ++ r) ≡ r
drop_front [] r = refl
drop_front (k ∷ base) r = drop_front base r

drop_self : (base : Path) → drop (length base) base ≡ []
drop_self [] = refl
drop_self (k ∷ base) = drop_self base

not_root : (base : Path) (j : ℕ) → is_root (below base j) ≡ false
not_root [] j = refl
not_root (k ∷ base) j = refl

-- ---- where a name is

abbrev Below : Path → Written → Type 0
Below base w = (r : Path) × (w.path ≡ base ++ r)

below_up : (base : Path) (j : ℕ) (ws : List Written) → AllByRecursion (Below (below base j)) ws → AllByRecursion (Below base) ws
below_up base j [] h = tt
below_up base j (w ∷ ws) h = ((j ∷ h.0.0, h.0.1 ∙ append_assoc base (j ∷ []) h.0.0), below_up base j ws h.1)

module _ (def : Definition) where
  used_own : (b : Bool) (base : Path) (nb s : ℕ) (x : List ℕ) → AllByRecursion (Below base) (cond b (written base nb s x ∷ []) [])
  used_own true base nb s x = (([], sym (append-nil base)), tt)
  used_own false base nb s x = tt

  own_below : (o : Option NameItem) (base : Path) (nb : ℕ) (x : List ℕ) → AllByRecursion (Below base) (wanted_name false o base nb x)
  own_below None base nb x = tt
  own_below (Some i) base nb x = used_own (is_same false i.declares) base nb i.space x

  all_below : (g : Fragment) (base : Path) (k : ℕ) → AllByRecursion (Below base) (names_below def false true base k g)
  all_below (hole p) base k = tt
  all_below (ending l u) base k = tt
  all_below (cell l e r) base k =
      each_append (Below base) (names_below def false true (below base k) 0 e) (names_below def false true base (suc k) r)
      (below_up base k (names_below def false true (below base k) 0 e) (all_below e (below base k) 0))
      (all_below r base (suc k))
  all_below (operator o) base k = tt
  all_below (with_child f t) base k =
      let j = length (children_of f) in
      each_append (Below base) (names_below def false true base k f) (names_below def false true (below base j) 0 t) (all_below f base k)
      (below_up base j (names_below def false true (below base j) 0 t) (all_below t (below base j) 0))
  all_below (with_name f x) base k =
      each_append (Below base) (names_below def false true base k f) (wanted_name false (name_item (next_item def f)) base (names_before f) x)
      (all_below f base k) (own_below (name_item (next_item def f)) base (names_before f) x)
  all_below (with_number f x) base k = all_below f base k
  all_below (with_text f x) base k = all_below f base k
  all_below anything base k = tt
  all_below (observed f) base k = tt

  -- ---- the declared names are the declared keys

  declared_own : (it : Option Item) (base : Path) (nb : ℕ) (x : List ℕ)
      → map key_of (wanted_name true (name_item it) base nb x) ≡ cond (is_declares it) (lookups.key_of it x ∷ []) []
  declared_own None base nb x = refl
  declared_own (Some (items.Refers s)) base nb x = refl
  declared_own (Some (items.Declares s)) base nb x = refl
  declared_own (Some _) base nb x = refl

  mapped_cond : (b : Bool) (ws : List Written) → map key_of (cond b [] ws) ≡ cond b [] (map key_of ws)
  mapped_cond true ws = refl
  mapped_cond false ws = refl

  pub declared_keys : (g : Fragment) (base : Path) (k : ℕ) → IsPlain g → map key_of (names_below def true false base k g) ≡ declared_inside def g
  declared_keys (hole p) base k plain = refl
  declared_keys (ending l u) base k plain = refl
  declared_keys (cell l e r) base k plain =
      map-append key_of (cond (is_scope def e) [] (names_below def true false (below base k) 0 e)) (names_below def true false base (suc k) r)
      ∙ ap₂ (λ a b. a ++ b)
      (mapped_cond (is_scope def e) (names_below def true false (below base k) 0 e)
      ∙ ap (λ a. cond (is_scope def e) [] a) (declared_keys e (below base k) 0 plain.0))
      (declared_keys r base (suc k) plain.1)
  declared_keys (operator o) base k plain = refl
  declared_keys (with_child f t) base k plain =
      let j = length (children_of f) in
      map-append key_of (names_below def true false base k f) (cond (is_scope def t) [] (names_below def true false (below base j) 0 t))
      ∙ ap₂ (λ a b. a ++ b) (declared_keys f base k plain.0)
      (mapped_cond (is_scope def t) (names_below def true false (below base j) 0 t)
      ∙ ap (λ a. cond (is_scope def t) [] a) (declared_keys t (below base j) 0 plain.1))
  declared_keys (with_name f x) base k plain =
      map-append key_of (names_below def true false base k f) (wanted_name true (name_item (next_item def f)) base (names_before f) x)
      ∙ ap₂ (λ a b. a ++ b) (declared_keys f base k plain) (declared_own (next_item def f) base (names_before f) x)
  declared_keys (with_number f x) base k plain = declared_keys f base k plain
  declared_keys (with_text f x) base k plain = declared_keys f base k plain
  declared_keys anything base k plain = refl
  declared_keys (observed f) base k plain = absurd plain

  -- ---- the rest of a list is a list

  no_parts : (f : Fragment) (i : Item) (more : List Item) (l : ℕ) → Fits def f (i ∷ more) (kinds.List l) → IsPlain f → ⊥
  no_parts (hole p) i more l h plain = let e : i ∷ more ≡ [] = h.0 in absurd (cc)
  no_parts (ending m u) i more l h plain = let e : i ∷ more ≡ [] = h.0 in absurd (cc)
  no_parts (cell m e r) i more l h plain = let e : i ∷ more ≡ [] = h.0 in absurd (cc)
  no_parts (operator o) i more l (op, found, e, k) plain = let same : kinds.List l ≡ kinds.Phylum op.phylum = k in absurd (cc)
  no_parts (with_child f t) i more l (k, hf, ht) plain = no_parts f (items.Slot k) (i ∷ more) l hf plain.0
  no_parts (with_name f x) i more l (inl (s, h), n) plain = no_parts f (items.Refers s) (i ∷ more) l h plain
  no_parts (with_name f x) i more l (inr (s, h), n) plain = no_parts f (items.Declares s) (i ∷ more) l h plain
  no_parts (with_number f x) i more l (h, n) plain = no_parts f items.Number (i ∷ more) l h plain
  no_parts (with_text f x) i more l (h, n) plain = no_parts f items.Text (i ∷ more) l h plain
  no_parts anything i more l h plain = absurd h
  no_parts (observed f) i more l h plain = absurd plain

  rest_is_list : (f : Fragment) (l : ℕ) → Fits def f [] (kinds.List l) → IsPlain f → is_list f ≡ true
  rest_is_list (hole p) l (m, k, lt, h) plain = let same : kinds.List l ≡ kinds.Phylum p = k in absurd (cc)
  rest_is_list (ending m u) l h plain = refl
  rest_is_list (cell m e r) l h plain = refl
  rest_is_list (operator o) l (op, found, e, k) plain = let same : kinds.List l ≡ kinds.Phylum op.phylum = k in absurd (cc)
  rest_is_list (with_child f t) l (k, hf, ht) plain = absurd (no_parts f (items.Slot k) [] l hf plain.0)
  rest_is_list (with_name f x) l (inl (s, h), n) plain = absurd (no_parts f (items.Refers s) [] l h plain)
  rest_is_list (with_name f x) l (inr (s, h), n) plain = absurd (no_parts f (items.Declares s) [] l h plain)
  rest_is_list (with_number f x) l (h, n) plain = absurd (no_parts f items.Number [] l h plain)
  rest_is_list (with_text f x) l (h, n) plain = absurd (no_parts f items.Text [] l h plain)
  rest_is_list anything l h plain = absurd h
  rest_is_list (observed f) l h plain = absurd plain

-- ---- nodes below a node

step_to : (P : Fragment → Option Fragment) (o : Option Fragment) (x : Fragment) → option_and_then P o ≡ Some x
    → (t : Fragment) × (o ≡ Some t) × (P t ≡ Some x)
step_to P None x e = absurd (cc)
step_to P (Some t) x e = (t, refl, e)

some_fragment : (f u : Fragment) → Some f ≡ Some u → f ≡ u
some_fragment f u e = cc

node_below : (k : ℕ) (t : Fragment) (above : Path) (f u : Fragment) → node_at f above ≡ Some u → slice_get (children_of u) k ≡ Some t
    → node_at f (below above k) ≡ Some t
node_below k t [] f u e s =
    ap (option_and_then (λ n. node_at n [])) (ap (λ n. slice_get (children_of n) k) (some_fragment f u e) ∙ s)
node_below k t (a ∷ above) f u e s =
    let (c, at, under) = step_to (λ n. node_at n above) (slice_get (children_of f) a) u e in
    ap (option_and_then (λ n. node_at n (below above k))) at ∙ node_below k t above c u under s

-- ---- one key

module _ (def : Definition) (root : Fragment) (s : ℕ) (n : List ℕ) where
  abbrev pub is_this : Written → Bool
  is_this w = bytes_eq (key_of w) (s ∷ n)

  -- the region that begins at the path declares the key, or may still do so
  abbrev pub links_at : Path → Bool
  links_at q = is_among (map key_of (declared_of def root q)) (s ∷ n)
      || (begins_region def root q && is_unfinished_with def s (node_at root q))

  -- one of those that begin below the first path, on the way of these steps
  abbrev pub along : Path → Path → Bool
  along base [] = false
  along base (j ∷ r) = links_at (below base j) || along (below base j) r

  -- a name of the key, below the path, that no region below the path is linked to
  abbrev pub is_out : Path → Written → Bool
  is_out base w = is_this w && not (along base (drop (length base) w.path))

  abbrev pub used : Path → ℕ → Fragment → List Written
  used base k g = names_below def false true base k g

  out_step : (base r : Path) (j : ℕ) (w : Written) → w.path ≡ below base j ++ r
      → is_out base w ≡ (not (links_at (below base j)) && is_out (below base j) w)
  out_step base r j w h =
      let one : drop (length base) w.path ≡ j ∷ r =
      ap (drop (length base)) (h ∙ append_assoc base (j ∷ []) r) ∙ drop_front base (j ∷ r) in
      let two : drop (length (below base j)) w.path ≡ r =
      ap (drop (length (below base j))) h ∙ drop_front (below base j) r in
      ap (λ d. is_this w && not (along base d)) one
      ∙ moved (is_this w) (links_at (below base j)) (along (below base j) r)
      ∙ sym (ap (λ d. not (links_at (below base j)) && (is_this w && not (along (below base j) d))) two)

  child_used : (base : Path) (j : ℕ) (t : Fragment) → list_any (is_out base) (used (below base j) 0 t)
      ≡ (not (links_at (below base j)) && list_any (is_out (below base j)) (used (below base j) 0 t))
  child_used base j t =
      any_same (Below (below base j)) (is_out base) (λ w. not (links_at (below base j)) && is_out (below base j) w)
      (λ w h. out_step base h.0 j w h.1) (used (below base j) 0 t) (all_below def t (below base j) 0)
      ∙ any_and (not (links_at (below base j))) (is_out (below base j)) (used (below base j) 0 t)

  links_by : (b u : Bool) (ks : List Written) (ds : List Key) → map key_of ks ≡ ds
      → (is_among (map key_of (cond b ks [])) (s ∷ n) || (b && u)) ≡ (b && (is_among ds (s ∷ n) || u))
  links_by true u ks ds h = ap (λ l. is_among l (s ∷ n) || u) h
  links_by false u ks ds h = refl

  pub links_there : (q : Path) (t : Fragment) (b : Bool) → IsPlain t → node_at root q ≡ Some t → begins_with def q (Some t) ≡ b
      → links_at q ≡ (b && (is_among (declared_inside def t) (s ∷ n) || unfinished_inside def s t))
  links_there q t b plain at is =
      ap (λ o. is_among (map key_of (cond (begins_with def q o) (declared_with def q o) [])) (s ∷ n) || (begins_with def q o && is_unfinished_with def s o)) at
      ∙ ap (λ c. is_among (map key_of (cond c (names_below def true false q 0 t) [])) (s ∷ n) || (c && unfinished_inside def s t)) is
      ∙ links_by b (unfinished_inside def s t) (names_below def true false q 0 t) (declared_inside def t) (declared_keys def t q 0 plain)

  by_scope : (b : Bool) (ns ds : List Key) (unf : ℕ → Bool) (f : Bool) → is_among ns (s ∷ n) ≡ (is_among ds (s ∷ n) || f)
      → is_among (passing b unf ds ns) (s ∷ n) ≡ (is_among (cond b [] ds) (s ∷ n) || (not (b && (is_among ds (s ∷ n) || unf s)) && f))
  by_scope true ns ds unf f h =
      outward-among (s ∷ n) ns ds unf ∙ ap (λ a. a && not (unf s || is_among ds (s ∷ n))) h
      ∙ passed (is_among ds (s ∷ n)) (unf s) f
  by_scope false ns ds unf f h = h

  child_keys : (base : Path) (j : ℕ) (t : Fragment) → IsPlain t → node_at root (below base j) ≡ Some t
      → is_among (names_inside def t) (s ∷ n) ≡ (is_among (declared_inside def t) (s ∷ n) || list_any (is_out (below base j)) (used (below base j) 0 t))
      → is_among (passing (is_scope def t) (λ u. unfinished_inside def u t) (declared_inside def t) (names_inside def t)) (s ∷ n)
      ≡ (is_among (cond (is_scope def t) [] (declared_inside def t)) (s ∷ n) || list_any (is_out base) (used (below base j) 0 t))
  child_keys base j t plain at h =
      let begins : begins_with def (below base j) (Some t) ≡ is_scope def t =
      ap (λ b. is_scope def t || b) (not_root base j) ∙ or-false (is_scope def t) in
      let out = list_any (is_out (below base j)) (used (below base j) 0 t) in
      by_scope (is_scope def t) (names_inside def t) (declared_inside def t) (λ u. unfinished_inside def u t) out h
      ∙ ap (λ b. is_among (cond (is_scope def t) [] (declared_inside def t)) (s ∷ n) || b)
      (sym (child_used base j t ∙ ap (λ b. not b && out) (links_there (below base j) t (is_scope def t) plain at begins)))

  joined : (base : Path) (a b da db : List Key) (ua ub : List Written)
      → is_among a (s ∷ n) ≡ (is_among da (s ∷ n) || list_any (is_out base) ua)
      → is_among b (s ∷ n) ≡ (is_among db (s ∷ n) || list_any (is_out base) ub)
      → is_among (a ++ b) (s ∷ n) ≡ (is_among (da ++ db) (s ∷ n) || list_any (is_out base) (ua ++ ub))
  joined base a b da db ua ub h k =
      is_among-append a b (s ∷ n) ∙ ap₂ (λ x y. x || y) h k
      ∙ regrouped (is_among da (s ∷ n)) (list_any (is_out base) ua) (is_among db (s ∷ n)) (list_any (is_out base) ub)
      ∙ sym (ap₂ (λ x y. x || y) (is_among-append da db (s ∷ n)) (list_any-append (is_out base) ua ub))

  own_key : (it : Option Item) (base : Path) (nb : ℕ) (x : List ℕ) → is_among (lookups.key_of it x ∷ []) (s ∷ n)
      ≡ (is_among (cond (is_declares it) (lookups.key_of it x ∷ []) []) (s ∷ n) || list_any (is_out base) (wanted_name false (name_item it) base nb x))
  own_key None base nb x = refl
  own_key (Some (items.Refers r)) base nb x =
      ap (λ b. b || false)
      (sym (and-true (bytes_eq (r ∷ x) (s ∷ n)))
      ∙ sym (ap (λ d. bytes_eq (r ∷ x) (s ∷ n) && not (along base d)) (drop_self base)))
  own_key (Some (items.Declares r)) base nb x = sym (or-false (bytes_eq (r ∷ x) (s ∷ n) || false))
  own_key (Some _) base nb x = refl

  -- the children of the node are at the places below the path
  abbrev pub Sits : Path → ℕ → Fragment → Type 0
  Sits base k g = (i : ℕ) (t : Fragment) → slice_get (children_of g) i ≡ Some t → node_at root (below base (k + i)) ≡ Some t

  pub sits_below : (q : Path) (t : Fragment) → node_at root q ≡ Some t → Sits q 0 t
  sits_below q t at i x h =
      let z : i ≡ 0 + i = omega arith in
      subst (λ m. node_at root (below q m) ≡ Some x) z (node_below i x q root t at h)

  -- the keys of the inside region are those that are declared, and those of names that no region below is linked to
  pub inside_keys : (g : Fragment) (more : List Item) (kind : Kind) (base : Path) (k : ℕ) → Fits def g more kind → IsPlain g → Sits base k g
      → (is_list g ≡ false → k ≡ 0) → is_among (names_inside def g) (s ∷ n)
      ≡ (is_among (declared_inside def g) (s ∷ n) || list_any (is_out base) (used base k g))
  inside_keys (hole p) more kind base k h plain sits z = refl
  inside_keys (ending l u) more kind base k h plain sits z = refl
  inside_keys (cell l e r) more kind base k (a, b, kd, found, fe, fr, y) plain sits z =
      let zero_on : k + 0 ≡ k = omega arith in
      let at : node_at root (below base k) ≡ Some e = subst (λ m. node_at root (below base m) ≡ Some e) zero_on (sits 0 e refl) in
      joined base (passing (is_scope def e) (λ u. unfinished_inside def u e) (declared_inside def e) (names_inside def e)) (names_inside def r)
      (cond (is_scope def e) [] (declared_inside def e)) (declared_inside def r) (used (below base k) 0 e) (used base (suc k) r)
      (child_keys base k e plain.0 at (inside_keys e [] (kinds.Phylum kd.element) (below base k) 0 fe plain.0 (sits_below (below base k) e at) (λ q. refl)))
      (inside_keys r [] (kinds.List l) base (suc k) fr plain.1
      (λ i t q. let more_on : k + suc i ≡ suc k + i = omega arith in subst (λ m. node_at root (below base m) ≡ Some t) more_on (sits (suc i) t q))
      (λ q. absurd (let wrong : true ≡ false = sym (rest_is_list def r l fr plain.1) ∙ q in cc)))
  inside_keys (operator o) more kind base k h plain sits z = refl
  inside_keys (with_child f t) more kind base k (kd, hf, ht) plain sits z =
      let j = length (children_of f) in
      let none = z refl in
      let own : k + j ≡ j = omega (arith, none) in
      let at : node_at root (below base j) ≡ Some t = subst (λ m. node_at root (below base m) ≡ Some t) own (sits j t (slice_get-end (children_of f) t)) in
      joined base (names_inside def f) (passing (is_scope def t) (λ u. unfinished_inside def u t) (declared_inside def t) (names_inside def t))
      (declared_inside def f) (cond (is_scope def t) [] (declared_inside def t)) (used base k f) (used (below base j) 0 t)
      (inside_keys f (items.Slot kd ∷ more) kind base k hf plain.0 (λ i x q. sits i x (slice_get-front (children_of f) (t ∷ []) i x q)) (λ q. none))
      (child_keys base j t plain.1 at (inside_keys t [] kd (below base j) 0 ht plain.1 (sits_below (below base j) t at) (λ q. refl)))
  inside_keys (with_name f x) more kind base k (inl (r, h), w) plain sits z =
      joined base (names_inside def f) (lookups.key_of (next_item def f) x ∷ []) (declared_inside def f)
      (cond (is_declares (next_item def f)) (lookups.key_of (next_item def f) x ∷ []) []) (used base k f)
      (wanted_name false (name_item (next_item def f)) base (names_before f) x)
      (inside_keys f (items.Refers r ∷ more) kind base k h plain sits (λ q. z refl)) (own_key (next_item def f) base (names_before f) x)
  inside_keys (with_name f x) more kind base k (inr (r, h), w) plain sits z =
      joined base (names_inside def f) (lookups.key_of (next_item def f) x ∷ []) (declared_inside def f)
      (cond (is_declares (next_item def f)) (lookups.key_of (next_item def f) x ∷ []) []) (used base k f)
      (wanted_name false (name_item (next_item def f)) base (names_before f) x)
      (inside_keys f (items.Declares r ∷ more) kind base k h plain sits (λ q. z refl)) (own_key (next_item def f) base (names_before f) x)
  inside_keys (with_number f x) more kind base k (h, w) plain sits z = inside_keys f (items.Number ∷ more) kind base k h plain sits (λ q. z refl)
  inside_keys (with_text f x) more kind base k (h, w) plain sits z = inside_keys f (items.Text ∷ more) kind base k h plain sits (λ q. z refl)
  inside_keys anything more kind base k h plain sits z = refl
  inside_keys (observed f) more kind base k h plain sits z = absurd plain
