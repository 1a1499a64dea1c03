-- The number of a place is its position among the listed places.
use Rattle.std.proofs.Common.{◌≡◌, ℕ, suc, ◌+◌, ◌||◌, ◌&&◌, not, Bool, true, false, cond, List, [], ◌∷◌, ◌++◌, length, refl, ap, ap₂, sym, ◌∙◌, subst, arith, append_assoc, length-append}
use Rattle.std.specs.Prelude.{unwrap_or}
use Rattle.psg_terms.specs.Names.{Name as Word}
use Rattle.psg_terms.proofs.Lists.{slice_get-middle}
use Rattle.psg_grammar.specs.declared.types.Definition.{Definition}
use Rattle.psg_grammar.specs.Fragments.{Fragment, hole, ending, cell, operator, with_child, with_name, with_number}
use Rattle.psg_grammar.specs.Fragments.{with_text, anything, observed, children_of}
use Rattle.psg_grammar.specs.Lookups.{is_declares, next_item}
use Rattle.psg_grammar.specs.Paths.{Path}
use Rattle.psg_places.specs.declared.place.Place.{Place}
use Rattle.psg_places.specs.declared.place.Place.TheVariants.{Node, Element, End, Name}
use Rattle.psg_places.specs.ByPlaces.{AreNumbered, child_by, contents_by, numbered}
use Rattle.psg_places.specs.Opened.{contents, name_or_fresh, opened_child, opened_element}
use Rattle.psg_places.specs.Places.{below, child_places, content_count, content_places, declared_count, declared_places}
use Rattle.psg_places.specs.Places.{element_size, has_no_placeholder, is_hole, may_go_on, names_before, phylum_of, places_of}
use Rattle.psg_places.proofs.CountLaws.{content_length, declared_length, element_length}

module _ (def : Definition) (keep : ℕ → Bool) (new : ℕ → Word) (kept : Place → Bool) (fresh : Place → Word) where
  -- the places have the numbers from n on
  abbrev pub Ties : ℕ → List Place → Type 0
  Ties n [] = Unit {0}
  Ties n (p ∷ ps) = ((keep n ≡ kept p) × (new n ≡ fresh p)) × Ties (n + 1) ps

  split : (n : ℕ) (xs ys : List Place) → Ties n (xs ++ ys) → Ties n xs × Ties (n + length xs) ys
  split n [] ys h = let z : n ≡ n + 0 = omega arith in (tt, subst (λ m. Ties m ys) z h)
  split n (x ∷ xs) ys h =
      let (a, b) = split (n + 1) xs ys h.1 in
      let z : n + 1 + length xs ≡ n + length (x ∷ xs) = omega arith in
      ((h.0, a), subst (λ m. Ties m ys) z b)

  split_at : (n m : ℕ) (xs ys : List Place) → length xs ≡ m → Ties n (xs ++ ys) → Ties n xs × Ties (n + m) ys
  split_at n m xs ys l h = let (a, b) = split n xs ys h in (a, subst (λ k. Ties (n + k) ys) l b)

  abbrev now : ℕ → ℕ → Fragment → Fragment
  now d n f = contents def keep new d n f

  abbrev by : Path → ℕ → Fragment → Fragment
  by path k f = contents_by def kept fresh path k f

  -- ---- by tests

  pick_child : (a b : Bool) (path : Path) (d n m : ℕ) (t as_fixed as_node inner h : Fragment) (ds cs : List Place)
      → length ds ≡ m → Ties d (cond a ds []) → Ties n (cond a cs (cond b [] (Node path ∷ (ds ++ cs))))
      → (Ties d ds → Ties n cs → as_fixed ≡ inner) → (Ties (n + 1) ds → Ties (n + 1 + m) cs → as_node ≡ inner)
      → cond a as_fixed (cond b t (cond (keep n) as_node h)) ≡ cond a inner (cond b t (cond (kept (Node path)) inner h))
  pick_child true b path d n m t as_fixed as_node inner h ds cs l td tn p q = p td tn
  pick_child false true path d n m t as_fixed as_node inner h ds cs l td tn p q = refl
  pick_child false false path d n m t as_fixed as_node inner h ds cs l td (here, more) p q =
      let (a, b) = split_at (n + 1) m ds cs l more in
      ap₂ (λ b f. cond b f h) here.0 (q a b)

  child_tied : (path : Path) (d n : ℕ) (t as_fixed as_node inner : Fragment)
      → Ties d (cond (has_no_placeholder def t) (declared_places def path 0 t) [])
      → Ties n (child_places def path t (content_places def path 0 t))
      → (Ties d (declared_places def path 0 t) → Ties n (content_places def path 0 t) → as_fixed ≡ inner)
      → (Ties (n + 1) (declared_places def path 0 t) → Ties (n + 1 + declared_count def t) (content_places def path 0 t)
      → as_node ≡ inner)
      → opened_child def keep new n t as_fixed as_node ≡ child_by def kept fresh path t inner
  child_tied path d n t as_fixed as_node inner td tn p q =
      pick_child (has_no_placeholder def t) (is_hole t) path d n (declared_count def t) t as_fixed as_node inner
      (hole (phylum_of def t)) (declared_places def path 0 t) (content_places def path 0 t) (declared_length def path 0 t)
      td tn p q

  pick_name : (b : Bool) (d n : ℕ) (p : Place) (x : Word) → Ties d (cond b (p ∷ []) []) → Ties n (cond b [] (p ∷ []))
      → cond b (name_or_fresh def keep new d x) (name_or_fresh def keep new n x) ≡ cond (kept p) x (fresh p)
  pick_name true d n p x td tn = ap₂ (λ b y. cond b x y) td.0.0 td.0.1
  pick_name false d n p x td tn = ap₂ (λ b y. cond b x y) tn.0.0 tn.0.1

  pick_end : (may u : Bool) (n : ℕ) (p : Place) → Ties n (cond (may && not u) (p ∷ []) [])
      → (u || (may && not (keep n))) ≡ (u || (may && not (kept p)))
  pick_end may true n p h = refl
  pick_end true false n p h = ap not h.0.0
  pick_end false false n p h = refl

  -- a whole tree, or an element of a list that may go on, after its own place
  pick_whole : (a b : Bool) (path : Path) (n m : ℕ) (e as_fixed as_node inner h : Fragment) (ds cs : List Place)
      → length ds ≡ m → Ties n (cond a (ds ++ cs) (cond a cs (cond b [] (Node path ∷ (ds ++ cs)))))
      → (Ties n ds → Ties (n + m) cs → as_fixed ≡ inner) → (Ties (n + 1) ds → Ties (n + 1 + m) cs → as_node ≡ inner)
      → cond a as_fixed (cond b e (cond (keep n) as_node h)) ≡ cond a inner (cond b e (cond (kept (Node path)) inner h))
  pick_whole true b path n m e as_fixed as_node inner h ds cs l t p q = let (x, y) = split_at n m ds cs l t in p x y
  pick_whole false true path n m e as_fixed as_node inner h ds cs l t p q = refl
  pick_whole false false path n m e as_fixed as_node inner h ds cs l (here, more) p q =
      let (x, y) = split_at (n + 1) m ds cs l more in
      ap₂ (λ b f. cond b f h) here.0 (q x y)

  twice : (a : Bool) (x y z : Fragment) → cond a x (cond a y z) ≡ cond a x z
  twice true x y z = refl
  twice false x y z = refl

  fixed_length : (b : Bool) (ds : List Place) (m : ℕ) → length ds ≡ m → length (cond b ds []) ≡ cond b m 0
  fixed_length true ds m e = e
  fixed_length false ds m e = refl

  pick_cell : (may : Bool) (d n size : ℕ) (l : ℕ) (p : Place) (ds cs rd rc element_rest : List Place) (e_free e_fixed e_by rest_free rest_fixed rest_by : Fragment)
      → length (cond may (p ∷ element_rest) cs) ≡ size
      → Ties d (cond may [] ds ++ rd) → Ties n (cond may (p ∷ element_rest) cs ++ rc)
      → (Ties (n + 1) element_rest → e_free ≡ e_by)
      → (Ties d ds → Ties n cs → e_fixed ≡ e_by)
      → (Ties d rd → Ties (n + size) rc → rest_free ≡ rest_by)
      → (Ties (d + length ds) rd → Ties (n + size) rc → rest_fixed ≡ rest_by)
      → cond may (cond (keep n) (cell l e_free rest_free) rest_free) (cell l e_fixed rest_fixed)
      ≡ cond (may && not (kept p)) rest_by (cell l e_by rest_by)
  pick_cell true d n size l p ds cs rd rc element_rest e_free e_fixed e_by rest_free rest_fixed rest_by long td tn a b c g =
      let s = split_at n size (p ∷ element_rest) rc long tn in
      let rest = c td s.1 in
      ap₂ (λ x r. cond x (cell l e_free r) r) s.0.0.0 rest ∙ ap (λ x. cond (kept p) (cell l x rest_by) rest_by) (a s.0.1)
      ∙ turned (kept p) where
        turned : (b : Bool) → cond b (cell l e_by rest_by) rest_by ≡ cond (not b) rest_by (cell l e_by rest_by)
        turned true = refl
        turned false = refl
  pick_cell false d n size l p ds cs rd rc element_rest e_free e_fixed e_by rest_free rest_fixed rest_by long td tn a b c g =
      let (here, after) = split d ds rd td in
      let (own, more) = split_at n size cs rc long tn in
      ap₂ (λ e r. cell l e r) (b here own) (g after more)

  -- ---- contents

  tied : (path : Path) (k d n : ℕ) (f : Fragment) → Ties d (declared_places def path k f)
      → Ties n (content_places def path k f) → now d n f ≡ by path k f
  tied path k d n (hole p) td tn = refl
  tied path k d n (ending l u) td tn = ap (ending l) (pick_end (may_go_on def l) u n (End path) tn)
  tied path k d n (cell l e r) td tn =
      let inner = below path k in
      let ds = declared_places def inner 0 e in
      let cs = content_places def inner 0 e in
      let size = element_size def l e (content_count def e) in
      let fixed = cond (has_no_placeholder def e) ds [] in
      let E = by inner 0 e in
      let long : length fixed ≡ cond (has_no_placeholder def e) (declared_count def e) 0 =
      fixed_length (has_no_placeholder def e) ds (declared_count def e) (declared_length def inner 0 e) in
      pick_cell (may_go_on def l) d n size l (Element inner) fixed (child_places def inner e cs)
      (declared_places def path (suc k) r) (content_places def path (suc k) r)
      (cond (has_no_placeholder def e) (ds ++ cs) (child_places def inner e cs))
      (opened_element def keep new e (now (n + 1) (n + 1 + declared_count def e) e)
      (opened_child def keep new (n + 1) e (now 0 (n + 1) e) (now (n + 1 + 1) (n + 1 + 1 + declared_count def e) e)))
      (opened_child def keep new n e (now d n e) (now (n + 1) (n + 1 + declared_count def e) e))
      (child_by def kept fresh inner e E)
      (now d (n + size) r) (now (d + cond (has_no_placeholder def e) (declared_count def e) 0) (n + size) r)
      (by path (suc k) r)
      (element_length def l inner e cs (content_count def e) (declared_length def inner 0 e) (content_length def inner 0 e))
      td tn
      (λ own. twice (has_no_placeholder def e) (now (n + 1) (n + 1 + declared_count def e) e) (now 0 (n + 1) e)
      (cond (is_hole e) e (cond (keep (n + 1)) (now (n + 1 + 1) (n + 1 + 1 + declared_count def e) e) (hole (phylum_of def e))))
      ∙ pick_whole (has_no_placeholder def e) (is_hole e) inner (n + 1) (declared_count def e) e
      (now (n + 1) (n + 1 + declared_count def e) e) (now (n + 1 + 1) (n + 1 + 1 + declared_count def e) e) E
      (hole (phylum_of def e)) ds cs (declared_length def inner 0 e) own
      (λ a b. tied inner 0 (n + 1) (n + 1 + declared_count def e) e a b)
      (λ a b. tied inner 0 (n + 1 + 1) (n + 1 + 1 + declared_count def e) e a b))
      (λ a b. child_tied inner d n e (now d n e) (now (n + 1) (n + 1 + declared_count def e) e) E a b
      (λ x y. tied inner 0 d n e x y) (λ x y. tied inner 0 (n + 1) (n + 1 + declared_count def e) e x y))
      (λ a b. tied path (suc k) d (n + size) r a b)
      (λ a b. tied path (suc k) (d + cond (has_no_placeholder def e) (declared_count def e) 0) (n + size) r
      (subst (λ m. Ties (d + m) (declared_places def path (suc k) r)) long a) b)
  tied path k d n (operator o) td tn = refl
  tied path k d n (with_child f t) td tn =
      let inner = below path (length (children_of f)) in
      let (df, dt) = split_at d (declared_count def f) (declared_places def path k f)
      (cond (has_no_placeholder def t) (declared_places def inner 0 t) []) (declared_length def path k f) td in
      let (cf, ct) = split_at n (content_count def f) (content_places def path k f)
      (child_places def inner t (content_places def inner 0 t)) (content_length def path k f) tn in
      let a = d + declared_count def f in
      let m = n + content_count def f in
      ap₂ with_child (tied path k d n f df cf)
      (child_tied inner a m t (now a m t) (now (m + 1) (m + 1 + declared_count def t) t) (by inner 0 t) dt ct
      (λ x y. tied inner 0 a m t x y) (λ x y. tied inner 0 (m + 1) (m + 1 + declared_count def t) t x y))
  tied path k d n (with_name f x) td tn =
      let p = Name path (names_before f) in
      let b = is_declares (next_item def f) in
      let (df, dx) = split_at d (declared_count def f) (declared_places def path k f) (cond b (p ∷ []) [])
      (declared_length def path k f) td in
      let (cf, cx) = split_at n (content_count def f) (content_places def path k f) (cond b [] (p ∷ []))
      (content_length def path k f) tn in
      ap₂ with_name (tied path k d n f df cf) (pick_name b (d + declared_count def f) (n + content_count def f) p x dx cx)
  tied path k d n (with_number f x) td tn = ap (λ g. with_number g x) (tied path k d n f td tn)
  tied path k d n (with_text f x) td tn = ap (λ g. with_text g x) (tied path k d n f td tn)
  tied path k d n anything td tn = refl
  tied path k d n (observed f) td tn = refl

module _ (def : Definition) (all : List Place) (kept : Place → Bool) (fresh : Place → Word) where
  abbrev keep_at : ℕ → Bool
  keep_at n = kept (numbered all n)

  abbrev new_at : ℕ → Word
  new_at n = fresh (numbered all n)

  tie_from : (front ps : List Place) → all ≡ front ++ ps → Ties def keep_at new_at kept fresh (length front) ps
  tie_from front [] e = tt
  tie_from front (p ∷ ps) e =
      let at : numbered all (length front) ≡ p =
      ap (λ qs. numbered qs (length front)) e ∙ ap (λ o. unwrap_or o (Node [])) (slice_get-middle front p ps) in
      let long : length (front ++ p ∷ []) ≡ length front + 1 = length-append front (p ∷ []) in
      let more = tie_from (front ++ p ∷ []) ps (e ∙ sym (append_assoc front (p ∷ []) ps)) in
      ((ap kept at, ap fresh at), subst (λ n. Ties def keep_at new_at kept fresh n ps) long more)

pub are_numbered : (def : Definition) → AreNumbered def
are_numbered def f kept fresh =
    let all = places_of def f in
    let keep = λ (n : ℕ). kept (numbered all n) in
    let new = λ (n : ℕ). fresh (numbered all n) in
    let ds = declared_places def [] 0 f in
    let cs = content_places def [] 0 f in
    pick_whole def keep new kept fresh (has_no_placeholder def f) (is_hole f) [] 0 (declared_count def f) f
    (contents def keep new 0 (declared_count def f) f) (contents def keep new 1 (1 + declared_count def f) f)
    (contents_by def kept fresh [] 0 f) (hole (phylum_of def f)) ds cs (declared_length def [] 0 f)
    (tie_from def all kept fresh [] all refl)
    (λ a b.
    let z : 0 + declared_count def f ≡ declared_count def f = omega arith in
    tied def keep new kept fresh [] 0 0 (declared_count def f) f a (subst (λ n. Ties def keep new kept fresh n cs) z b))
    (λ a b. tied def keep new kept fresh [] 0 1 (1 + declared_count def f) f a b)
