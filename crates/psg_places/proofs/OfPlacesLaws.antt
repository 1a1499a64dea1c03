-- A tree with places opened depends only on what is said of its places.
use Rattle.std.proofs.Common.{◌≡◌, ℕ, ◌+◌, ◌<◌, ◌≤◌, ◌||◌, ◌&&◌, not, Bool, true, false, cond, refl, ap, ap₂, sym, ◌∙◌, subst, arith}
use Rattle.psg_terms.specs.Names.{Name}
use Rattle.psg_grammar.specs.declared.types.Definition.{Definition}
use Rattle.psg_grammar.specs.Fragments.{Fragment, hole, ending, cell, operator, with_child, with_name, with_number}
use Rattle.psg_grammar.specs.Fragments.{with_text, anything, observed}
use Rattle.psg_grammar.specs.Lookups.{is_declares, next_item}
use Rattle.psg_places.specs.Blame.{IsOfPlaces}
use Rattle.psg_places.specs.Opened.{contents, name_or_fresh}
use Rattle.psg_places.specs.Places.{child_size, content_count, declared_count, element_size, has_no_placeholder, is_hole, may_go_on, phylum_of, place_count}

module _ (def : Definition) (one two : ℕ → Bool) (old new : ℕ → Name) where
  -- the same is said of m places from n on
  abbrev pub Agrees : ℕ → ℕ → Type 0
  Agrees n m = (i : ℕ) → i < m → (one (n + i) ≡ two (n + i)) × (old (n + i) ≡ new (n + i))

  at_first : (n m : ℕ) → Agrees n m → 0 < m → (one n ≡ two n) × (old n ≡ new n)
  at_first n m h lt = let z : n + 0 ≡ n = omega arith in subst (λ k. (one k ≡ two k) × (old k ≡ new k)) z (h 0 lt)

  fewer : (n m k : ℕ) → m ≤ k → Agrees n k → Agrees n m
  fewer n m k le h i lt = h i (omega (arith, le, lt))

  later : (n m k : ℕ) → Agrees n (m + k) → Agrees (n + m) k
  later n m k h i lt =
      let z : n + (m + i) ≡ n + m + i = omega arith in
      subst (λ j. (one j ≡ two j) × (old j ≡ new j)) z (h (m + i) (omega (arith, lt)))

  both : (n m k : ℕ) → Agrees n (m + k) → Agrees n m × Agrees (n + m) k
  both n m k h = (fewer n m (m + k) (omega arith) h, later n m k h)

  abbrev left : ℕ → ℕ → Fragment → Fragment
  left d n f = contents def one old d n f

  abbrev right : ℕ → ℕ → Fragment → Fragment
  right d n f = contents def two new d n f

  -- ---- by tests

  pub same_child : (a b : Bool) (d n m k : ℕ) (t x y u v h : Fragment) → Agrees d (cond a m 0)
      → Agrees n (cond a k (cond b 0 (1 + (m + k)))) → (Agrees d m → Agrees n k → x ≡ y)
      → (Agrees (n + 1) m → Agrees (n + 1 + m) k → u ≡ v)
      → cond a x (cond b t (cond (one n) u h)) ≡ cond a y (cond b t (cond (two n) v h))
  same_child true b d n m k t x y u v h dd nn p q = p dd nn
  same_child false true d n m k t x y u v h dd nn p q = refl
  same_child false false d n m k t x y u v h dd nn p q =
      let (own, more) = both n 1 (m + k) nn in
      let (ms, ks) = both (n + 1) m k more in
      ap₂ (λ b f. cond b f h) (at_first n 1 own (omega arith)).0 (q ms ks)

  same_whole : (a b : Bool) (n m k : ℕ) (t x y u v h : Fragment)
      → Agrees n (cond a (m + k) (cond a k (cond b 0 (1 + (m + k))))) → (Agrees n m → Agrees (n + m) k → x ≡ y)
      → (Agrees (n + 1) m → Agrees (n + 1 + m) k → u ≡ v)
      → cond a x (cond b t (cond (one n) u h)) ≡ cond a y (cond b t (cond (two n) v h))
  same_whole true b n m k t x y u v h nn p q = let (ms, ks) = both n m k nn in p ms ks
  same_whole false true n m k t x y u v h nn p q = refl
  same_whole false false n m k t x y u v h nn p q =
      let (own, more) = both n 1 (m + k) nn in
      let (ms, ks) = both (n + 1) m k more in
      ap₂ (λ b f. cond b f h) (at_first n 1 own (omega arith)).0 (q ms ks)

  twice : (a : Bool) (x y z : Fragment) → cond a x (cond a y z) ≡ cond a x z
  twice true x y z = refl
  twice false x y z = refl

  pub same_name : (b : Bool) (d n : ℕ) (x : Name) → Agrees d (cond b 1 0) → Agrees n (cond b 0 1)
      → cond b (name_or_fresh def one old d x) (name_or_fresh def one old n x)
      ≡ cond b (name_or_fresh def two new d x) (name_or_fresh def two new n x)
  same_name true d n x dd nn = let h = at_first d 1 dd (omega arith) in ap₂ (λ b y. cond b x y) h.0 h.1
  same_name false d n x dd nn = let h = at_first n 1 nn (omega arith) in ap₂ (λ b y. cond b x y) h.0 h.1

  same_end : (may u : Bool) (n : ℕ) → Agrees n (cond (may && not u) 1 0)
      → (u || (may && not (one n))) ≡ (u || (may && not (two n)))
  same_end may true n h = refl
  same_end true false n h = ap not (at_first n 1 h (omega arith)).0
  same_end false false n h = refl

  same_cell : (may : Bool) (d n l m inner size more_dec more_own : ℕ) (e_free e_free' e_fixed e_fixed' r_free r_free' r_fixed r_fixed' : Fragment)
      → cond may (1 + inner) size ≡ m
      → Agrees d (cond may 0 (more_dec) + more_own) → Agrees n m
      → (Agrees (n + 1) inner → e_free ≡ e_free') → (Agrees d more_dec → Agrees n size → e_fixed ≡ e_fixed')
      → (Agrees d more_own → r_free ≡ r_free') → (Agrees (d + more_dec) more_own → r_fixed ≡ r_fixed')
      → cond may (cond (one n) (cell l e_free r_free) r_free) (cell l e_fixed r_fixed)
      ≡ cond may (cond (two n) (cell l e_free' r_free') r_free') (cell l e_fixed' r_fixed')
  same_cell true d n l m inner size more_dec more_own e_free e_free' e_fixed e_fixed' r_free r_free' r_fixed r_fixed' s dd nn p q r t =
      let (own, more) = both n 1 inner (subst (Agrees n) (sym s) nn) in
      let z : 0 + more_own ≡ more_own = omega arith in
      let rest = r (subst (Agrees d) z dd) in
      ap₂ (λ b g. cond b (cell l e_free g) g) (at_first n 1 own (omega arith)).0 rest
      ∙ ap (λ g. cond (two n) (cell l g r_free') r_free') (p more)
  same_cell false d n l m inner size more_dec more_own e_free e_free' e_fixed e_fixed' r_free r_free' r_fixed r_fixed' s dd nn p q r t =
      let (here, after) = both d more_dec more_own dd in
      ap₂ (cell l) (q here (subst (Agrees n) (sym s) nn)) (t after)

  -- ---- contents

  pub same : (d n : ℕ) (f : Fragment) → Agrees d (declared_count def f) → Agrees n (content_count def f)
      → left d n f ≡ right d n f
  same d n (hole p) dd nn = refl
  same d n (ending l u) dd nn = ap (ending l) (same_end (may_go_on def l) u n nn)
  same d n (cell l e r) dd nn =
      let m = declared_count def e in
      let k = content_count def e in
      let size = element_size def l e k in
      let fixed = cond (has_no_placeholder def e) m 0 in
      let a = has_no_placeholder def e in
      let b = is_hole e in
      let h = hole (phylum_of def e) in
      let (own, rest) = both n size (content_count def r) nn in
      same_cell (may_go_on def l) d n l size (cond a (m + k) (child_size def e k)) (child_size def e k) fixed
      (declared_count def r) _ _ _ _ _ _ _ _ refl dd own
      (λ x. twice a (left (n + 1) (n + 1 + m) e) (left 0 (n + 1) e) _
      ∙ same_whole a b (n + 1) m k e (left (n + 1) (n + 1 + m) e) (right (n + 1) (n + 1 + m) e)
      (left (n + 1 + 1) (n + 1 + 1 + m) e) (right (n + 1 + 1) (n + 1 + 1 + m) e) h x
      (λ y z. same (n + 1) (n + 1 + m) e y z) (λ y z. same (n + 1 + 1) (n + 1 + 1 + m) e y z)
      ∙ sym (twice a (right (n + 1) (n + 1 + m) e) (right 0 (n + 1) e) _))
      (λ x y. same_child a b d n m k e (left d n e) (right d n e) (left (n + 1) (n + 1 + m) e)
      (right (n + 1) (n + 1 + m) e) h x y (λ z w. same d n e z w) (λ z w. same (n + 1) (n + 1 + m) e z w))
      (λ x. same d (n + size) r x rest) (λ x. same (d + fixed) (n + size) r x rest)
  same d n (operator o) dd nn = refl
  same d n (with_child f t) dd nn =
      let m = declared_count def t in
      let k = content_count def t in
      let (df, dt) = both d (declared_count def f) (cond (has_no_placeholder def t) m 0) dd in
      let (nf, nt) = both n (content_count def f) (child_size def t k) nn in
      let x = d + declared_count def f in
      let y = n + content_count def f in
      ap₂ with_child (same d n f df nf)
      (same_child (has_no_placeholder def t) (is_hole t) x y m k t (left x y t) (right x y t) (left (y + 1) (y + 1 + m) t)
      (right (y + 1) (y + 1 + m) t) (hole (phylum_of def t)) dt nt (λ z w. same x y t z w)
      (λ z w. same (y + 1) (y + 1 + m) t z w))
  same d n (with_name f x) dd nn =
      let b = is_declares (next_item def f) in
      let (df, dx) = both d (declared_count def f) (cond b 1 0) dd in
      let (nf, nx) = both n (content_count def f) (cond b 0 1) nn in
      ap₂ with_name (same d n f df nf) (same_name b (d + declared_count def f) (n + content_count def f) x dx nx)
  same d n (with_number f x) dd nn = ap (λ g. with_number g x) (same d n f dd nn)
  same d n (with_text f x) dd nn = ap (λ g. with_text g x) (same d n f dd nn)
  same d n anything dd nn = refl
  same d n (observed f) dd nn = refl

pub of_places : (def : Definition) → IsOfPlaces def
of_places def f one two old new keeps names =
    let m = declared_count def f in
    let k = content_count def f in
    let all : (i : ℕ) → i < place_count def f → (one (0 + i) ≡ two (0 + i)) × (old (0 + i) ≡ new (0 + i)) =
    λ i lt.
    let z : i ≡ 0 + i = omega arith in
    subst (λ j. (one j ≡ two j) × (old j ≡ new j)) z (keeps i lt, names i lt) in
    same_whole def one two old new (has_no_placeholder def f) (is_hole f) 0 m k f
    (contents def one old 0 m f) (contents def two new 0 m f) (contents def one old 1 (1 + m) f)
    (contents def two new 1 (1 + m) f) (hole (phylum_of def f)) all
    (λ x y.
    let z : 0 + m ≡ m = omega arith in
    same def one two old new 0 m f x (subst (λ j. Agrees def one two old new j k) z y)) (λ x y. same def one two old new 1 (1 + m) f x y)
