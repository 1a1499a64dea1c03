-- That the next of the paths is the nearest one.
use Rattle.std.proofs.Common.{◌≡◌, ◌≤◌, ◌==◌, ◌&&◌, Bool, true, false, cond, List, [], ◌∷◌, Option, Some, None}
use Rattle.std.proofs.Common.{◌⊎◌, inl, inr, refl, ap, sym, ◌∙◌, subst, arith}
use Rattle.std.specs.Prelude.{MatchOption, nat_lt}
use Rattle.std.proofs.lemmas.Bool.{and_cases, and_left, and_parts, and_right, cases_Bool, cases_eq, eqb-false, eqb-true}
use Rattle.std.proofs.lemmas.Bool.{false≢true, le-ltb, ltb-false, ltb-true, ne_eqb, or_cases, or_from, or_parts, true≢false}
use Rattle.std.proofs.lemmas.Option.{none-some}
use Rattle.psg_terms.specs.Relations.{IsIn, first, later}
use Rattle.psg_grammar.specs.Paths.{Path}
use Rattle.psg_face.specs.Opens.{is_before}
use Rattle.psg_modes.specs.Wrong.{IsNext, any, greater, greatest_with, least_with, lesser, near, next_of, one_of, round}

-- ---- the order of the text

not_itself : (path : Path) → is_before path path ≡ false
not_itself [] = refl
not_itself (k ∷ path) =
    or_from (nat_lt k k) ((k == k) && is_before path path) (le-ltb k k (omega arith))
    (and_right (k == k) (is_before path path) (not_itself path))

not_back : (a b : Path) → is_before a b ≡ true → is_before b a ≡ false
not_back [] [] e = absurd (false≢true e)
not_back [] (l ∷ b) e = refl
not_back (k ∷ a) [] e = absurd (false≢true e)
not_back (k ∷ a) (l ∷ b) e = elim (or_cases (nat_lt k l) ((k == l) && is_before a b) e) [
  | inl less ↦ let lt = ltb-true k l less in
      let other : l ≡ k → ⊥ = λ same. omega (arith, lt, same) in
      or_from (nat_lt l k) ((l == k) && is_before b a) (le-ltb l k (omega (arith, lt)))
      (and_left (l == k) (is_before b a) (ne_eqb l k other))
  | inr both ↦ let parts = and_parts (k == l) (is_before a b) both in
      let same = eqb-true k l parts.0 in
      or_from (nat_lt l k) ((l == k) && is_before b a) (le-ltb l k (omega (arith, same)))
      (and_right (l == k) (is_before b a) (not_back a b parts.1))
]

-- what is not before what is not before a path is not before this path
not_before : (a b c : Path) → is_before a b ≡ false → is_before b c ≡ false → is_before a c ≡ false
not_before [] [] c e f = f
not_before [] (l ∷ b) c e f = absurd (true≢false e)
not_before (k ∷ a) b [] e f = refl
not_before (k ∷ a) [] (m ∷ c) e f = absurd (true≢false f)
not_before (k ∷ a) (l ∷ b) (m ∷ c) e f =
    let p = or_parts (nat_lt k l) ((k == l) && is_before a b) e in
    let q = or_parts (nat_lt l m) ((l == m) && is_before b c) f in
    let lk : l ≤ k = ltb-false k l p.0 in
    let ml : m ≤ l = ltb-false l m q.0 in
    or_from (nat_lt k m) ((k == m) && is_before a c) (le-ltb k m (omega (arith, lk, ml)))
    (elim (cases_eq k m) [
      | inl same ↦ and_right (k == m) (is_before a c) (not_before a b c
          (elim (and_cases (k == l) (is_before a b) p.1) [
            | inl differ ↦ absurd (eqb-false k l differ (omega (arith, lk, ml, same)))
            | inr so ↦ so
          ])
          (elim (and_cases (l == m) (is_before b c) q.1) [
            | inl differ ↦ absurd (eqb-false l m differ (omega (arith, lk, ml, same)))
            | inr so ↦ so
          ]))
      | inr differ ↦ and_left (k == m) (is_before a c) (ne_eqb k m differ)
    ])

-- ---- what a walk over paths finds

same_path : (a b : Path) → Some a ≡ Some b → a ≡ b
same_path a b e = cc

in_more : (P : Path → Type 0) (x : Path) (xs : List Path) → P x → ((q : Path) → IsIn q xs → P q) → (q : Path)
    → IsIn q (x ∷ xs) → P q
in_more P x xs here rest q first = here
in_more P x xs here rest q (later m) = rest q m

-- A walk keeps one of the path and what was kept before; a path that is further on than neither is not further on than
-- what is kept.
module _ (is_on : Path → Path → Bool) (keep : Path → Option Path → Path) (walk : (Path → Bool) → Option Path → List Path → Option Path) (itself : (p : Path) → is_on p p ≡ false) (alone : (x : Path) → keep x None ≡ x) (either : (x b : Path) → (keep x (Some b) ≡ x) ⊎ (keep x (Some b) ≡ b)) (both : (x b p : Path) → is_on (keep x (Some b)) p ≡ false → (is_on x p ≡ false) × (is_on b p ≡ false)) (stop : (test : Path → Bool) (best : Option Path) → walk test best [] ≡ best) (step : (test : Path → Bool) (best : Option Path) (x : Path) (xs : List Path) → walk test best (x ∷ xs) ≡ walk test (cond (test x) (Some (keep x best)) best) xs) where
  abbrev Found : (Path → Bool) → Option Path → List Path → Option Path → Type 0
  Found test best xs None = (best ≡ None) × ((q : Path) → IsIn q xs → test q ≡ false)
  Found test best xs (Some p) =
      ((best ≡ Some p) ⊎ (IsIn p xs × (test p ≡ true)))
      × ((q : Path) → IsIn q xs → test q ≡ true → is_on q p ≡ false) × ((b : Path) → best ≡ Some b → is_on b p ≡ false)

  at_end : (test : Path → Bool) (best : Option Path) → Found test best [] best
  at_end test None = (refl, λ q m. elim m [ ])
  at_end test (Some b) =
      (inl refl, (λ q m t. elim m [ ]), λ c e. subst (λ x. is_on x b ≡ false) (same_path b c e) (itself b))

  module _ (test : Path → Bool) (x : Path) (xs : List Path) where
    -- the path fails the test
    passed : (best now r : Option Path) → test x ≡ false → now ≡ best → Found test now xs r → Found test best (x ∷ xs) r
    passed best now None fails same h =
        (sym same ∙ h.0, in_more (λ q. test q ≡ false) x xs fails h.1)
    passed best now (Some p) fails same h = (
      elim h.0 [
        | inl e ↦ inl (sym same ∙ e)
        | inr m ↦ inr (later m.0, m.1)
      ],
      in_more (λ q. test q ≡ true → is_on q p ≡ false) x xs (λ t. absurd (false≢true (sym fails ∙ t))) h.1,
      λ b e. h.2 b (same ∙ e),
    )

    here : (p : Path) → x ≡ p → test x ≡ true → IsIn p (x ∷ xs) × (test p ≡ true)
    here p e t = subst (λ q. IsIn q (x ∷ xs) × (test q ≡ true)) e (first, t)

    -- it passes the test
    taken : (best now r : Option Path) → test x ≡ true → now ≡ Some (keep x best) → Found test now xs r
        → Found test best (x ∷ xs) r
    taken best now None so is h = absurd (none-some (keep x best) (sym h.0 ∙ is))
    taken None now (Some p) so is h = (
      elim h.0 [
        | inl e ↦ inr (here p (sym (alone x) ∙ same_path (keep x None) p (sym is ∙ e)) so)
        | inr m ↦ inr (later m.0, m.1)
      ],
      in_more (λ q. test q ≡ true → is_on q p ≡ false) x xs
          (λ t. subst (λ q. is_on q p ≡ false) (alone x) (h.2 (keep x None) is)) h.1,
      λ b e. absurd (none-some b e),
    )
    taken (Some b) now (Some p) so is h =
        let under = both x b p (h.2 (keep x (Some b)) is) in (
          elim h.0 [
            | inl e ↦ let p_is = same_path (keep x (Some b)) p (sym is ∙ e) in elim (either x b) [
              | inl x_is ↦ inr (here p (sym x_is ∙ p_is) so)
              | inr b_is ↦ inl (ap (λ q. Some q) (sym b_is ∙ p_is))
            ]
            | inr m ↦ inr (later m.0, m.1)
          ],
          in_more (λ q. test q ≡ true → is_on q p ≡ false) x xs (λ t. under.0) h.1,
          λ c e. subst (λ q. is_on q p ≡ false) (same_path b c e) under.1,
        )

    one_more : (best r : Option Path) → Found test (cond (test x) (Some (keep x best)) best) xs r
        → Found test best (x ∷ xs) r
    one_more best r h = elim (cases_Bool (test x)) [
      | inl so ↦ taken best (cond (test x) (Some (keep x best)) best) r so (ap (λ b. cond b (Some (keep x best)) best) so) h
      | inr fails ↦ passed best (cond (test x) (Some (keep x best)) best) r fails (ap (λ b. cond b (Some (keep x best)) best) fails) h
    ]

  found : (test : Path → Bool) (best : Option Path) (xs : List Path) → Found test best xs (walk test best xs)
  found test best [] = subst (Found test best []) (sym (stop test best)) (at_end test best)
  found test best (x ∷ xs) =
      subst (Found test best (x ∷ xs)) (sym (step test best x xs))
      (one_more test x xs best (walk test (cond (test x) (Some (keep x best)) best) xs)
      (found test (cond (test x) (Some (keep x best)) best) xs))

-- ---- the least and the greatest

lesser_either : (x b : Path) → (lesser x (Some b) ≡ x) ⊎ (lesser x (Some b) ≡ b)
lesser_either x b = elim (cases_Bool (is_before b x)) [
  | inl so ↦ inr (ap (λ t. cond t b x) so)
  | inr so ↦ inl (ap (λ t. cond t b x) so)
]

lesser_both : (x b p : Path) → is_before (lesser x (Some b)) p ≡ false → (is_before x p ≡ false) × (is_before b p ≡ false)
lesser_both x b p h = elim (cases_Bool (is_before b x)) [
  | inl so ↦ let k : is_before b p ≡ false = subst (λ t. is_before (cond t b x) p ≡ false) so h in
      (not_before x b p (not_back b x so) k, k)
  | inr so ↦ let k : is_before x p ≡ false = subst (λ t. is_before (cond t b x) p ≡ false) so h in
      (k, not_before b x p so k)
]

greater_either : (x b : Path) → (greater x (Some b) ≡ x) ⊎ (greater x (Some b) ≡ b)
greater_either x b = elim (cases_Bool (is_before b x)) [
  | inl so ↦ inl (ap (λ t. cond t x b) so)
  | inr so ↦ inr (ap (λ t. cond t x b) so)
]

greater_both : (x b p : Path) → is_before p (greater x (Some b)) ≡ false → (is_before p x ≡ false) × (is_before p b ≡ false)
greater_both x b p h = elim (cases_Bool (is_before b x)) [
  | inl so ↦ let k : is_before p x ≡ false = subst (λ t. is_before p (cond t x b) ≡ false) so h in
      (k, not_before p x b k (not_back b x so))
  | inr so ↦ let k : is_before p b ≡ false = subst (λ t. is_before p (cond t x b) ≡ false) so h in
      (not_before p b x k so, k)
]

least_found : (test : Path → Bool) (xs : List Path)
    → Found is_before lesser least_with not_itself (λ x. refl) lesser_either lesser_both (λ t b. refl) (λ t b x xs. refl) test None xs (least_with test None xs)
least_found test xs =
    found is_before lesser least_with not_itself (λ x. refl) lesser_either lesser_both (λ t b. refl) (λ t b x xs. refl) test None xs

abbrev is_after : Path → Path → Bool
is_after p q = is_before q p

greatest_found : (test : Path → Bool) (xs : List Path)
    → Found is_after greater greatest_with not_itself (λ x. refl) greater_either greater_both (λ t b. refl) (λ t b x xs. refl) test None xs (greatest_with test None xs)
greatest_found test xs =
    found is_after greater greatest_with not_itself (λ x. refl) greater_either greater_both (λ t b. refl) (λ t b x xs. refl) test None xs

-- ---- the next path

no_paths : (xs : List Path) → ((q : Path) → IsIn q xs → any q ≡ false) → xs ≡ []
no_paths [] none = refl
no_paths (x ∷ xs) none = absurd (true≢false (none x first))

among : (xs : List Path) (test : Path → Bool) (p : Path) → (None ≡ Some p) ⊎ (IsIn p xs × (test p ≡ true)) → IsIn p xs × (test p ≡ true)
among xs test p (inl e) = absurd (none-some p e)
among xs test p (inr m) = m

next_on : (paths : List Path) (from : Path) → MatchOption (next_of paths from true) (paths ≡ []) (IsNext true paths from)
next_on paths from =
    by (least_with (λ other. is_before from other) None paths) (least_with any None paths)
    (least_found (λ other. is_before from other) paths) (least_found any paths)
  where
    by : (close far : Option Path)
        → Found is_before lesser least_with not_itself (λ x. refl) lesser_either lesser_both (λ t b. refl) (λ t b x xs. refl) (λ other. is_before from other) None paths close
        → Found is_before lesser least_with not_itself (λ x. refl) lesser_either lesser_both (λ t b. refl) (λ t b x xs. refl) any None paths far
        → MatchOption (one_of close far) (paths ≡ []) (IsNext true paths from)
    by (Some p) far n f =
        let m = among paths (λ other. is_before from other) p n.0 in near p m.0 m.1 n.1
    by None (Some p) n f = round p (among paths any p f.0).0 n.1 (λ q m. f.1 q m refl)
    by None None n f = no_paths paths f.1

next_back : (paths : List Path) (from : Path) → MatchOption (next_of paths from false) (paths ≡ []) (IsNext false paths from)
next_back paths from =
    by (greatest_with (λ other. is_before other from) None paths) (greatest_with any None paths)
    (greatest_found (λ other. is_before other from) paths) (greatest_found any paths)
  where
    by : (close far : Option Path)
        → Found is_after greater greatest_with not_itself (λ x. refl) greater_either greater_both (λ t b. refl) (λ t b x xs. refl) (λ other. is_before other from) None paths close
        → Found is_after greater greatest_with not_itself (λ x. refl) greater_either greater_both (λ t b. refl) (λ t b x xs. refl) any None paths far
        → MatchOption (one_of close far) (paths ≡ []) (IsNext false paths from)
    by (Some p) far n f =
        let m = among paths (λ other. is_before other from) p n.0 in near p m.0 m.1 n.1
    by None (Some p) n f = round p (among paths any p f.0).0 n.1 (λ q m. f.1 q m refl)
    by None None n f = no_paths paths f.1

pub next_is : (paths : List Path) (from : Path) (forward : Bool)
    → MatchOption (next_of paths from forward) (paths ≡ []) (IsNext forward paths from)
next_is paths from true = next_on paths from
next_is paths from false = next_back paths from
