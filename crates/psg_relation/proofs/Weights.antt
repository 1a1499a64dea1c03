-- Sums of weights and greatest depths.
use Rattle.std.proofs.Common.{◌≡◌, ℕ, ◌+◌, ◌<◌, ◌≤◌, ◌⊎◌, inl, inr, min, max, List, [], ◌∷◌, ◌++◌, take, get_or, length, refl, ap, ◌∙◌, subst, suc, arith}
use Rattle.std.specs.Prelude.{sum_by, Any}
use Rattle.std.proofs.lemmas.Bool.{cases_lt}
use Rattle.std.proofs.lemmas.List.Sums.{sum_by-cons, sum_by_push}
use Rattle.std.proofs.lemmas.List.Recursion.{max_push}
use Rattle.psg_terms.proofs.Lists.{take_item, sum_by-around}
use Rattle.psg_terms.specs.Terms.{Term}
use Rattle.psg_terms.specs.Weight.{symbols_of, depth_of, weight_of, PassesLimit}
use Rattle.psg_terms.specs.Relations.{IsIn, first, later, IsOnce}
use Rattle.psg_relation.specs.Heavy.{deepest_in, deepest_of, IsHeavy}
use Rattle.psg_relation.proofs.Members.{in-contains, contains-in, around, beside}

-- one element more in a sum that stops at m
pub sum_step : {X : Type 0} (f : X → ℕ) (m now own after : ℕ) (xs : List X) (i : ℕ) (x : X) → now ≡ min (sum_by f (take i xs)) m → own ≡ min (f x) m → after ≡ min (now + own) m → i < length xs → x ≡ get_or xs i x → after ≡ min (sum_by f (take (i + 1) xs)) m
sum_step f m now own after xs i x h o a lt at =
    let e = ap (sum_by f) (take_item xs i x lt at) ∙ sum_by_push f (take i xs) x in
    grown (sum_by f (take i xs)) (f x) (sum_by f (take (i + 1) xs)) e h o a
  where
    grown : (p q r : ℕ) → r ≡ p + q → now ≡ min p m → own ≡ min q m → after ≡ min (now + own) m → after ≡ min r m
    grown p q r e b c d = omega arith

-- one element more in a greatest number that stops at m
pub max_step : {X : Type 0} (F : List X → ℕ) (f : X → ℕ) → F [] ≡ 0 → ((x : X) (xs : List X) → F (x ∷ xs) ≡ max (f x) (F xs))
    → (m now own after : ℕ) (xs : List X) (i : ℕ) (x : X) → now ≡ min (F (take i xs)) m → own ≡ min (f x) m → after ≡ max now own → i < length xs → x ≡ get_or xs i x → after ≡ min (F (take (i + 1) xs)) m
max_step F f none step m now own after xs i x h o a lt at =
    let e = ap F (take_item xs i x lt at) ∙ max_push F f none step (take i xs) x in
    grown (F (take i xs)) (f x) (F (take (i + 1) xs)) e h o a
  where
    grown : (p q r : ℕ) → r ≡ max p q → now ≡ min p m → own ≡ min q m → after ≡ max now own → after ≡ min r m
    grown p q r e b c d = omega arith

less_max : (n a b : ℕ) → n < max a b → (n < a) ⊎ (n < b)
less_max n a b h = elim (cases_lt n a) [ inl l ↦ inl l | inr g ↦ inr (omega arith) ]

any-first : {X : Type 0} (P : X → Type 0) (x : X) (xs : List X) → P x → Any P (x ∷ xs)
any-first P x xs p = (0, x, omega arith, refl, p)

any-later : {X : Type 0} (P : X → Type 0) (x : X) (xs : List X) → Any P xs → Any P (x ∷ xs)
any-later P x xs (k, y, l, e, p) = (suc k, y, omega arith, e, p)

any-member : {X : Type 0} (P : X → Type 0) (xs : List X) → Any P xs → (x : X) × IsIn x xs × P x
any-member P xs (k, x, l, e, p) = (x, contains-in x xs (k, l, e), p)

member-any : {X : Type 0} (P : X → Type 0) (xs : List X) (x : X) → IsIn x xs → P x → Any P xs
member-any P xs x h p = let c = in-contains x xs h in (c.0, x, c.1, c.2, p)

deep-any : (n : ℕ) (row : List Term) → n < deepest_in row → Any (λ t. n < depth_of t) row
deep-any n [] h = absurd (omega arith)
deep-any n (t ∷ row) h = elim (less_max n (depth_of t) (deepest_in row) h) [
  | inl a ↦ any-first (λ u. n < depth_of u) t row a
  | inr b ↦ any-later (λ u. n < depth_of u) t row (deep-any n row b)
]

any-deep : (n : ℕ) (row : List Term) (t : Term) → IsIn t row → n < depth_of t → n < deepest_in row
any-deep n [] t h l = elim h [ ]
any-deep n (u ∷ row) t first l = omega arith
any-deep n (u ∷ row) t (later h) l = let k = any-deep n row t h l in omega arith

deeper-rows : (rows : List (List Term)) (row : List Term) → IsIn row rows → deepest_in row ≤ deepest_of rows
deeper-rows [] row h = elim h [ ]
deeper-rows (r ∷ rows) row first = omega arith
deeper-rows (r ∷ rows) row (later h) = let k = deeper-rows rows row h in omega arith

deepest-any : (n : ℕ) (rows : List (List Term)) → n < deepest_of rows → Any (Any (λ t. n < depth_of t)) rows
deepest-any n [] h = absurd (omega arith)
deepest-any n (row ∷ rows) h = elim (less_max n (deepest_in row) (deepest_of rows) h) [
  | inl a ↦ any-first (Any (λ t. n < depth_of t)) row rows (deep-any n row a)
  | inr b ↦ any-later (Any (λ t. n < depth_of t)) row rows (deepest-any n rows b)
]

any-deepest : (n : ℕ) (rows : List (List Term)) → Any (Any (λ t. n < depth_of t)) rows → n < deepest_of rows
any-deepest n rows h =
    let (row, there, inner) = any-member (Any (λ t. n < depth_of t)) rows h in
    let (t, within, deep) = any-member (λ t. n < depth_of t) row inner in
    let l = any-deep n row t within deep in
    let k = deeper-rows rows row there in
    omega arith

-- distinct members weigh no more than all
pub sum-some : {X : Type 0} (f : X → ℕ) (xs ys : List X) → IsOnce xs → ((x : X) → IsIn x xs → IsIn x ys) → sum_by f xs ≤ sum_by f ys
sum-some f [] ys o h = omega arith
sum-some f (x ∷ xs) ys (a, o) h =
    let (front, back, e) = around x ys (h x first) in
    let ih = sum-some f xs (front ++ back) o (λ y i. elim (beside y x front back (subst (IsIn y) e (h y (later i)))) [ inl b ↦ b | inr d ↦ absurd (a (subst (λ z. IsIn z xs) d i)) ]) in
    let p = sum_by-cons f x xs in
    let q = ap (sum_by f) e ∙ sum_by-around f x front back in
    omega arith

-- a list with a heavy row passes the limit
pub heavy_passes : (row : List Term) (rows : List (List Term)) → IsIn row rows → IsHeavy row → PassesLimit rows
heavy_passes row rows h (inl w) =
    let (front, back, e) = around row rows h in
    let q = ap (sum_by (sum_by symbols_of)) e ∙ sum_by-around (sum_by symbols_of) row front back in
    inl (omega arith)
heavy_passes row rows h (inr d) = inr (member-any (Any (λ t. 1000 < depth_of t)) rows row h (deep-any 1000 row d))

-- what the distinct rows pass, all rows pass
pub some_pass : (rows others : List (List Term)) → IsOnce rows → ((row : List Term) → IsIn row rows → IsIn row others) → PassesLimit rows → PassesLimit others
some_pass rows others o h (inl w) = let k = sum-some (sum_by symbols_of) rows others o h in inl (omega arith)
some_pass rows others o h (inr d) =
    let (row, there, inner) = any-member (Any (λ t. 1000 < depth_of t)) rows d in
    inr (member-any (Any (λ t. 1000 < depth_of t)) others row (h row there) inner)

-- the two numbers tell of the limit
pub passes_by : (rows : List (List Term)) (weight deepest : ℕ) → weight ≡ min (weight_of rows) 18446744073709551615 → deepest ≡ min (deepest_of rows) 18446744073709551615 → (16384 < weight) ⊎ (1000 < deepest) → PassesLimit rows
passes_by rows weight deepest e d (inl h) = inl (omega arith)
passes_by rows weight deepest e d (inr h) = inr (deepest-any 1000 rows (omega arith))

pub within_by : (rows : List (List Term)) (weight deepest : ℕ) → weight ≡ min (weight_of rows) 18446744073709551615 → deepest ≡ min (deepest_of rows) 18446744073709551615 → weight ≤ 16384 → deepest ≤ 1000 → PassesLimit rows → ⊥
within_by rows weight deepest e d h k (inl w) = omega arith
within_by rows weight deepest e d h k (inr a) = let l = any-deepest 1000 rows a in omega arith

pub limit_kept : (rows : List (List Term)) (weight deepest : ℕ) → weight ≡ weight_of rows → deepest ≡ deepest_of rows → weight ≤ 16384 → deepest ≤ 1000 → PassesLimit rows → ⊥
limit_kept rows weight deepest e d h k (inl w) = omega arith
limit_kept rows weight deepest e d h k (inr a) = let l = any-deepest 1000 rows a in omega arith
