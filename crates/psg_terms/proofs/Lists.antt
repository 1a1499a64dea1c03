-- What std has not on lists, options and tests of numbers, for all crates.
use Rattle.std.proofs.Common.{◌≡◌, ◌↔◌, ◌⊎◌, inl, inr, ℕ, zero, suc, ◌+◌, ◌<◌, ◌==◌, Bool, true, false, Bor, List, [], ◌∷◌, ◌++◌, length, map, take, drop, get_or, Option, Some, None, slice_get, IfSome, refl, sym, ap, subst, ◌∙◌, arith}
use Rattle.std.specs.Prelude.{sum_by}
use Rattle.std.specs.List.{AllByRecursion}
use Rattle.std.specs.Bool.{beq}
use Rattle.std.specs.Slice.{IsGetResult}
use Rattle.std.proofs.lemmas.Bool.{eq-eqb, ne_eqb, false≢true}
use Rattle.std.proofs.lemmas.List.{take_more, drop_more}
use Rattle.std.proofs.lemmas.List.Sums.{sum_by-append, sum_by-cons}
use Rattle.std.proofs.lemmas.Option.{none-some, same_Some, slice_get_past, slice_get_read, slice_get_within, slice_get-get_or}
use Rattle.psg_terms.specs.Relations.{IsIn, first, later}

-- ---- tests

pub iff_then : {A B C : Type 0} → A ↔ B → B ↔ C → A ↔ C
iff_then f g = (λ x. g.0 (f.0 x), λ x. f.1 (g.1 x))

pub eqb-refl : (n : ℕ) → (n == n) ≡ true
eqb-refl n = eq-eqb n n refl

pub suc_is_not_zero : (n : ℕ) → (suc n == 0) ≡ false
suc_is_not_zero n = ne_eqb (suc n) 0 (λ e. absurd (omega (arith, e)))

pub beq-refl : (b : Bool) → beq b b ≡ true
beq-refl true = refl
beq-refl false = refl

pub beq_same : (a b : Bool) → beq a b ≡ true → a ≡ b
beq_same true true h = refl
beq_same false false h = refl
beq_same true false h = absurd (false≢true h)
beq_same false true h = absurd (false≢true h)

-- ---- what is at a place

pub slice_get_some : {X : Type 0} (xs : List X) (i : ℕ) → i < length xs → (x : X) × (slice_get xs i ≡ Some x)
slice_get_some [] i h = absurd (omega (arith, h))
slice_get_some (x ∷ xs) zero h = (x, refl)
slice_get_some (x ∷ xs) (suc i) h = slice_get_some xs i (omega (arith, h))

pub slice_get_once : {X : Type 0} (xs : List X) (i : ℕ) (x y : X) → slice_get xs i ≡ Some x → slice_get xs i ≡ Some y → x ≡ y
slice_get_once xs i x y e f = same_Some x y (sym e ∙ f)

-- what a read of `xs[i]` gives is there
pub slice_get_item : {X : Type 0} (xs : List X) (i : ℕ) (x : X) → i < length xs → x ≡ get_or xs i x → slice_get xs i ≡ Some x
slice_get_item xs i x lt e = slice_get-get_or xs i x lt ∙ ap Some (sym e)

pub slice_get-end : {X : Type 0} (xs : List X) (x : X) → slice_get (xs ++ x ∷ []) (length xs) ≡ Some x
slice_get-end [] x = refl
slice_get-end (y ∷ xs) x = slice_get-end xs x

pub slice_get-end_is : {X : Type 0} (xs : List X) (x y : X) → slice_get (xs ++ x ∷ []) (length xs) ≡ Some y → y ≡ x
slice_get-end_is xs x y e = same_Some y x (sym e ∙ slice_get-end xs x)

pub slice_get-not_end : {X : Type 0} (xs : List X) (x y : X) (i : ℕ) → (length xs ≡ i → ⊥)
    → slice_get (xs ++ x ∷ []) i ≡ Some y → slice_get xs i ≡ Some y
slice_get-not_end [] x y zero never e = absurd (never refl)
slice_get-not_end [] x y (suc i) never e = e
slice_get-not_end (z ∷ xs) x y zero never e = e
slice_get-not_end (z ∷ xs) x y (suc i) never e = slice_get-not_end xs x y i (λ q. never (ap suc q)) e

pub slice_get-middle : {X : Type 0} (xs : List X) (x : X) (ys : List X) → slice_get (xs ++ x ∷ ys) (length xs) ≡ Some x
slice_get-middle [] x ys = refl
slice_get-middle (y ∷ xs) x ys = slice_get-middle xs x ys

pub slice_get-front : {X : Type 0} (xs ys : List X) (i : ℕ) (x : X) → slice_get xs i ≡ Some x → slice_get (xs ++ ys) i ≡ Some x
slice_get-front [] ys i x e = absurd (none-some x e)
slice_get-front (y ∷ xs) ys zero x e = e
slice_get-front (y ∷ xs) ys (suc i) x e = slice_get-front xs ys i x e

pub slice_get-map_some : {X Y : Type 0} (f : X → Y) (xs : List X) (i : ℕ) (x : X) → slice_get xs i ≡ Some x → slice_get (map f xs) i ≡ Some (f x)
slice_get-map_some f [] i x e = absurd (none-some x e)
slice_get-map_some f (y ∷ xs) zero x e = ap (λ z. Some (f z)) (same_Some y x e)
slice_get-map_some f (y ∷ xs) (suc i) x e = slice_get-map_some f xs i x e

-- what is read at a place does not depend on the default
pub get_or_fixed : {X : Type 0} (xs : List X) (i : ℕ) (d : X) → i < length xs → get_or xs i d ≡ get_or xs i (get_or xs i d)
get_or_fixed [] i d lt = absurd (omega (arith, lt))
get_or_fixed (x ∷ xs) zero d lt = refl
get_or_fixed (x ∷ xs) (suc i) d lt = get_or_fixed xs i d (omega (arith, lt))

-- what `get` gives of a slice
pub got_some : {X : Type 0} (xs : List X) (i : ℕ) (r : Option (Bor X)) (x : Bor X) → IsGetResult xs i i r → r ≡ Some x → slice_get xs i ≡ Some x.now
got_some {X} xs i None x h e = absurd (none-some x e)
got_some {X} xs i (Some y) x h e = slice_get_read xs (length xs) i y.now refl h.3.0 h.1 ∙ ap (λ (z : Bor X). Some z.now) (same_Some y x e)

pub got_none : {X : Type 0} (xs : List X) (i : ℕ) (r : Option (Bor X)) → IsGetResult xs i i r → r ≡ None → slice_get xs i ≡ None
got_none xs i None h e = slice_get_past xs i h.3
got_none xs i (Some y) h e = absurd (none-some y (sym e))

pub IfSome_at : {X : Type 0} (P : X → Type 0) (o : Option X) (x : X) → o ≡ Some x → IfSome o P → P x
IfSome_at P o x e h = subst (λ w. IfSome w P) e h

-- ---- the front and the rest

pub take_item : {X : Type 0} (xs : List X) (i : ℕ) (x : X) → i < length xs → x ≡ get_or xs i x → take (i + 1) xs ≡ take i xs ++ x ∷ []
take_item xs i x lt e = take_more xs i x lt ∙ ap (λ y. take i xs ++ y ∷ []) (sym e)

pub drop_item : {X : Type 0} (xs : List X) (i : ℕ) (x : X) → i < length xs → x ≡ get_or xs i x → drop i xs ≡ x ∷ drop (i + 1) xs
drop_item xs i x lt e = drop_more xs i x lt ∙ ap (λ y. y ∷ drop (i + 1) xs) (sym e)

pub drop_item_suc : {X : Type 0} (xs : List X) (i : ℕ) (x : X) → i < length xs → x ≡ get_or xs i x → drop i xs ≡ x ∷ drop (suc i) xs
drop_item_suc xs i x lt e = let next : i + 1 ≡ suc i = omega arith in drop_item xs i x lt e ∙ ap (λ n. x ∷ drop n xs) next

pub drop_there : {X : Type 0} (xs : List X) (i : ℕ) (x : X) → slice_get xs i ≡ Some x → drop i xs ≡ x ∷ drop (i + 1) xs
drop_there xs i x at =
    let lt = slice_get_within xs i x at in
    drop_item xs i x lt (same_Some x (get_or xs i x) (sym at ∙ slice_get-get_or xs i x lt))

-- ---- members

pub in_either : {X : Type 0} (x : X) (xs ys : List X) → IsIn x (xs ++ ys) → IsIn x xs ⊎ IsIn x ys
in_either x [] ys h = inr h
in_either x (y ∷ xs) ys first = inl first
in_either x (y ∷ xs) ys (later h) = elim (in_either x xs ys h) [ inl a ↦ inl (later a) | inr b ↦ inr b ]

pub in_left : {X : Type 0} (x : X) (xs ys : List X) → IsIn x xs → IsIn x (xs ++ ys)
in_left x [] ys h = elim h [ ]
in_left x (y ∷ xs) ys first = first
in_left x (y ∷ xs) ys (later h) = later (in_left x xs ys h)

pub in_right : {X : Type 0} (x : X) (xs ys : List X) → IsIn x ys → IsIn x (xs ++ ys)
in_right x [] ys h = h
in_right x (y ∷ xs) ys h = later (in_right x xs ys h)

pub in_cases : {X : Type 0} (y x : X) (xs : List X) → IsIn y (x ∷ xs) → (y ≡ x) ⊎ IsIn y xs
in_cases y x xs first = inl refl
in_cases y x xs (later h) = inr h

pub in_at : {X : Type 0} (xs : List X) (i : ℕ) (x : X) → slice_get xs i ≡ Some x → IsIn x xs
in_at [] i x e = absurd (none-some x e)
in_at (y ∷ xs) zero x e = subst (λ z. IsIn z (y ∷ xs)) (same_Some y x e) first
in_at (y ∷ xs) (suc i) x e = later (in_at xs i x e)

-- ---- what holds of each element

pub each_at : {X : Type 0} (P : X → Type 0) (xs : List X) → AllByRecursion P xs → (i : ℕ) (x : X) → slice_get xs i ≡ Some x → P x
each_at P [] h i x e = absurd (none-some x e)
each_at P (y ∷ xs) h zero x e = subst P (same_Some y x e) h.0
each_at P (y ∷ xs) h (suc i) x e = each_at P xs h.1 i x e

pub each_in : {X : Type 0} (P : X → Type 0) (x : X) (xs : List X) → AllByRecursion P xs → IsIn x xs → P x
each_in P x [] h k = elim k [ ]
each_in P x (y ∷ xs) h first = h.0
each_in P x (y ∷ xs) h (later k) = each_in P x xs h.1 k

pub each_push : {X : Type 0} (P : X → Type 0) (xs : List X) (x : X) → AllByRecursion P xs → P x → AllByRecursion P (xs ++ x ∷ [])
each_push P [] x h p = (p, tt)
each_push P (y ∷ xs) x h p = (h.0, each_push P xs x h.1 p)

pub each_append : {X : Type 0} (P : X → Type 0) (xs ys : List X) → AllByRecursion P xs → AllByRecursion P ys → AllByRecursion P (xs ++ ys)
each_append P [] ys h k = k
each_append P (x ∷ xs) ys h k = (h.0, each_append P xs ys h.1 k)

pub each_take : {X : Type 0} (P : X → Type 0) (n : ℕ) (xs : List X) → AllByRecursion P xs → AllByRecursion P (take n xs)
each_take P zero xs h = tt
each_take P (suc n) [] h = tt
each_take P (suc n) (x ∷ xs) h = (h.0, each_take P n xs h.1)

pub each_joined : {X : Type 0} (P Q R : X → Type 0) → ((x : X) → P x → Q x → R x) → (xs : List X)
    → AllByRecursion P xs → AllByRecursion Q xs → AllByRecursion R xs
each_joined P Q R f [] h k = tt
each_joined P Q R f (x ∷ xs) h k = (f x h.0 k.0, each_joined P Q R f xs h.1 k.1)

-- ---- sums

pub sum_by-around : {X : Type 0} (f : X → ℕ) (x : X) (front back : List X) → sum_by f (front ++ x ∷ back) ≡ f x + sum_by f (front ++ back)
sum_by-around f x front back =
    let a = sum_by-append f front (x ∷ back) in
    let b = sum_by-cons f x back in
    let c = sum_by-append f front back in
    omega arith
