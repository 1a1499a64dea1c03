-- How large a constructor with arguments is.
use Rattle.std.proofs.Common.{◌≡◌, ℕ, ◌+◌, ◌<◌, min, max, zero, suc, List, [], ◌∷◌, ◌++◌, take, get_or, length, refl, ap, ap₂, sym, ◌∙◌, subst, slice_get, Option, Some, arith}
use Rattle.psg_terms.proofs.Lists.{take_item}
use Rattle.psg_terms.specs.Terms.{Term, variable, symbol, apply, applied}
use Rattle.psg_terms.specs.Signature.{Signature, Symbol, HasSort, HaveSorts}
use Rattle.psg_terms.specs.Weight.{symbols_of, depth_of, above_of}
use Rattle.psg_terms.specs.Sizes.{size, sizes}
use Rattle.psg_terms.proofs.Applied.{applied-sorts}

pub applied-push : (t : Term) (xs : List Term) (a : Term) → applied t (xs ++ a ∷ []) ≡ apply (applied t xs) a
applied-push t [] a = refl
applied-push t (x ∷ xs) a = applied-push (apply t x) xs a

symbols-same : (t u : Term) (xs : List Term) → symbols_of t ≡ symbols_of u → symbols_of (applied t xs) ≡ symbols_of (applied u xs)
symbols-same t u [] e = e
symbols-same t u (x ∷ xs) e = symbols-same (apply t x) (apply u x) xs (ap (λ n. n + symbols_of x) e)

depth-same : (t u : Term) (xs : List Term) → depth_of t ≡ depth_of u → depth_of (applied t xs) ≡ depth_of (applied u xs)
depth-same t u [] e = e
depth-same t u (x ∷ xs) e = depth-same (apply t x) (apply u x) xs (ap (λ n. max n (depth_of x + 1)) e)

above-same : (t u : Term) (xs : List Term) → above_of t ≡ above_of u → above_of (applied t xs) ≡ above_of (applied u xs)
above-same t u [] e = e
above-same t u (x ∷ xs) e = above-same (apply t x) (apply u x) xs (ap (λ n. max n (above_of x)) e)

-- the constructor says nothing of the size
pub symbols-con : (c d m n : ℕ) (xs : List Term) → n ≡ min (symbols_of (applied (symbol c) xs)) m → n ≡ min (symbols_of (applied (symbol d) xs)) m
symbols-con c d m n xs h = h ∙ ap (λ k. min k m) (symbols-same (symbol c) (symbol d) xs refl)

pub depth-con : (c d m n : ℕ) (xs : List Term) → n ≡ min (depth_of (applied (symbol c) xs)) m → n ≡ min (depth_of (applied (symbol d) xs)) m
depth-con c d m n xs h = h ∙ ap (λ k. min k m) (depth-same (symbol c) (symbol d) xs refl)

pub above-con : (c d n : ℕ) (xs : List Term) → n ≡ above_of (applied (symbol c) xs) → n ≡ above_of (applied (symbol d) xs)
above-con c d n xs h = h ∙ above-same (symbol c) (symbol d) xs refl

-- one more argument
pub symbols-step : (m now own after : ℕ) (xs : List Term) (i : ℕ) (x : Term) → now ≡ min (symbols_of (applied (symbol 0) (take i xs))) m → own ≡ min (symbols_of x) m → after ≡ min (now + own) m → i < length xs → x ≡ get_or xs i x → after ≡ min (symbols_of (applied (symbol 0) (take (i + 1) xs))) m
symbols-step m now own after xs i x h o a lt at =
    let t = applied (symbol 0) (take i xs) in
    a ∙ ap₂ (λ p q. min (p + q) m) h o ∙ capped (symbols_of t) (symbols_of x)
    ∙ ap (λ u. min (symbols_of u) m) (sym (ap (applied (symbol 0)) (take_item xs i x lt at) ∙ applied-push (symbol 0) (take i xs) x))
  where
    capped : (p q : ℕ) → min (min p m + min q m) m ≡ min (p + q) m
    capped p q = omega arith

pub depth-step : (m now own next after : ℕ) (xs : List Term) (i : ℕ) (x : Term) → now ≡ min (depth_of (applied (symbol 0) (take i xs))) m → own ≡ min (depth_of x) m → next ≡ min (own + 1) m → after ≡ max now next → i < length xs → x ≡ get_or xs i x → after ≡ min (depth_of (applied (symbol 0) (take (i + 1) xs))) m
depth-step m now own next after xs i x h o n a lt at =
    let t = applied (symbol 0) (take i xs) in
    a ∙ ap₂ max h (n ∙ ap (λ q. min (q + 1) m) o) ∙ capped (depth_of t) (depth_of x)
    ∙ ap (λ u. min (depth_of u) m) (sym (ap (applied (symbol 0)) (take_item xs i x lt at) ∙ applied-push (symbol 0) (take i xs) x))
  where
    capped : (p q : ℕ) → max (min p m) (min (min q m + 1) m) ≡ min (max p (q + 1)) m
    capped p q = omega arith

pub above-step : (now own after : ℕ) (xs : List Term) (i : ℕ) (x : Term) → now ≡ above_of (applied (symbol 0) (take i xs)) → own ≡ above_of x → after ≡ max now own → i < length xs → x ≡ get_or xs i x → after ≡ above_of (applied (symbol 0) (take (i + 1) xs))
above-step now own after xs i x h o a lt at =
    a ∙ ap₂ max h o ∙ ap above_of (sym (ap (applied (symbol 0)) (take_item xs i x lt at) ∙ applied-push (symbol 0) (take i xs) x))

-- the sort of a constructor with its arguments is the constructor's
pub symbol_sort : (sig : Signature) (t : Term) (c : ℕ) (xs : List Term) (s : ℕ) → t ≡ applied (symbol c) xs → HasSort sig t s → (x : Symbol) × (slice_get sig.symbols c ≡ Some x) × (x.sort ≡ s)
symbol_sort sig t c xs s e h =
    let parts = applied-sorts sig (symbol c) xs [] s (subst (λ u. HasSort sig u s) e h) in
    let made = parts.1 in
    (made.0, made.1, made.3)

pub arguments_sorted : (sig : Signature) (t : Term) (c : ℕ) (xs : List Term) (s : ℕ) → t ≡ applied (symbol c) xs → HasSort sig t s → (ss : List ℕ) × HaveSorts sig xs ss
arguments_sorted sig t c xs s e h = let parts = applied-sorts sig (symbol c) xs [] s (subst (λ u. HasSort sig u s) e h) in (parts.0, parts.2)

pub sorts-at : (sig : Signature) (xs : List Term) (ss : List ℕ) (i : ℕ) (d : Term) → HaveSorts sig xs ss → i < length xs → (s : ℕ) × HasSort sig (get_or xs i d) s
sorts-at sig [] ss i d h lt = absurd (omega arith)
sorts-at sig (x ∷ xs) [] i d h lt = absurd h
sorts-at sig (x ∷ xs) (s ∷ ss) zero d (p, h) lt = (s, p)
sorts-at sig (x ∷ xs) (s ∷ ss) (suc i) d (p, h) lt = sorts-at sig xs ss i d h (omega arith)

-- an element of a row is smaller than the row
pub sizes-at : (xs : List Term) (i : ℕ) (d : Term) → i < length xs → size (get_or xs i d) < sizes xs
sizes-at [] i d lt = absurd (omega arith)
sizes-at (x ∷ xs) zero d lt = omega arith
sizes-at (x ∷ xs) (suc i) d lt = omega (arith, sizes-at xs i d (omega arith))

pub variable_sorted : (sig : Signature) (t : Term) (s n r : ℕ) → t ≡ variable s n → HasSort sig t r → HasSort sig t s
variable_sorted sig t s n r e h = let (lt, _, _) = subst (λ u. HasSort sig u r) e h in subst (λ u. HasSort sig u s) (sym e) (lt, refl, refl)

pub con_sorted : (sig : Signature) (t : Term) (c : ℕ) (xs : List Term) (s r : ℕ) → t ≡ applied (symbol c) xs → HasSort sig t s → ((x : Symbol) × (slice_get sig.symbols c ≡ Some x) × (x.sort ≡ r)) → HasSort sig t r
con_sorted sig t c xs s r e h (y, there, makes) =
    let (x, at, is) = symbol_sort sig t c xs s e h in
    let q : ◌≡◌ {A = Option Symbol} (Some x) (Some y) = sym at ∙ there in
    let same : x ≡ y = cc in
    subst (HasSort sig t) (sym is ∙ ap (λ (z : Symbol). z.sort) same ∙ makes) h

-- an element, read with two defaults
pub one_at : (xs : List Term) (i : ℕ) (x y : Term) → i < length xs → x ≡ get_or xs i x → y ≡ get_or xs i y → x ≡ y
one_at [] i x y lt a b = absurd (omega arith)
one_at (z ∷ xs) zero x y lt a b = a ∙ sym b
one_at (z ∷ xs) (suc i) x y lt a b = one_at xs i x y (omega arith) a b
