-- Variables that are named by their numbers.
use Rattle.std.proofs.Common.{◌≡◌, ◌≢◌, ℕ, zero, suc, ◌+◌, ◌<◌, ◌≤◌, ◌^◌, false, Some, None, List, [], ◌∷◌, slice_get, refl, ap, ◌∙◌, inl, inr, arith}
use Rattle.std.specs.Prelude.{decimal, bytes_eq}
use Rattle.std.proofs.lemmas.Bool.{or_from, cases_Bool}
use Rattle.std.proofs.lemmas.Fmt.{decimal_injective}
use Rattle.psg_terms.specs.Names.{Name, is_among, has_twice}
use Rattle.psg_terms.proofs.DeclareLaws.{bytes_eq-same}
use Rattle.psg_defread.specs.WrittenLines.{name_at}
use Rattle.psg_defread.specs.Layout.{numbers_from}

number-at-from : (n k i : ℕ) → i < k → slice_get (numbers_from n k) i ≡ Some (decimal (n + i))
number-at-from n zero i h = absurd (omega arith)
number-at-from n (suc k) zero h = ap (λ m. Some (decimal m)) (let e : n ≡ n + 0 = omega arith in e)
number-at-from n (suc k) (suc i) h =
    let e : (n + 1) + i ≡ n + suc i = omega arith in
    number-at-from (n + 1) k i (omega arith) ∙ ap (λ m. Some (decimal m)) e

-- different numbers are written differently
pub decimals-apart : (m n : ℕ) → m ≢ n → m < 2 ^ 64 → n < 2 ^ 64 → bytes_eq (decimal m) (decimal n) ≡ false
decimals-apart m n other h k = elim (cases_Bool (bytes_eq (decimal m) (decimal n))) [
  | inl e ↦ absurd (other (decimal_injective m n h k (bytes_eq-same (decimal m) (decimal n) e)))
  | inr e ↦ e
]

not-behind : (m n k : ℕ) → m < n → n + k ≤ 2 ^ 64 → is_among (numbers_from n k) (decimal m) ≡ false
not-behind m n zero h limit = refl
not-behind m n (suc k) h limit =
    or_from (bytes_eq (decimal n) (decimal m)) (is_among (numbers_from (n + 1) k) (decimal m))
    (decimals-apart n m (λ e. omega (arith, e, h)) (omega arith) (omega arith)) (not-behind m (n + 1) k (omega arith) (omega arith))

once-from : (n k : ℕ) → n + k ≤ 2 ^ 64 → has_twice (numbers_from n k) ≡ false
once-from n zero limit = refl
once-from n (suc k) limit =
    or_from (is_among (numbers_from (n + 1) k) (decimal n)) (has_twice (numbers_from (n + 1) k))
    (not-behind n (n + 1) k (omega arith) (omega arith)) (once-from (n + 1) k (omega arith))

-- how many numbers are names; it does not compute
most : ℕ
most = 2 ^ 63

most-is : most ≡ 2 ^ 63
unfolding most
most-is = refl

-- the names of all numbers from 1 to that
pub number_names : List Name
number_names = numbers_from 1 most

pub numbers-once : has_twice number_names ≡ false
unfolding number_names
numbers-once = once-from 1 most (omega (arith, most-is))

pub number-at : (k : ℕ) → k < 2 ^ 63 → slice_get number_names k ≡ Some (decimal (k + 1))
unfolding number_names
number-at k h =
    let e : 1 + k ≡ k + 1 = omega arith in
    number-at-from 1 most k (omega (arith, most-is)) ∙ ap (λ m. Some (decimal m)) e

-- ---- the name at a position

pub name-found : {X : Type 0} (name : X → Name) (xs : List X) (k : ℕ) (x : X) → slice_get xs k ≡ Some x
    → name_at name xs k ≡ name x
name-found name [] k x e = absurd (let f : None ≡ Some x = e in cc)
name-found name (y ∷ xs) zero x e = ap name (let f : Some y ≡ Some x = e in cc)
name-found name (y ∷ xs) (suc k) x e = name-found name xs k x e
