-- Laws of lists and runs.
use Rattle.std.proofs.Common.{◌≡◌, ◌==◌, ℕ, ◌+◌, ◌-◌, ◌<◌, ◌≤◌, Bool, true, false, cond, zero, suc, List, [], ◌∷◌, ◌++◌, take, drop, get_or, length, refl, ap, sym, ◌∙◌, subst, arith}
use Rattle.std.specs.List.{list_all, prefix_len, AllByRecursion}
use Rattle.std.proofs.lemmas.List.{take_all}
use Rattle.std.proofs.lemmas.Bool.{and_parts, and_from, false≢true}
use Rattle.psg_terms.proofs.Lists.{take_item, each_push}

-- the first element passes
abbrev pub begins_by : (ℕ → Bool) → List ℕ → Bool
begins_by p [] = false
begins_by p (x ∷ xs) = p x

-- a run that does not go on is the longest one
pub prefix_len-run : (p : ℕ → Bool) (run behind : List ℕ) → list_all p run ≡ true → begins_by p behind ≡ false → prefix_len p (run ++ behind) ≡ length run
prefix_len-run p [] [] h k = refl
prefix_len-run p [] (x ∷ behind) h k = ap (λ b. cond b (1 + prefix_len p behind) 0) k
prefix_len-run p (x ∷ run) behind h k =
    let both = and_parts (p x) (list_all p run) h in
    ap (λ b. cond b (1 + prefix_len p (run ++ behind)) 0) both.0 ∙ omega (arith, prefix_len-run p run behind both.1 k)

-- the longest run passes
pub list_all-run : (p : ℕ → Bool) (xs : List ℕ) → list_all p (take (prefix_len p xs) xs) ≡ true
list_all-run p [] = refl
list_all-run p (x ∷ xs) =
    elim (p x) as (λ b. p x ≡ b → list_all p (take (cond b (1 + prefix_len p xs) 0) (x ∷ xs)) ≡ true) [
      | true ↦ λ e. rw add-one-first (and_from (p x) _ e (list_all-run p xs))
      | false ↦ λ e. refl
    ] refl
  where
    add-one-first : 1 + prefix_len p xs ≡ suc (prefix_len p xs)
    add-one-first = omega arith

-- behind the longest run nothing passes
pub run-ends : (p : ℕ → Bool) (xs : List ℕ) → begins_by p (drop (prefix_len p xs) xs) ≡ false
run-ends p [] = refl
run-ends p (x ∷ xs) =
    elim (p x) as (λ b. p x ≡ b → begins_by p (drop (cond b (1 + prefix_len p xs) 0) (x ∷ xs)) ≡ false) [
      | true ↦ λ e. rw add-one-first (run-ends p xs)
      | false ↦ λ e. e
    ] refl
  where
    add-one-first : 1 + prefix_len p xs ≡ suc (prefix_len p xs)
    add-one-first = omega arith

pub length-nil : {X : Type 0} (xs : List X) → xs ≡ [] → length xs ≡ 0
length-nil xs h = ap length h

pub all-at : {X : Type 0} (P : X → Type 0) (xs : List X) (i : ℕ) (x : X) → i < length xs → x ≡ get_or xs i x → AllByRecursion P xs → P x
all-at P [] i x h e a = absurd (omega arith)
all-at P (y ∷ ys) zero x h e a = subst P (sym e) a.0
all-at P (y ∷ ys) (suc i) x h e a = all-at P ys i x (omega arith) e a.1

-- what a test for an empty list says
pub not-empty : {X : Type 0} (xs : List X) → false ≡ (length xs == 0) → 0 < length xs
not-empty [] h = absurd (false≢true h)
not-empty (x ∷ xs) h = omega arith

pub all-next : {X : Type 0} (P : X → Type 0) (xs : List X) (i : ℕ) (x : X) → i < length xs → x ≡ get_or xs i x → AllByRecursion P (take i xs) → P x → AllByRecursion P (take (i + 1) xs)
all-next P xs i x h e a p = subst (AllByRecursion P) (sym (take_item xs i x h e)) (each_push P (take i xs) x a p)

pub all-take : {X : Type 0} (P : X → Type 0) (xs : List X) (i : ℕ) → length xs ≤ i → AllByRecursion P (take i xs) → AllByRecursion P xs
all-take P xs i h a = subst (AllByRecursion P) (take_all i xs h) a
