-- Columns by their numbers.
use Rattle.std.proofs.Common.{◌≡◌, ℕ, zero, suc, ◌+◌, ◌<◌, List, [], ◌∷◌, ◌++◌, map, length, take, get_or, Option, Some, None, slice_get, refl, sym, ap, ◌∙◌, subst, arith}
use Rattle.psg_terms.proofs.Lists.{take_item}
use Rattle.psg_terms.specs.Terms.{Term}
use Rattle.psg_terms.specs.Signature.{Signature}
use Rattle.psg_terms.specs.Canonical.{IsWrittenOut, AreWrittenOut}
use Rattle.psg_terms.specs.Instances.{substitute, Substitution}
use Rattle.psg_relation.specs.Choices.{pick, picked}
use Rattle.psg_eval.specs.Walks.{run}
use Rattle.psg_eval.proofs.Walking.{picks_append, picks_picked, picks_run}

pick_more : {X : Type 0} (o : Option X) (xs ys : List X) → pick o (xs ++ ys) ≡ pick o xs ++ ys
pick_more None xs ys = refl
pick_more (Some x) xs ys = refl

picked_more : {X : Type 0} (row : List X) (keep : List ℕ) (k : ℕ) → picked row (keep ++ k ∷ []) ≡ picked row keep ++ picked row (k ∷ [])
picked_more row [] k = refl
picked_more row (m ∷ keep) k = ap (pick (slice_get row m)) (picked_more row keep k) ∙ pick_more (slice_get row m) (picked row keep) (picked row (k ∷ []))

-- one column more of those that are picked
pub picked_next : {X : Type 0} (row : List X) (keep : List ℕ) (i k : ℕ) (now more : List X) → i < length keep → k ≡ get_or keep i k → more ≡ now ++ picked row (k ∷ []) → now ≡ picked row (take i keep) → more ≡ picked row (take (i + 1) keep)
picked_next row keep i k now more lt e add h =
    add ∙ ap (λ l. l ++ picked row (k ∷ [])) h ∙ sym (picked_more row (take i keep) k) ∙ ap (picked row) (sym (take_item keep i k lt e))

pub picked_one : {X : Type 0} (row : List X) (k : ℕ) (x : X) → slice_get row k ≡ Some x → picked row (k ∷ []) ≡ x ∷ []
picked_one row k x e = ap (λ o. pick o []) e

pub picked_none : {X : Type 0} (row : List X) (k : ℕ) → slice_get row k ≡ None → picked row (k ∷ []) ≡ []
picked_none row k e = ap (λ o. pick o []) e

run_more : (from n : ℕ) → run from (suc n) ≡ run from n ++ (from + n) ∷ []
run_more from zero = let e : from ≡ from + 0 = omega arith in ap (λ k. k ∷ []) e
run_more from (suc n) = let e : suc from + n ≡ from + suc n = omega arith in ap (λ l. from ∷ l) (run_more (suc from) n ∙ ap (λ k. run (suc from) n ++ k ∷ []) e)

-- one number more
pub run_next : (n : ℕ) → run 0 (n + 1) ≡ run 0 n ++ n ∷ []
run_next n =
    let e : n + 1 ≡ suc n = omega arith in
    let d : 0 + n ≡ n = omega arith in
    ap (run 0) e ∙ run_more 0 n ∙ ap (λ k. run 0 n ++ k ∷ []) d

get_past : {X : Type 0} (front back : List X) (k : ℕ) (x : X) → slice_get back k ≡ Some x → slice_get (front ++ back) (length front + k) ≡ Some x
get_past [] back k x e = let same : k ≡ 0 + k = omega arith in subst (λ n. slice_get back n ≡ Some x) same e
get_past (y ∷ front) back k x e = let same : suc (length front + k) ≡ suc (length front) + k = omega arith in subst (λ n. slice_get (y ∷ (front ++ back)) n ≡ Some x) same (get_past front back k x e)

-- the columns in front
pub front_picked : {X : Type 0} (row front back : List X) (n : ℕ) → row ≡ front ++ back → length front ≡ n → picked row (run 0 n) ≡ front
front_picked row front back n e many = picks_picked row (run 0 n) front (picks_run row [] front back 0 n e refl (sym many))

-- and one behind them
pub behind_picked : {X : Type 0} (row front back : List X) (n k : ℕ) (x : X) → row ≡ front ++ back → length front ≡ n → slice_get back k ≡ Some x → picked row (run 0 n ++ (n + k) ∷ []) ≡ front ++ x ∷ []
behind_picked row front back n k x e many at =
    picks_picked row (run 0 n ++ (n + k) ∷ []) (front ++ x ∷ [])
    (picks_append row (run 0 n) ((n + k) ∷ []) front (x ∷ []) (picks_run row [] front back 0 n e refl (sym many))
    (subst (λ r. slice_get r (n + k) ≡ Some x) (sym e) (subst (λ m. slice_get (front ++ back) (m + k) ≡ Some x) many (get_past front back k x at)), tt))

pub written_snoc : (sig : Signature) (row : List Term) (t : Term) → AreWrittenOut sig row → IsWrittenOut sig t → AreWrittenOut sig (row ++ t ∷ [])
written_snoc sig [] t h p = (p, tt)
written_snoc sig (u ∷ row) t h p = (h.0, written_snoc sig row t h.1 p)

pub map_snoc : (f : Substitution) (row : List Term) (t : Term) → map (substitute f) (row ++ t ∷ []) ≡ map (substitute f) row ++ substitute f t ∷ []
map_snoc f [] t = refl
map_snoc f (u ∷ row) t = ap (λ l. substitute f u ∷ l) (map_snoc f row t)
