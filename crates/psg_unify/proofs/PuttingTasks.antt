-- Tasks find the cells that they take.
use Rattle.std.proofs.Common.{◌≡◌, ℕ, suc, ◌+◌, ◌-◌, true, None, List, [], ◌∷◌, ◌++◌, map, length, refl, ap, sym, ◌∙◌, subst, arith, length-append, append-nil}
use Rattle.psg_terms.specs.Terms.{Term, variable, symbol, applied}
use Rattle.psg_terms.specs.Signature.{Signature, only_constructor}
use Rattle.psg_terms.specs.Canonical.{Variable, variables, variables_of, is_noted, noted_all}
use Rattle.psg_terms.specs.Renaming.{opens, open_first, AreKnown}
use Rattle.psg_terms.specs.declared.sorts.ConId.{ConId}
use Rattle.psg_terms.proofs.RenamingLaws.{among-noted_all, opens-append, variables-applied}
use Rattle.psg_pool.specs.declared.cells.CellId.{CellId}
use Rattle.psg_pool.specs.Cells.{Put}
use Rattle.psg_pool.specs.Bindings.{Kept}
use Rattle.psg_unify.specs.declared.making.Task.{Task}
use Rattle.psg_unify.specs.declared.making.Task.TheVariants.{Whole, Make}
use Rattle.psg_unify.specs.Putting.{frees, PutsKnown}
use Rattle.psg_unify.specs.Making.{IsMade, MayPut}
use Rattle.psg_unify.proofs.Steps.{known_each}

frees_count : (xs : List Variable) → length (frees xs) ≡ length xs
frees_count [] = refl
frees_count (x ∷ xs) = ap suc (frees_count xs)

known_parts : (known xs ys : List Variable) → AreKnown known (xs ++ ys) → AreKnown known xs × AreKnown known ys
known_parts known [] ys h = (tt, h)
known_parts known (x ∷ xs) ys (p, h) = (let k = known_parts known xs ys h in ((p, k.0), k.1))

module _ (sig : Signature) (known : List Variable) where
  may_args : (n m : ℕ) (args : List Term) (rest : List Task) → m ≡ n + length args → AreKnown known (opens sig (variables_of args)) → MayPut sig known m rest → MayPut sig known n (map (λ (t : Term). Whole t) args ++ rest)
  may_args n m [] rest e k h = subst (λ (i : ℕ). MayPut sig known i rest) (let x : m ≡ n = omega (arith, e) in x) h
  may_args n m (t ∷ args) rest e k h = (
      let parts = known_parts known (opens sig (variables t)) (opens sig (variables_of args)) (subst (AreKnown known) (opens-append sig (variables t) (variables_of args)) k) in
      (parts.0, may_args (suc n) m args rest (omega (arith, e)) parts.1 h))

  -- a term's arguments, and then its constructor
  pub may_con : (n k : ℕ) (t : Term) (c : ConId) (args : List Term) (rest : List Task) → t ≡ applied (symbol c.0) args → k ≡ length args → MayPut sig known n (Whole t ∷ rest)
      → MayPut sig known n (map (λ (t : Term). Whole t) args ++ Make c k ∷ rest)
  may_con n k t c args rest e l (own, h) =
      may_args n (n + length args) args (Make c k ∷ rest) refl (subst (λ xs. AreKnown known (opens sig xs)) (ap variables e ∙ variables-applied (symbol c.0) args) own)
      (omega (arith, l), subst (λ (i : ℕ). MayPut sig known i rest) (let x : suc n ≡ suc ((n + length args) - k) = omega (arith, l) in x) h)

  pub may_constant : (n : ℕ) (t : Term) (c : ConId) (rest : List Task) → MayPut sig known n (Whole t ∷ rest) → MayPut sig known n (Make c 0 ∷ rest)
  may_constant n t c rest (own, h) = (omega arith, subst (λ (i : ℕ). MayPut sig known i rest) (let x : suc n ≡ suc (n - 0) = omega arith in x) h)

  -- a variable that is not one constant is known
  pub may_open : (n : ℕ) (t : Term) (s number : ℕ) (rest : List Task) → t ≡ variable s number → only_constructor sig s ≡ None → MayPut sig known n (Whole t ∷ rest) → is_noted (s, number) known ≡ true
  may_open n t s number rest e o (own, h) =
      let one : opens sig (variables t) ≡ (s, number) ∷ [] = ap (λ x. opens sig (variables x)) e ∙ ap (λ p. open_first p (s, number) []) o in
      (subst (AreKnown known) one own).0

  pub may_rest : (n m : ℕ) (t : Term) (rest : List Task) → m ≡ n + 1 → MayPut sig known n (Whole t ∷ rest) → MayPut sig known m rest
  may_rest n m t rest e (own, h) = subst (λ (i : ℕ). MayPut sig known i rest) (let x : suc n ≡ m = omega (arith, e) in x) h

  -- a constructor was made over its arguments
  pub may_made : (old new : Kept) (before after : List CellId) (c : ConId) (k : ℕ) (rest : List Task) → IsMade old new before after c.0 k → MayPut sig known (length before) (Make c k ∷ rest) → MayPut sig known (length after) rest
  may_made old new before after c k rest m (l, h) =
      let b = ap length m.split in
      let a = ap length m.after_is in
      let n = m.count in
      subst (λ (i : ℕ). MayPut sig known i rest) (let x : suc (length before - k) ≡ length after = omega (arith, a, b, n, length-append m.front m.args, length-append m.front (m.id ∷ [])) in x) h

  -- the terms of a row whose variables are known
  pub may_begin : (row : List Term) → known ≡ noted_all [] (opens sig (variables_of row)) → MayPut sig known 0 (map (λ (t : Term). Whole t) row)
  may_begin row e =
      let all : AreKnown known (opens sig (variables_of row)) =
      subst (λ k. AreKnown k (opens sig (variables_of row))) (sym e) (known_each (noted_all [] (opens sig (variables_of row))) (opens sig (variables_of row)) (among-noted_all [] (opens sig (variables_of row)))) in
      subst (MayPut sig known 0) (append-nil (map (λ (t : Term). Whole t) row)) (may_args 0 (0 + length row) row [] refl all tt)

-- there is room for the cells of the variables
pub room_for : (old new : List Put) (known after : List Variable) (base end : ℕ) → base ≡ length old → end ≡ length new → known ≡ [] → PutsKnown old new known after → base + length after ≡ end
room_for old new known after base end b e k p =
    let none : frees known ≡ [] = ap frees k in
    let more : frees after ≡ p.more = p.known_are ∙ ap (λ (l : List Put). l ++ p.more) none in
    let a = ap length more in
    let c = ap length p.cells_are in
    omega (arith, a, b, c, e, frees_count after, length-append old p.more)
