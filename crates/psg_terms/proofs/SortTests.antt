-- The test whether a term has a sort.
use Rattle.std.proofs.Common.{◌≡◌, ◌≢◌, ℕ, ◌+◌, ◌<◌, ◌≤◌, ◌↔◌, IsTrue, Bool, zero, suc, List, [], ◌∷◌, ◌++◌, take, get_or, length, refl, ap, sym, ◌∙◌, subst, Option, Some, slice_get, append-nil, arith}
use Rattle.std.proofs.lemmas.List.{take_all, take_more}
use Rattle.std.proofs.lemmas.Option.{slice_get_within}
use Rattle.psg_terms.proofs.Soundness.{numbers_of-length}
use Rattle.psg_terms.proofs.Lists.{take_item}
use Rattle.psg_terms.specs.Terms.{Term, variable, symbol, applied}
use Rattle.psg_terms.specs.Signature.{Signature, Symbol, HasSort, HaveSorts}
use Rattle.psg_terms.specs.Kept.{numbers_of}
use Rattle.psg_terms.specs.declared.sorts.SortId.{SortId}
use Rattle.psg_terms.proofs.Applied.{applied-sorts, applied-takes}
use Rattle.psg_terms.proofs.Weights.{symbol_sort}
use Rattle.psg_terms.proofs.DeclareLaws.{numbers_of-append}

pub variable_has : (sig : Signature) (t : Term) (p n s : ℕ) → t ≡ variable p n → p ≡ s → p < length sig.sorts → HasSort sig t s
variable_has sig t p n s e d lt = subst (λ u. HasSort sig u s) (sym e) (lt, refl, d)

pub variable_is : (sig : Signature) (t : Term) (p n s : ℕ) → t ≡ variable p n → HasSort sig t s → (p < length sig.sorts) × (p ≡ s)
variable_is sig t p n s e h = let (lt, _, d) = subst (λ u. HasSort sig u s) e h in (lt, d)

pub symbol_past : (sig : Signature) (t : Term) (c : ℕ) (xs : List Term) (s : ℕ) → t ≡ applied (symbol c) xs → length sig.symbols ≤ c → HasSort sig t s → ⊥
symbol_past sig t c xs s e le h = let x = symbol_sort sig t c xs s e h in let lt = slice_get_within sig.symbols c x.0 x.1 in absurd (omega arith)

pub symbol_other : (sig : Signature) (t : Term) (c : ℕ) (xs : List Term) (s r : ℕ) → t ≡ applied (symbol c) xs → ((y : Symbol) × (slice_get sig.symbols c ≡ Some y) × (y.sort ≡ r)) → r ≢ s → HasSort sig t s → ⊥
symbol_other sig t c xs s r e (y, there, makes) ne h =
    let (x, at, is) = symbol_sort sig t c xs s e h in
    let q : ◌≡◌ {A = Option Symbol} (Some x) (Some y) = sym at ∙ there in
    let same : x ≡ y = cc in
    ne (sym makes ∙ ap (λ (z : Symbol). z.sort) (sym same) ∙ is)

-- with the constructor at hand, its arguments decide
pub arguments_decide : (sig : Signature) (t : Term) (c : ℕ) (xs : List Term) (s r : ℕ) (name : List ℕ) (args : List ℕ) (b : Bool) → t ≡ applied (symbol c) xs → ((y : Symbol) × (slice_get sig.symbols c ≡ Some y) × (y.sort ≡ r)) → r ≡ s → ((k : ℕ) × (slice_get sig.symbols c ≡ Some (record { name = name; arguments = args; sort = k }))) → IsTrue b ↔ HaveSorts sig xs args → IsTrue b ↔ HasSort sig t s
arguments_decide sig t c xs s r name args b e (y, there, makes) is (k, at) h =
    let q : ◌≡◌ {A = Option Symbol} (Some y) (Some (record { name = name; arguments = args; sort = k })) = sym there ∙ at in
    let same : y ≡ record { name = name; arguments = args; sort = k } = cc in
    let taken : y.arguments ≡ args = ap (λ (z : Symbol). z.arguments) same in (
      λ t1. subst (λ u. HasSort sig u s) (sym e) (applied-takes sig (symbol c) xs args s (y, there, taken, makes ∙ is) (h.0 t1)),
      λ k1. let parts = applied-sorts sig (symbol c) xs [] s (subst (λ u. HasSort sig u s) e k1) in
          let made = parts.1 in
          let q2 : ◌≡◌ {A = Option Symbol} (Some made.0) (Some y) = sym made.1 ∙ there in
          let same2 : made.0 ≡ y = cc in
          h.1 (subst (HaveSorts sig xs) (sym (append-nil parts.0) ∙ sym made.2 ∙ ap (λ (z : Symbol). z.arguments) same2 ∙ taken) parts.2),
    )

-- rows
have-length : (sig : Signature) (row : List Term) (ss : List ℕ) → HaveSorts sig row ss → length row ≡ length ss
have-length sig [] [] h = refl
have-length sig [] (s ∷ ss) h = absurd h
have-length sig (t ∷ row) [] h = absurd h
have-length sig (t ∷ row) (s ∷ ss) (p, h) = omega (arith, have-length sig row ss h)

pub lengths_apart : (sig : Signature) (row : List Term) (sorts : List SortId) → length row ≢ length sorts → HaveSorts sig row (numbers_of sorts) → ⊥
lengths_apart sig row sorts ne h = ne (have-length sig row (numbers_of sorts) h ∙ numbers_of-length sorts)

pub have-at : (sig : Signature) (row : List Term) (sorts : List SortId) (i : ℕ) (d : Term) (e : SortId) → HaveSorts sig row (numbers_of sorts) → i < length row → HasSort sig (get_or row i d) (get_or sorts i e).0
have-at sig [] sorts i d e h lt = absurd (omega arith)
have-at sig (t ∷ row) [] i d e h lt = absurd h
have-at sig (t ∷ row) (s ∷ sorts) zero d e (p, h) lt = p
have-at sig (t ∷ row) (s ∷ sorts) (suc i) d e (p, h) lt = have-at sig row sorts i d e h (omega arith)

pub have-push : (sig : Signature) (row : List Term) (ss : List ℕ) (t : Term) (s : ℕ) → HaveSorts sig row ss → HasSort sig t s → HaveSorts sig (row ++ t ∷ []) (ss ++ s ∷ [])
have-push sig [] [] t s h k = (k, tt)
have-push sig [] (r ∷ ss) t s h k = absurd h
have-push sig (u ∷ row) [] t s h k = absurd h
have-push sig (u ∷ row) (r ∷ ss) t s (p, h) k = (p, have-push sig row ss t s h k)

pub have-step : (sig : Signature) (row : List Term) (sorts : List SortId) (i : ℕ) (t : Term) (e : SortId) → HaveSorts sig (take i row) (numbers_of (take i sorts)) → HasSort sig t (get_or sorts i e).0 → i < length row → i < length sorts → t ≡ get_or row i t → HaveSorts sig (take (i + 1) row) (numbers_of (take (i + 1) sorts))
have-step sig row sorts i t e h k lr ls at =
    subst (λ xs. HaveSorts sig xs (numbers_of (take (i + 1) sorts))) (sym (take_item row i t lr at))
    (subst (HaveSorts sig (take i row ++ t ∷ [])) (sym (ap numbers_of (take_more sorts i e ls) ∙ numbers_of-append (take i sorts) (get_or sorts i e ∷ [])))
    (have-push sig (take i row) (numbers_of (take i sorts)) t (get_or sorts i e).0 h k))

pub have-all : (sig : Signature) (row : List Term) (sorts : List SortId) (i : ℕ) → HaveSorts sig (take i row) (numbers_of (take i sorts)) → length row ≡ length sorts → i ≡ length row → HaveSorts sig row (numbers_of sorts)
have-all sig row sorts i h l e =
    subst (λ xs. HaveSorts sig xs (numbers_of sorts)) (take_all i row (omega arith)) (subst (λ ss. HaveSorts sig (take i row) (numbers_of ss)) (take_all i sorts (omega arith)) h)
