-- The test that columns have equal sorts.
use Rattle.std.proofs.Common.{◌≡◌, ℕ, ◌<◌, ◌+◌, zero, suc, List, [], ◌∷◌, ◌++◌, length, get_or, take, refl, ap, sym, ◌∙◌, subst, Option, Some, None, IfSome, slice_get, arith}
use Rattle.std.proofs.lemmas.List.{take_more, take_all}
use Rattle.psg_terms.specs.Terms.{Term}
use Rattle.psg_terms.specs.Signature.{Signature, HaveSorts, AreTerms}
use Rattle.psg_terms.specs.Kept.{numbers_of}
use Rattle.psg_terms.specs.declared.sorts.SortId.{SortId}
use Rattle.psg_unify.specs.Pairs.{Pair, AreOfEqualSort}

number_at : (xs : List SortId) (i : ℕ) (d : SortId) → i < length xs → slice_get (numbers_of xs) i ≡ Some (get_or xs i d).0
number_at [] i d l = absurd (omega arith)
number_at (y ∷ xs) zero d l = refl
number_at (y ∷ xs) (suc i) d l = number_at xs i d (omega arith)

equal_push : (ls rs : List ℕ) (pairs : List Pair) (p : Pair) → ((s : ℕ) × (slice_get ls p.0 ≡ Some s) × (slice_get rs p.1 ≡ Some s)) → AreOfEqualSort ls rs pairs → AreOfEqualSort ls rs (pairs ++ p ∷ [])
equal_push ls rs [] p h k = (h, tt)
equal_push ls rs (q ∷ pairs) p h (e, k) = (e, equal_push ls rs pairs p h k)

pub equal_more : (left right : List SortId) (pairs : List Pair) (i : ℕ) (d : SortId) → i < length pairs → (get_or pairs i (0, 0)).0 < length left → (get_or pairs i (0, 0)).1 < length right
    → (get_or left (get_or pairs i (0, 0)).0 d).0 ≡ (get_or right (get_or pairs i (0, 0)).1 d).0
    → AreOfEqualSort (numbers_of left) (numbers_of right) (take i pairs) → AreOfEqualSort (numbers_of left) (numbers_of right) (take (i + 1) pairs)
equal_more left right pairs i d l la lb e h =
    let p : Pair = get_or pairs i (0, 0) in
    subst (AreOfEqualSort (numbers_of left) (numbers_of right)) (sym (take_more pairs i (0, 0) l))
    (equal_push (numbers_of left) (numbers_of right) (take i pairs) p ((get_or left p.0 d).0, number_at left p.0 d la, number_at right p.1 d lb ∙ ap Some (sym e)) h)

pub equal_all : (left right : List SortId) (pairs : List Pair) (i : ℕ) → length pairs ≡ i → AreOfEqualSort (numbers_of left) (numbers_of right) (take i pairs) → AreOfEqualSort (numbers_of left) (numbers_of right) pairs
equal_all left right pairs i e h = subst (AreOfEqualSort (numbers_of left) (numbers_of right)) (take_all i pairs (omega arith)) h

-- a row of the sorts of both rows is one of terms
pub terms_clause : {X : Type 0} (items : X → List Term) (sig : Signature) (left right : List Term) (ls rs : List ℕ) (o : Option X) → HaveSorts sig left ls → HaveSorts sig right rs
    → IfSome o (λ row. (xs ys : List ℕ) → HaveSorts sig left xs → HaveSorts sig right ys → HaveSorts sig (items row) (xs ++ ys)) → IfSome o (λ row. AreTerms sig (items row))
terms_clause items sig left right ls rs None hl hr h = tt
terms_clause items sig left right ls rs (Some row) hl hr h = (ls ++ rs, h ls rs hl hr)
