-- Pairs of columns of two rows, one by one.
use Rattle.std.proofs.Common.{◌≡◌, ℕ, ◌<◌, ◌+◌, ◌≤◌, Bool, true, false, List, [], ◌∷◌, ◌++◌, map, length, get_or, take, zero, suc, refl, ap, sym, ◌∙◌, subst, Option, Some, IfSome, slice_get, IsTrue, ◌↔◌, arith}
use Rattle.std.specs.Option.{option_map}
use Rattle.std.proofs.lemmas.Bool.{false≢true}
use Rattle.std.proofs.lemmas.List.{take_more, take_all}
use Rattle.std.proofs.lemmas.Option.{slice_get-map, same_Some}
use Rattle.psg_terms.specs.Terms.{Term}
use Rattle.psg_terms.specs.Signature.{Signature, HasSort, HaveSorts}
use Rattle.psg_terms.specs.Weight.{above_of}
use Rattle.psg_terms.specs.Instances.{Substitution, substitute}
use Rattle.psg_terms.proofs.Recognising.{substitute-closed}
use Rattle.psg_unify.specs.Pairs.{Pair, AgreeOn, AreOfEqualSort}
use Rattle.psg_relation.specs.Settling.{IsSettled, AreSettled}

pub sort_at : (sig : Signature) (row : List Term) (ss : List ℕ) (i : ℕ) (t : Term) (s : ℕ) → HaveSorts sig row ss → slice_get row i ≡ Some t → slice_get ss i ≡ Some s → HasSort sig t s
sort_at sig [] ss i t s h e d = absurd (cc)
sort_at sig (x ∷ row) [] i t s h e d = absurd h
sort_at sig (x ∷ row) (r ∷ ss) zero t s (h, _) e d = let a : x ≡ t = cc in let b : r ≡ s = cc in subst (λ y. HasSort sig y s) a (subst (HasSort sig x) b h)
sort_at sig (x ∷ row) (r ∷ ss) (suc i) t s (_, h) e d = sort_at sig row ss i t s h e d

pub value_at : (g : Substitution) (row : List Term) (i : ℕ) (t : Term) → slice_get row i ≡ Some t → slice_get (map (substitute g) row) i ≡ Some (substitute g t)
value_at g row i t e = slice_get-map (substitute g) row i ∙ ap (option_map (substitute g)) e

-- the pair at a place
pub equal_at : (ls rs : List ℕ) (pairs : List Pair) (i : ℕ) (p d : Pair) → i < length pairs → p ≡ get_or pairs i d → AreOfEqualSort ls rs pairs → (s : ℕ) × (slice_get ls p.0 ≡ Some s) × (slice_get rs p.1 ≡ Some s)
equal_at ls rs [] i p d l e h = absurd (omega arith)
equal_at ls rs (q ∷ pairs) zero p d l e h = subst (λ (x : Pair). (s : ℕ) × (slice_get ls x.0 ≡ Some s) × (slice_get rs x.1 ≡ Some s)) (sym e) h.0
equal_at ls rs (q ∷ pairs) (suc i) p d l e h = equal_at ls rs pairs i p d (omega arith) e h.1

pub agree_at : (pairs : List Pair) (i : ℕ) (p d : Pair) (l r : List Term) → i < length pairs → p ≡ get_or pairs i d → AgreeOn pairs l r → slice_get l p.0 ≡ slice_get r p.1
agree_at [] i p d l r lt e h = absurd (omega arith)
agree_at (q ∷ pairs) zero p d l r lt e h = subst (λ (x : Pair). slice_get l x.0 ≡ slice_get r x.1) (sym e) h.0
agree_at (q ∷ pairs) (suc i) p d l r lt e h = agree_at pairs i p d l r (omega arith) e h.1

pub agree_push : (pairs : List Pair) (p : Pair) (l r : List Term) → AgreeOn pairs l r → slice_get l p.0 ≡ slice_get r p.1 → AgreeOn (pairs ++ p ∷ []) l r
agree_push [] p l r h e = (e, tt)
agree_push (q ∷ pairs) p l r (d, h) e = (d, agree_push pairs p l r h e)

pub agree_split : (pairs : List Pair) (p : Pair) (l r : List Term) → AgreeOn (pairs ++ p ∷ []) l r → AgreeOn pairs l r × (slice_get l p.0 ≡ slice_get r p.1)
agree_split [] p l r (e, _) = (tt, e)
agree_split (q ∷ pairs) p l r (d, h) = let k = agree_split pairs p l r h in ((d, k.0), k.1)

-- the columns are there in both rows
pub pairs_within : (sig : Signature) (left right : List Term) (ls rs : List ℕ) (pairs : List Pair) → HaveSorts sig left ls → HaveSorts sig right rs → AreOfEqualSort ls rs pairs
    → (k : ℕ) (d : Pair) → k < length pairs → ((get_or pairs k d).0 < length left) × ((get_or pairs k d).1 < length right)
pairs_within sig left right ls rs pairs hl hr h k d l =
    let e = equal_at ls rs pairs k (get_or pairs k d) d l refl h in
    (sorted_within sig left ls (get_or pairs k d).0 e.0 hl e.1, sorted_within sig right rs (get_or pairs k d).1 e.0 hr e.2)
  where
    sorted_within : (sig : Signature) (row : List Term) (ss : List ℕ) (i s : ℕ) → HaveSorts sig row ss → slice_get ss i ≡ Some s → i < length row
    sorted_within sig [] [] i s h e = absurd (cc)
    sorted_within sig [] (r ∷ ss) i s h e = absurd h
    sorted_within sig (x ∷ row) [] i s h e = absurd h
    sorted_within sig (x ∷ row) (r ∷ ss) zero s h e = omega arith
    sorted_within sig (x ∷ row) (r ∷ ss) (suc i) s h e = let k = sorted_within sig row ss i s h.1 e in omega (arith, k)

-- ---- terms that are equal for all values, or for none

pub settled_is : (a b : Term) (o : Option Bool) (equal : Bool) → o ≡ Some equal → IfSome o (λ e. IsSettled a b e) → IsSettled a b equal
settled_is a b o equal e h = subst (λ p. IfSome p (λ e. IsSettled a b e)) e h

pub settled_closed : (a b : Term) (equal : Bool) → above_of a ≡ 0 → above_of b ≡ 0 → (IsTrue equal ↔ (a ≡ b)) → IsSettled a b equal
settled_closed a b true ca cb h = λ f g. substitute-closed f a ca ∙ h.0 refl ∙ sym (substitute-closed g b cb)
settled_closed a b false ca cb h = λ f g e. false≢true (h.1 (sym (substitute-closed f a ca) ∙ e ∙ substitute-closed g b cb))

module _ (left right : List Term) (pairs : List Pair) (i : ℕ) (p d : Pair) (x y : Term) (lt : i < length pairs) (ep : p ≡ get_or pairs i d) (ex : slice_get left p.0 ≡ Some x) (ey : slice_get right p.1 ≡ Some y) where
  pub take_pair : take (i + 1) pairs ≡ take i pairs ++ p ∷ []
  take_pair = take_more pairs i d lt ∙ ap (λ (u : Pair). take i pairs ++ u ∷ []) (sym ep)

  -- what two rows that agree make of this pair
  pub pair_equal : (f g : Substitution) → AgreeOn pairs (map (substitute f) left) (map (substitute g) right) → substitute f x ≡ substitute g y
  pair_equal f g a = same_Some (substitute f x) (substitute g y) (sym (value_at f left p.0 x ex) ∙ agree_at pairs i p d (map (substitute f) left) (map (substitute g) right) lt ep a ∙ value_at g right p.1 y ey)

  pub pair_agrees : (f g : Substitution) → substitute f x ≡ substitute g y → slice_get (map (substitute f) left) p.0 ≡ slice_get (map (substitute g) right) p.1
  pair_agrees f g e = value_at f left p.0 x ex ∙ ap (λ (t : Term). Some t) e ∙ sym (value_at g right p.1 y ey)

  pub never : (equal : Bool) → equal ≡ false → IsSettled x y equal → AreSettled left right pairs false
  never equal e h = λ f g a. subst (IsSettled x y) e h f g (pair_equal f g a)

  pub always_more : (equal : Bool) → equal ≡ true → IsSettled x y equal → AreSettled left right (take i pairs) true → AreSettled left right (take (i + 1) pairs) true
  always_more equal e h a = λ f g.
      subst (λ ps. AgreeOn ps (map (substitute f) left) (map (substitute g) right)) (sym take_pair)
      (agree_push (take i pairs) p (map (substitute f) left) (map (substitute g) right) (a f g) (pair_agrees f g (subst (IsSettled x y) e h f g)))

pub always_all : (left right : List Term) (pairs : List Pair) (i : ℕ) → length pairs ≤ i → AreSettled left right (take i pairs) true → AreSettled left right pairs true
always_all left right pairs i l h = subst (λ ps. AreSettled left right ps true) (take_all i pairs l) h
