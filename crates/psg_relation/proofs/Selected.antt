-- Rows joined with themselves: what remains is where their own columns agree.
use Rattle.std.proofs.Common.{◌≡◌, ℕ, ◌+◌, ◌<◌, ◌≤◌, ◌↔◌, inl, inr, zero, suc, List, [], ◌∷◌, ◌++◌, All, length, take, get_or, refl, ap, ap₂, sym, ◌∙◌, subst, Option, Some, slice_get, true, eqb, arith}
use Rattle.std.proofs.lemmas.Bool.{true≢false}
use Rattle.std.proofs.lemmas.Bool.Decides.{eqb_tells}
use Rattle.std.proofs.lemmas.List.Elements.{All-head, All-tail}
use Rattle.psg_terms.proofs.OneRelation.{sorts_length}
use Rattle.psg_terms.proofs.Lists.{take_item, slice_get_some}
use Rattle.psg_terms.specs.Terms.{Term}
use Rattle.psg_terms.specs.Signature.{Signature, HaveSorts}
use Rattle.psg_terms.specs.Instances.{IsGroundInstance}
use Rattle.psg_terms.specs.Relations.{IsIn, first, later, IsRelation}
use Rattle.psg_terms.proofs.Renumbering.{HaveSorts-substitute}
use Rattle.psg_unify.specs.Pairs.{Pair as Columns, AgreeOn, AreOfEqualSort, AreJoinable}
use Rattle.psg_relation.specs.Choices.{AllHaveSorts, AllWithin, IsOfRow, IsProjected, IsSelected, pick, picked}
use Rattle.psg_relation.specs.Sealed.{AllReady}
use Rattle.psg_relation.specs.Joining.{Joins, IsJoinOf, IsMore, Two, AreJoined}
use Rattle.psg_relation.specs.Selecting.{diagonal, twins, width_of}
use Rattle.psg_relation.proofs.Meeting.{joined_one}
use Rattle.psg_relation.proofs.Relating.{carried}

-- ---- pairs

pub agree-append : (xs ys : List Columns) (l r : List Term) → AgreeOn (xs ++ ys) l r ↔ (AgreeOn xs l r × AgreeOn ys l r)
agree-append [] ys l r = (λ h. (tt, h), λ h. h.1)
agree-append (x ∷ xs) ys l r = (
  λ h. let k = (agree-append xs ys l r).0 h.1 in ((h.0, k.0), k.1),
  λ h. (h.0.0, (agree-append xs ys l r).1 (h.0.1, h.1)),
)

pub diagonal-tail : (n k : ℕ) (a b : Term) (l r : List Term) → AgreeOn (diagonal (suc k) n) (a ∷ l) (b ∷ r) → AgreeOn (diagonal k n) l r
diagonal-tail zero k a b l r h = tt
diagonal-tail (suc n) k a b l r h = (h.0, diagonal-tail n (suc k) a b l r h.1)

-- rows that agree on each column are equal
diagonal_same : (l r : List Term) → length l ≡ length r → AgreeOn (diagonal 0 (length l)) l r → l ≡ r
diagonal_same [] [] e h = refl
diagonal_same [] (b ∷ r) e h = absurd (omega arith)
diagonal_same (a ∷ l) [] e h = absurd (omega arith)
diagonal_same (a ∷ l) (b ∷ r) e h =
    let d : ◌≡◌ {A = Option Term} (Some a) (Some b) = h.0 in
    let x : a ≡ b = cc in
    ap₂ (λ y ys. y ∷ ys) x (diagonal_same l r (omega arith) (diagonal-tail (length l) 0 a b l r h.1))

pub diagonal_self : (k n : ℕ) (l : List Term) → AgreeOn (diagonal k n) l l
diagonal_self k zero l = tt
diagonal_self k (suc n) l = (refl, diagonal_self (suc k) n l)

diagonal_sorts : (n k : ℕ) (ss : List ℕ) → k + n ≤ length ss → AreOfEqualSort ss ss (diagonal k n)
diagonal_sorts zero k ss h = tt
diagonal_sorts (suc n) k ss h = let (s, e) = slice_get_some ss k (omega arith) in ((s, e, e), diagonal_sorts n (suc k) ss (omega arith))

sorts-append : (ls rs : List ℕ) (xs ys : List Columns) → AreOfEqualSort ls rs xs → AreOfEqualSort ls rs ys → AreOfEqualSort ls rs (xs ++ ys)
sorts-append ls rs [] ys h k = k
sorts-append ls rs (x ∷ xs) ys h k = (h.0, sorts-append ls rs xs ys h.1 k)

diagonal-push : (n k : ℕ) → diagonal k (n + 1) ≡ diagonal k n ++ (k + n, k + n) ∷ []
diagonal-push zero k = let here : ℕ → List Columns = λ m. (m, m) ∷ [] in let e : k ≡ k + 0 = omega arith in ap here e
diagonal-push (suc n) k =
    let e : suc n + 1 ≡ suc (n + 1) = omega arith in
    let d : suc k + n ≡ k + suc n = omega arith in
    ap (diagonal k) e ∙ ap (λ xs. (k, k) ∷ xs) (diagonal-push n (suc k) ∙ ap (λ m. diagonal (suc k) n ++ (m, m) ∷ []) d)

pub diagonal-next : (n : ℕ) → diagonal 0 (n + 1) ≡ diagonal 0 n ++ (n, n) ∷ []
diagonal-next n = diagonal-push n 0 ∙ (let e : 0 + n ≡ n = omega arith in ap (λ m. diagonal 0 n ++ (m, m) ∷ []) e)

-- ---- kept columns

pub get-left : {X : Type 0} (l r : List X) (k : ℕ) → k < length l → slice_get (l ++ r) k ≡ slice_get l k
get-left [] r k h = absurd (omega arith)
get-left (t ∷ l) r zero h = refl
get-left (t ∷ l) r (suc k) h = get-left l r k (omega arith)

pub picked-left : {X : Type 0} (l r : List X) (keep : List ℕ) → All (λ (k : ℕ). k < length l) keep → picked (l ++ r) keep ≡ picked l keep
picked-left l r [] h = refl
picked-left l r (k ∷ keep) h =
    ap₂ pick (get-left l r k (All-head (λ (m : ℕ). m < length l) k keep h)) (picked-left l r keep (All-tail (λ (m : ℕ). m < length l) k keep h))

within-length : (m n : ℕ) (keep : List ℕ) → m ≤ n → All (λ (k : ℕ). k < m) keep → All (λ (k : ℕ). k < n) keep
within-length m n keep le h = λ k d l. let x = h k d l in omega arith

pub within_twice : (row : List Term) (keep : List ℕ) → All (λ (k : ℕ). k < length row) keep → All (λ (k : ℕ). k < length row + length row) keep
within_twice row keep h = within-length (length row) (length row + length row) keep (omega arith) h

-- ---- a row with itself

module _ (sig : Signature) (pairs : List Columns) (keep : List ℕ) where
  abbrev Selects : List Term → List Term → Type 0
  Selects row x = (full : List Term) × IsGroundInstance sig row full × AgreeOn pairs full full × (x ≡ picked full keep)

  inst : (row x : List Term) (ss : List ℕ) → HaveSorts sig row ss → IsGroundInstance sig row x → HaveSorts sig x ss
  inst row x ss h (f, k, e) = subst (λ y. HaveSorts sig y ss) (sym e) (HaveSorts-substitute sig f k.sorted row ss h)

  selected : (row x : List Term) (ss : List ℕ) → HaveSorts sig row ss → All (λ (k : ℕ). k < length row) keep
      → Joins sig (diagonal 0 (length row) ++ pairs) keep row row x ↔ Selects row x
  selected row x ss h within = (
    λ (full, (l, r, gl, gr, agree, d), e).
        let (own, more) = (agree-append (diagonal 0 (length row)) pairs l r).0 agree in
        let a = sorts_length sig row ss h in
        let b = sorts_length sig l ss (inst row l ss h gl) in
        let c = sorts_length sig r ss (inst row r ss h gr) in
        let same : l ≡ r = diagonal_same l r (omega arith) (subst (λ n. AgreeOn (diagonal 0 n) l r) (let q : length row ≡ length l = omega arith in q) own) in
        (l, gl, subst (AgreeOn pairs l) (sym same) more, e ∙ ap (λ f. picked f keep) d ∙ picked-left l r keep (subst (λ n. All (λ (k : ℕ). k < n) keep) (let q : length row ≡ length l = omega arith in q) within)),
    λ (full, g, agree, e).
        let a = sorts_length sig row ss h in
        let b = sorts_length sig full ss (inst row full ss h g) in (
          full ++ full,
          (full, full, g, g, (agree-append (diagonal 0 (length row)) pairs full full).1 (diagonal_self 0 (length row) full, agree), refl),
          e ∙ sym (picked-left full full keep (subst (λ n. All (λ (k : ℕ). k < n) keep) (let q : length row ≡ length full = omega arith in q) within)),
        ),
  )

-- ---- each row with itself

twins-push : (rows : List (List Term)) (row : List Term) → twins (rows ++ row ∷ []) ≡ twins rows ++ (row, row) ∷ []
twins-push [] row = refl
twins-push (r ∷ rows) row = ap (λ ps. (r, r) ∷ ps) (twins-push rows row)

pub twins_step : (sig : Signature) (pairs : List Columns) (keep : List ℕ) (rows now more : List (List Term)) (i : ℕ) (row : List Term) → i < length rows → row ≡ get_or rows i row
    → AreJoined sig pairs keep (twins (take i rows)) now → IsMore sig pairs keep row row now more → AreJoined sig pairs keep (twins (take (i + 1) rows)) more
twins_step sig pairs keep rows now more i row l e a m =
    subst (λ ps. AreJoined sig pairs keep ps more) (sym (twins-push (take i rows) row) ∙ ap twins (sym (take_item rows i row l e)))
    (joined_one sig pairs keep (twins (take i rows)) now row row more a m)

pub twins-in : (p : Two) (rows : List (List Term)) → IsIn p (twins rows) → IsIn p.0 rows × (p.0 ≡ p.1)
twins-in p [] h = elim h [ ]
twins-in p (row ∷ rows) first = (first, refl)
twins-in p (row ∷ rows) (later h) = let (i, e) = twins-in p rows h in (later i, e)

pub in-twins : (row : List Term) (rows : List (List Term)) → IsIn row rows → IsIn (row, row) (twins rows)
in-twins row [] h = elim h [ ]
in-twins row (r ∷ rows) first = first
in-twins row (r ∷ rows) (later h) = later (in-twins row rows h)

-- all rows have the width of the first
pub width_same : (sig : Signature) (rows : List (List Term)) (ss : List ℕ) → AllHaveSorts sig rows ss → (row : List Term) → IsIn row rows → length row ≡ width_of rows
width_same sig [] ss all row h = elim h [ ]
width_same sig (r ∷ rows) ss all row h = sorts_length sig row ss (all row h) ∙ sym (sorts_length sig r ss (all r first))

pub self_equal : (sig : Signature) (rows : List (List Term)) (ss : List ℕ) (pairs : List Columns) → AllHaveSorts sig rows ss → AreOfEqualSort ss ss pairs
    → (row : List Term) → IsIn row rows → AreOfEqualSort ss ss (diagonal 0 (width_of rows) ++ pairs)
self_equal sig rows ss pairs all equal row h =
    let w = width_same sig rows ss all row h in
    let m = sorts_length sig row ss (all row h) in
    sorts-append ss ss (diagonal 0 (width_of rows)) pairs (diagonal_sorts (width_of rows) 0 ss (omega arith)) equal

pub self_joinable : (sig : Signature) (rows : List (List Term)) (ss : List ℕ) (pairs : List Columns) → AllHaveSorts sig rows ss → AreOfEqualSort ss ss pairs
    → (row : List Term) → IsIn row rows → AreJoinable sig row row (diagonal 0 (width_of rows) ++ pairs)
self_joinable sig rows ss pairs all equal row h = record {
  left_sorts = ss;
  right_sorts = ss;
  left_sorted = all row h;
  right_sorted = all row h;
  equal = self_equal sig rows ss pairs all equal row h;
}

module _ (sig : Signature) (rows : List (List Term)) (pairs : List Columns) (keep : List ℕ) (ss : List ℕ) (all : AllHaveSorts sig rows ss) (within : AllWithin rows keep)
    (made : List (List Term)) (a : AreJoined sig (diagonal 0 (width_of rows) ++ pairs) keep (twins rows) made) where
  with_width : (row : List Term) → IsIn row rows → (x : List Term) → Joins sig (diagonal 0 (width_of rows) ++ pairs) keep row row x ↔ Selects sig pairs keep row x
  with_width row h x =
      subst (λ n. Joins sig (diagonal 0 n ++ pairs) keep row row x ↔ Selects sig pairs keep row x) (width_same sig rows ss all row h)
      (selected sig pairs keep row x ss (all row h) (within row h))

  there : (m columns : List Term) → IsOfRow sig made m columns → (row : List Term) × ((x : List Term) → IsOfRow sig made m x ↔ IsSelected sig rows pairs keep row x)
  there m columns (h, g) =
      let (two, i, j) = a.from m h in
      let (k, e) = twins-in two rows i in
      let one : IsJoinOf sig (diagonal 0 (width_of rows) ++ pairs) keep two.0 two.0 m = subst (λ z. IsJoinOf sig (diagonal 0 (width_of rows) ++ pairs) keep two.0 z m) (sym e) j in
      (two.0, λ x. (λ p. (k, (with_width two.0 k x).0 (one.to x p.1)), λ p. (h, one.back x ((with_width two.0 k x).1 p.1))))

  back : (row columns : List Term) → IsSelected sig rows pairs keep row columns → (m : List Term) × ((x : List Term) → IsOfRow sig made m x ↔ IsSelected sig rows pairs keep row x)
  back row columns (k, s) =
      let (m, i, j) = a.to (row, row) (in-twins row rows k) columns ((with_width row k columns).1 s) in
      (m, λ x. (λ p. (k, (with_width row k x).0 (j.to x p.1)), λ p. (i, j.back x ((with_width row k x).1 p.1))))

  pub selected_relation : (sorts : List ℕ) (others : List (List Term)) → IsRelation sig sorts (IsOfRow sig made) others → IsRelation sig sorts (IsSelected sig rows pairs keep) others
  selected_relation sorts others = carried sig sorts (IsOfRow sig made) (IsSelected sig rows pairs keep) there back others

  pub selected_sorts : (ls : List ℕ) → AllHaveSorts sig rows ls → AllHaveSorts sig made (picked ls keep)
  selected_sorts ls h m i =
      let (two, j, k) = a.from m i in
      let (there, e) = twins-in two rows j in
      let l : HaveSorts sig two.0 ls = h two.0 there in
      let picked_both : HaveSorts sig m (picked (ls ++ ls) keep) = k.sorted ls ls l (subst (λ z. HaveSorts sig z ls) e l) in
      let n = sorts_length sig two.0 ls l in
      subst (HaveSorts sig m) (picked-left ls ls keep (subst (λ n. All (λ (k : ℕ). k < n) keep) n (within two.0 there))) picked_both

  pub selected_ready : AllReady sig made
  selected_ready m h = (a.from m h).2.ready

pub no_pairs : (ps : List Columns) → eqb (length ps) 0 ≡ true → ps ≡ []
no_pairs [] e = refl
no_pairs (p ∷ ps) e = absurd (pos_zero (length ps) e)
  where
    pos_zero : (n : ℕ) → eqb (suc n) 0 ≡ true → ⊥
    pos_zero n e = elim (eqb_tells (suc n) 0) [ inl d ↦ absurd (omega (arith, d.1)) | inr d ↦ true≢false (sym e ∙ d.0) ]

-- without pairs the columns are those of the rows
module _ (sig : Signature) (rows : List (List Term)) (keep : List ℕ) where
  pub unpaired : (pairs : List Columns) → pairs ≡ [] → (sorts : List ℕ) (others : List (List Term)) → IsRelation sig sorts (IsProjected sig rows keep) others → IsRelation sig sorts (IsSelected sig rows pairs keep) others
  unpaired pairs none sorts others rel = subst (λ ps. IsRelation sig sorts (IsSelected sig rows ps keep) others) (sym none) (carried sig sorts (IsProjected sig rows keep) (IsSelected sig rows [] keep)
      (λ c x p. (c, λ y. (λ q. (q.0, (q.1.0, q.1.1, tt, q.1.2)), λ q. (q.0, (q.1.0, q.1.1, q.1.3)))))
      (λ c x p. (c, λ y. (λ q. (q.0, (q.1.0, q.1.1, tt, q.1.2)), λ q. (q.0, (q.1.0, q.1.1, q.1.3))))) others rel)
