-- Joins of all pairs of rows.
use Rattle.std.proofs.Common.{◌≡◌, ℕ, ◌+◌, ◌<◌, ◌≤◌, ◌↔◌, inl, inr, List, [], ◌∷◌, ◌++◌, All, append_assoc, length, length-append, take, get_or, refl, ap, sym, ◌∙◌, subst, slice_get, zero, suc, arith, append-nil}
use Rattle.psg_terms.proofs.OneRelation.{sorts_length}
use Rattle.psg_terms.proofs.Lists.{take_item, in_either, in_right, in_left}
use Rattle.psg_terms.specs.Terms.{Term}
use Rattle.psg_terms.specs.Signature.{Signature, HaveSorts}
use Rattle.psg_terms.specs.Instances.{IsGroundInstance, HasSameInstances}
use Rattle.psg_terms.specs.Canonical.{AreWrittenOut}
use Rattle.psg_terms.specs.Relations.{IsIn, first, later, Pair, IsGlued, IsRelation}
use Rattle.psg_unify.specs.Pairs.{Pair as Columns, IsAgreeing}
use Rattle.psg_relation.specs.Choices.{AllHaveSorts, IsOfRow, Agrees, pick, picked}
use Rattle.psg_relation.specs.Sealed.{IsReady, AllReady}
use Rattle.psg_relation.specs.Joining.{Joins, IsJoinOf, IsMore, Two, with_each, all_pairs, AreJoined, MayJoin, MayMeet}
use Rattle.psg_relation.proofs.Members.{in-last, in-split}
use Rattle.psg_relation.proofs.Columns.{picked_ground}
use Rattle.psg_relation.proofs.Relating.{carried}

pick-written : (sig : Signature) (row : List Term) (k : ℕ) → AreWrittenOut sig row → (rest : List Term) → AreWrittenOut sig rest → AreWrittenOut sig (pick (slice_get row k) rest)
pick-written sig [] k h rest r = r
pick-written sig (t ∷ row) zero (a, h) rest r = (a, r)
pick-written sig (t ∷ row) (suc k) (a, h) rest r = pick-written sig row k h rest r

pub picked-written : (sig : Signature) (row : List Term) (keep : List ℕ) → AreWrittenOut sig row → AreWrittenOut sig (picked row keep)
picked-written sig row [] h = tt
picked-written sig row (k ∷ keep) h = pick-written sig row k h (picked row keep) (picked-written sig row keep h)

-- the kept columns of the joined row, made ready
pub join_of : (sig : Signature) (pairs : List Columns) (keep : List ℕ) (left right joined row : List Term) → IsReady sig row → HasSameInstances sig row (picked joined keep)
    → ((full : List Term) → IsGroundInstance sig joined full ↔ IsAgreeing sig left right pairs full)
    → ((ls rs : List ℕ) → HaveSorts sig left ls → HaveSorts sig right rs → HaveSorts sig row (picked (ls ++ rs) keep)) → IsJoinOf sig pairs keep left right row
join_of sig pairs keep left right joined row ready same exact sorted = record {
  ready = ready;
  to = λ x g. let (full, i, e) = (picked_ground sig joined keep x).0 (same.0 x g) in (full, (exact full).0 i, e);
  back = λ x (full, a, e). same.1 x ((picked_ground sig joined keep x).1 (full, (exact full).1 a, e));
  sorted = sorted;
}

module _ (sig : Signature) (pairs : List Columns) (keep : List ℕ) where
  pub joined_none : AreJoined sig pairs keep [] []
  joined_none = record { from = λ m h. elim h [ ]; to = λ p h. elim h [ ] }

  pub joined_one : (done : List Two) (made : List (List Term)) (left right : List Term) (more : List (List Term)) → AreJoined sig pairs keep done made → IsMore sig pairs keep left right made more → AreJoined sig pairs keep (done ++ (left, right) ∷ []) more
  joined_one done made left right more a (inl (none, e)) = subst (AreJoined sig pairs keep (done ++ (left, right) ∷ [])) (sym e) (record {
    from = λ m h. let (p, i, j) = a.from m h in (p, in_left p done ((left, right) ∷ []) i, j);
    to = λ p h x j. elim (in-split p (left, right) done h) [
      | inl b ↦ a.to p b x j
      | inr d ↦ absurd (none x (subst (λ (q : Two). Joins sig pairs keep q.0 q.1 x) d j))
    ];
  })
  joined_one done made left right more a (inr (row, j, e)) = subst (AreJoined sig pairs keep (done ++ (left, right) ∷ [])) (sym e) (record {
    from = λ m h. elim (in-split m row made h) [
      | inl b ↦ let (p, i, k) = a.from m b in (p, in_left p done ((left, right) ∷ []) i, k)
      | inr d ↦ ((left, right), in-last (left, right) done, subst (IsJoinOf sig pairs keep left right) (sym d) j)
    ];
    to = λ p h x k. elim (in-split p (left, right) done h) [
      | inl b ↦ let (m, i, l) = a.to p b x k in (m, in_left m made (row ∷ []) i, l)
      | inr d ↦ (row, in-last row made, subst (λ (q : Two). IsJoinOf sig pairs keep q.0 q.1 row) (sym d) j)
    ];
  })

pub each-push : (one other : List Term) (rest : List (List Term)) → with_each one (rest ++ other ∷ []) ≡ with_each one rest ++ (one, other) ∷ []
each-push one other [] = refl
each-push one other (x ∷ rest) = ap (λ ps. (one, x) ∷ ps) (each-push one other rest)

pairs-push : (left right : List (List Term)) (one : List Term) → all_pairs (left ++ one ∷ []) right ≡ all_pairs left right ++ with_each one right
pairs-push [] right one = append-nil (with_each one right)
pairs-push (l ∷ left) right one = ap (λ ps. with_each l right ++ ps) (pairs-push left right one) ∙ sym (append_assoc (with_each l right) (all_pairs left right) (with_each one right))

-- one step of each walk
pub each_step : (sig : Signature) (pairs : List Columns) (keep : List ℕ) (done : List Two) (one : List Term) (right now more : List (List Term)) (i : ℕ) (other : List Term) → i < length right → other ≡ get_or right i other
    → AreJoined sig pairs keep (done ++ with_each one (take i right)) now → IsMore sig pairs keep one other now more → AreJoined sig pairs keep (done ++ with_each one (take (i + 1) right)) more
each_step sig pairs keep done one right now more i other l e a m =
    subst (λ ps. AreJoined sig pairs keep ps more)
    (append_assoc done (with_each one (take i right)) ((one, other) ∷ []) ∙ ap (λ ps. done ++ ps) (sym (each-push one other (take i right)) ∙ ap (with_each one) (sym (take_item right i other l e))))
    (joined_one sig pairs keep (done ++ with_each one (take i right)) now one other more a m)

pub pairs_step : (sig : Signature) (pairs : List Columns) (keep : List ℕ) (left right more : List (List Term)) (i : ℕ) (one : List Term) → i < length left → one ≡ get_or left i one
    → AreJoined sig pairs keep (all_pairs (take i left) right ++ with_each one right) more → AreJoined sig pairs keep (all_pairs (take (i + 1) left) right) more
pairs_step sig pairs keep left right more i one l e a =
    subst (λ ps. AreJoined sig pairs keep ps more) (sym (pairs-push (take i left) right one) ∙ ap (λ ls. all_pairs ls right) (sym (take_item left i one l e))) a

pub each-in : (p : Two) (one : List Term) (right : List (List Term)) → IsIn p (with_each one right) → (p.0 ≡ one) × IsIn p.1 right
each-in p one [] h = elim h [ ]
each-in p one (other ∷ rest) first = (refl, first)
each-in p one (other ∷ rest) (later h) = let (e, i) = each-in p one rest h in (e, later i)

pub in-each : (one other : List Term) (right : List (List Term)) → IsIn other right → IsIn (one, other) (with_each one right)
in-each one other [] h = elim h [ ]
in-each one other (o ∷ rest) first = first
in-each one other (o ∷ rest) (later h) = later (in-each one other rest h)

pub pairs-in : (p : Two) (left right : List (List Term)) → IsIn p (all_pairs left right) → IsIn p.0 left × IsIn p.1 right
pairs-in p [] right h = elim h [ ]
pairs-in p (l ∷ left) right h = elim (in_either p (with_each l right) (all_pairs left right) h) [
  | inl a ↦ let (e, i) = each-in p l right a in (subst (λ z. IsIn z (l ∷ left)) (sym e) first, i)
  | inr b ↦ let (i, j) = pairs-in p left right b in (later i, j)
]

pub in-pairs : (one other : List Term) (left right : List (List Term)) → IsIn one left → IsIn other right → IsIn (one, other) (all_pairs left right)
in-pairs one other [] right h i = elim h [ ]
in-pairs one other (l ∷ left) right first i = in_left (one, other) (with_each one right) (all_pairs left right) (in-each one other right i)
in-pairs one other (l ∷ left) right (later h) i = in_right (one, other) (with_each l right) (all_pairs left right) (in-pairs one other left right h i)

module _ (sig : Signature) (pairs : List Columns) (keep : List ℕ) (left right made : List (List Term)) (a : AreJoined sig pairs keep (all_pairs left right) made) where
  abbrev Glued : Pair sig (Agrees pairs keep) left right → List Term → Type 0
  Glued = IsGlued sig (Agrees pairs keep) left right

  glued : (p : Pair sig (Agrees pairs keep) left right) (x : List Term) → Joins sig pairs keep p.one p.two x ↔ Glued p x
  glued p x = (
    λ (full, (l, r, gl, gr, agree, d), e). record { p = l; p_is = gl; q = r; q_is = gr; glue = (agree, e ∙ ap (λ f. picked f keep) d) },
    λ g. (g.p ++ g.q, (g.p, g.q, g.p_is, g.q_is, g.glue.0, refl), g.glue.1),
  )

  there : (m columns : List Term) → IsOfRow sig made m columns → (p : Pair sig (Agrees pairs keep) left right) × ((x : List Term) → IsOfRow sig made m x ↔ Glued p x)
  there m columns (h, g) =
      let (two, i, j) = a.from m h in
      let both = pairs-in two left right i in
      let p : Pair sig (Agrees pairs keep) left right = record { one = two.0; from_left = both.0; two = two.1; from_right = both.1 } in
      (p, λ x. (λ k. (glued p x).0 (j.to x k.1), λ k. (h, j.back x ((glued p x).1 k))))

  back : (p : Pair sig (Agrees pairs keep) left right) (columns : List Term) → Glued p columns → (m : List Term) × ((x : List Term) → IsOfRow sig made m x ↔ Glued p x)
  back p columns k =
      let (m, i, j) = a.to (p.one, p.two) (in-pairs p.one p.two left right p.from_left p.from_right) columns ((glued p columns).1 k) in
      (m, λ x. (λ g. (glued p x).0 (j.to x g.1), λ g. (i, j.back x ((glued p x).1 g))))

  pub joined_relation : (sorts : List ℕ) (others : List (List Term)) → IsRelation sig sorts (IsOfRow sig made) others → IsRelation sig sorts Glued others
  joined_relation sorts others = carried sig sorts (IsOfRow sig made) Glued there back others

  pub unjoined_relation : (sorts : List ℕ) (others : List (List Term)) → IsRelation sig sorts Glued others → IsRelation sig sorts (IsOfRow sig made) others
  unjoined_relation sorts others = carried sig sorts Glued (IsOfRow sig made)
      (λ p columns k. let (m, both) = back p columns k in (m, λ x. ((both x).1, (both x).0)))
      (λ m columns k. let (p, both) = there m columns k in (p, λ x. ((both x).1, (both x).0))) others

  pub joined_sorts : (ls rs : List ℕ) → AllHaveSorts sig left ls → AllHaveSorts sig right rs → AllHaveSorts sig made (picked (ls ++ rs) keep)
  joined_sorts ls rs hl hr m h =
      let (two, i, j) = a.from m h in
      let both = pairs-in two left right i in
      j.sorted ls rs (hl two.0 both.0) (hr two.1 both.1)

  pub joined_ready : AllReady sig made
  joined_ready m h = (a.from m h).2.ready

pub may_meet : (sig : Signature) (left right : List (List Term)) (pairs : List Columns) (keep : List ℕ) → MayJoin sig left right pairs keep → (one other : List Term) → IsIn one left → IsIn other right → MayMeet sig one other pairs keep
may_meet sig left right pairs keep j one other h i = record {
  joinable = record { left_sorts = j.left_sorts; right_sorts = j.right_sorts; left_sorted = j.lefts one h; right_sorted = j.rights other i; equal = j.equal one other h i };
  within = j.within one other h i;
}

pub within_joined : (sig : Signature) (left right joined : List Term) (ls rs keep : List ℕ) → HaveSorts sig left ls → HaveSorts sig right rs → HaveSorts sig joined (ls ++ rs) → All (λ (k : ℕ). k < length left + length right) keep → All (λ (k : ℕ). k < length joined) keep
within_joined sig left right joined ls rs keep hl hr hj h = λ k d l.
    let a = sorts_length sig left ls hl in
    let b = sorts_length sig right rs hr in
    let c = sorts_length sig joined (ls ++ rs) hj in
    let e = length-append ls rs in
    let m = h k d l in
    omega arith

-- columns among as many as two rows have sorts
pub within_sorts : (sig : Signature) (one other : List Term) (ls rs keep : List ℕ) (count : ℕ) → HaveSorts sig one ls → HaveSorts sig other rs → count ≤ length ls + length rs → All (λ (k : ℕ). k < count) keep → All (λ (k : ℕ). k < length one + length other) keep
within_sorts sig one other ls rs keep count hl hr c h = λ k d l.
    let a = sorts_length sig one ls hl in
    let b = sorts_length sig other rs hr in
    let m = h k d l in
    omega arith
