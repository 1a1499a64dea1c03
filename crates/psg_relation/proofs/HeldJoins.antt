-- Joins that are instances of rows.
use Rattle.std.proofs.Common.{◌≡◌, ◌⊎◌, ◌↔◌, inl, inr, ℕ, ◌<◌, ◌≤◌, ◌+◌, Bool, true, false, MatchBool, IsTrue, All, List, [], ◌∷◌, ◌++◌, Some, map, slice_get, take, get_or, length, refl, ap, sym, ◌∙◌, subst}
use Rattle.std.proofs.lemmas.Bool.{false≢true}
use Rattle.std.proofs.lemmas.List.{take_all}
use Rattle.psg_terms.specs.Terms.{Term}
use Rattle.psg_terms.specs.Signature.{Signature, HaveSorts}
use Rattle.psg_terms.specs.Sound.{IsSound}
use Rattle.psg_terms.specs.Instances.{substitute, IsInstance, IsGroundInstance, AllGroundInstancesIn}
use Rattle.psg_terms.specs.Relations.{IsIn}
use Rattle.psg_terms.proofs.Separate.{grounding}
use Rattle.psg_terms.proofs.SoundChoices.{choices}
use Rattle.psg_terms.proofs.Exact.{instance_exact}
use Rattle.psg_unify.specs.declared.unwritten.UnwrittenRow.{UnwrittenRow}
use Rattle.psg_unify.specs.Pairs.{Pair as Columns, AreOfEqualSort}
use Rattle.psg_unify.specs.Unwritten.{IsUnwritten}
use Rattle.psg_relation.specs.Choices.{AllHaveSorts, picked}
use Rattle.psg_relation.specs.Joining.{Joins, IsJoinOf, Two, with_each, all_pairs, AreJoined, MayJoin}
use Rattle.psg_relation.specs.Heads.{HeadAt, IsIndexed}
use Rattle.psg_relation.specs.Selecting.{twins}
use Rattle.psg_relation.specs.Sifted.{IsCovered, AreCovered, IsHalved}
use Rattle.psg_relation.specs.Rejoining.{IsHeld, IsEmptyJoin, IsUnheld, AreHeld, MayCompare, MayPair, AreSiftedJoins}
use Rattle.psg_relation.proofs.Members.{in-next, in-at, in-split}
use Rattle.psg_relation.proofs.Selected.{twins-in, in-twins}
use Rattle.psg_relation.proofs.Meeting.{each-in, in-each, pairs-in, in-pairs}
use Rattle.psg_relation.proofs.Indexing.{each-both, met, picked-in}

module _ (sig : Signature) (pairs : List Columns) (keep : List ℕ) where
  -- a row that has what the join has is an instance exactly where the join is one
  module _ (sound : IsSound sig) (kept : List (List Term)) (p : Two) (m : MayCompare sig pairs keep kept p) (row : List Term) (j : IsJoinOf sig pairs keep p.0 p.1 row) where
    exact_row : (k : List Term) → IsIn k kept → IsInstance row k ↔ AllGroundInstancesIn sig row k
    exact_row k i =
        let ss = picked (m.joinable.left_sorts ++ m.joinable.right_sorts) keep in
        instance_exact sig sound k row ss (m.sorted k i) (j.sorted m.joinable.left_sorts m.joinable.right_sorts m.joinable.left_sorted m.joinable.right_sorted) j.ready.written

    pub held_covered : IsHeld sig pairs keep kept p → IsCovered kept row
    held_covered (k, i, h) = (k, i, (exact_row k i).1 (λ x g. h x (j.to x g)))

    pub covered_held : IsCovered kept row → IsHeld sig pairs keep kept p
    covered_held (k, i, h) = (k, i, λ x g. (exact_row k i).0 h x (j.back x g))

    -- the join has a ground instance
    pub join_some : (x : List Term) × Joins sig pairs keep p.0 p.1 x
    join_some =
        let k = choices sig sound in
        let x : List Term = map (substitute (λ s n. k.some s)) row in
        (x, j.to x (λ s n. k.some s, grounding sig k, refl))

    pub row_held : (b : Bool) → (IsTrue b ↔ IsCovered kept row) → MatchBool b (IsEmptyJoin sig pairs keep p ⊎ IsHeld sig pairs keep kept p) (IsUnheld sig pairs keep kept p)
    row_held true h = inr (covered_held (h.0 refl))
    row_held false h = (join_some, λ g. false≢true (h.1 (held_covered g)))

    pub large_held : (b : Bool) → MatchBool b (IsEmptyJoin sig pairs keep p ⊎ IsHeld sig pairs keep kept p) (IsHeld sig pairs keep kept p → ⊥)
        → MatchBool b (IsEmptyJoin sig pairs keep p ⊎ IsHeld sig pairs keep kept p) (IsUnheld sig pairs keep kept p)
    large_held true h = h
    large_held false h = (join_some, h)

  -- a join that is not written out
  pub unwritten_held : (kept : List (List Term)) (row : UnwrittenRow) (i : ℕ) (other : List Term) (b : Bool) → i < length kept → other ≡ get_or kept i other
      → ((left right : List Term) (pairs : List Columns) (keep : List ℕ) → IsUnwritten sig left right pairs keep row → (ls rs : List ℕ) → HaveSorts sig left ls → HaveSorts sig right rs
      → HaveSorts sig other (picked (ls ++ rs) keep) → IsTrue b ↔ ((x : List Term) → Joins sig pairs keep left right x → IsGroundInstance sig other x))
      → (p : Two) → IsUnwritten sig p.0 p.1 pairs keep row → MayCompare sig pairs keep kept p
      → IsTrue b ↔ ((x : List Term) → Joins sig pairs keep p.0 p.1 x → IsGroundInstance sig other x)
  unwritten_held kept row i other b l e h p u m =
      h p.0 p.1 pairs keep u m.joinable.left_sorts m.joinable.right_sorts m.joinable.left_sorted m.joinable.right_sorted (m.sorted other (in-at other kept i l e))

  -- none of some rows and not the next one
  pub unheld_more : (kept : List (List Term)) (p : Two) (i : ℕ) (other : List Term) → i < length kept → other ≡ get_or kept i other → (IsHeld sig pairs keep (take i kept) p → ⊥)
      → (((x : List Term) → Joins sig pairs keep p.0 p.1 x → IsGroundInstance sig other x) → ⊥) → IsHeld sig pairs keep (take (i + 1) kept) p → ⊥
  unheld_more kept p i other l e none not (k, h, all) = elim (in-next k kept i other l e h) [
    | inl a ↦ none (k, a, all)
    | inr same ↦ not (subst (λ r. (x : List Term) → Joins sig pairs keep p.0 p.1 x → IsGroundInstance sig r x) same all)
  ]

  pub unheld_whole : (kept : List (List Term)) (p : Two) (i : ℕ) → length kept ≤ i → (IsHeld sig pairs keep (take i kept) p → ⊥) → IsHeld sig pairs keep kept p → ⊥
  unheld_whole kept p i l none h = none (subst (λ ks. IsHeld sig pairs keep ks p) (sym (take_all i kept l)) h)

  -- what is known of the pairs so far
  abbrev pub SoFar : List (List Term) → List Two → Type 0
  SoFar kept done = (p : Two) → IsIn p done → IsEmptyJoin sig pairs keep p ⊎ IsHeld sig pairs keep kept p

  each_last : (one other : List Term) (right : List (List Term)) (i : ℕ) → i < length right → other ≡ get_or right i other → (p : Two) → IsIn p (with_each one (take (i + 1) right))
      → IsIn p (with_each one (take i right)) ⊎ (p ≡ (one, other))
  each_last one other right i l e p h =
      let both = each-in p one (take (i + 1) right) h in
      elim (in-next p.1 right i other l e both.1) [
        | inl a ↦ inl (subst (λ (q : Two). IsIn q (with_each one (take i right))) (same p one both.0) (in-each one p.1 (take i right) a))
        | inr d ↦ inr (sym (same p one both.0) ∙ ap (λ (y : List Term). (one, y)) d)
      ]
    where
      same : (p : Two) (one : List Term) → p.0 ≡ one → ◌≡◌ {A = Two} (one, p.1) p
      same p one e = ap (λ (y : List Term). (y, p.1)) (sym e)

  pub each_held : (kept : List (List Term)) (one other : List Term) (right : List (List Term)) (i : ℕ) → i < length right → other ≡ get_or right i other
      → SoFar kept (with_each one (take i right)) → IsEmptyJoin sig pairs keep (one, other) ⊎ IsHeld sig pairs keep kept (one, other) → SoFar kept (with_each one (take (i + 1) right))
  each_held kept one other right i l e so h p k = elim (each_last one other right i l e p k) [
    | inl a ↦ so p a
    | inr d ↦ subst (λ (q : Two). IsEmptyJoin sig pairs keep q ⊎ IsHeld sig pairs keep kept q) (sym d) h
  ]

  pub each_whole : (kept : List (List Term)) (one : List Term) (right : List (List Term)) (i : ℕ) → length right ≤ i → SoFar kept (with_each one (take i right)) → SoFar kept (with_each one right)
  each_whole kept one right i l so = subst (λ rs. SoFar kept (with_each one rs)) (take_all i right l) so

  pub each_there : (one other : List Term) (right : List (List Term)) (i : ℕ) → i < length right → other ≡ get_or right i other → IsIn (one, other) (with_each one right)
  each_there one other right i l e = in-each one other right (in-at other right i l e)

  -- one row more of those at places
  pub one_held : (kept : List (List Term)) (one other : List Term) (tried next : List (List Term)) → next ≡ tried ++ other ∷ [] → SoFar kept (with_each one tried)
      → IsEmptyJoin sig pairs keep (one, other) ⊎ IsHeld sig pairs keep kept (one, other) → SoFar kept (with_each one next)
  one_held kept one other tried next e so h p k =
      let both = each-in p one next k in
      elim (in-split p.1 other tried (subst (λ (rows : List (List Term)). IsIn p.1 rows) e both.1)) [
        | inl a ↦ so p (each-both sig pairs keep p one tried both.0 a)
        | inr d ↦ subst (λ (q : Two). IsEmptyJoin sig pairs keep q ⊎ IsHeld sig pairs keep kept q)
            (ap (λ (y : List Term). (y, other)) (sym both.0) ∙ ap (λ (y : List Term). (p.0, y)) (sym d)) h
      ]

  -- rows that can't meet have no join
  pub some_unheld : (kept : List (List Term)) (one : List Term) (right : List (List Term)) (places : List ℕ) → AreHeld false sig pairs keep kept (with_each one (picked right places))
      → AreHeld false sig pairs keep kept (with_each one right)
  some_unheld kept one right places (p, i, u) =
      let both = each-in p one (picked right places) i in
      (p, each-both sig pairs keep p one right both.0 (picked-in right places p.1 both.1), u)

  pub meeting_held : (kept : List (List Term)) (one : List Term) (right : List (List Term)) (first : Columns) (head : ℕ) (free : List ℕ) (at : ℕ → List ℕ) → slice_get pairs 0 ≡ Some first → HeadAt one first.0 head
      → IsIndexed right first.1 (length right) free at → SoFar kept (with_each one (picked right free)) → (b : Bool) → AreHeld b sig pairs keep kept (with_each one (picked right (at head))) → AreHeld b sig pairs keep kept (with_each one right)
  meeting_held kept one right first head free at e h ix so true held = λ p k.
      let both = each-in p one right k in
      elim (met sig pairs keep one right first head free at e h ix p.1 both.1) [
        | inl i ↦ so p (each-both sig pairs keep p one (picked right free) both.0 i)
        | inr rest ↦ elim rest [
          | inl i ↦ held p (each-both sig pairs keep p one (picked right (at head)) both.0 i)
          | inr none ↦ inl (λ x j. none x (subst (λ (z : List Term). Joins sig pairs keep z p.1 x) both.0 j))
        ]
      ]
  meeting_held kept one right first head free at e h ix so false held = some_unheld kept one right (at head) held

  -- one left row more
  pub pairs_held : (kept : List (List Term)) (one : List Term) (left right : List (List Term)) (i : ℕ) → i < length left → one ≡ get_or left i one
      → SoFar kept (all_pairs (take i left) right) → SoFar kept (with_each one right) → SoFar kept (all_pairs (take (i + 1) left) right)
  pairs_held kept one left right i l e so h p k =
      let both = pairs-in p (take (i + 1) left) right k in
      elim (in-next p.0 left i one l e both.0) [
        | inl a ↦ so p (in-pairs p.0 p.1 (take i left) right a both.1)
        | inr d ↦ h p (subst (λ (y : List Term). IsIn p (with_each y right)) d (in-each p.0 p.1 right both.1))
      ]

  pub pairs_whole : (kept : List (List Term)) (left right : List (List Term)) (i : ℕ) → length left ≤ i → SoFar kept (all_pairs (take i left) right) → SoFar kept (all_pairs left right)
  pairs_whole kept left right i l so = subst (λ ls. SoFar kept (all_pairs ls right)) (take_all i left l) so

  pub in_pairs_of : (one : List Term) (left right : List (List Term)) (i : ℕ) → i < length left → one ≡ get_or left i one → (p : Two) → IsIn p (with_each one right) → IsIn p (all_pairs left right)
  in_pairs_of one left right i l e p h =
      let both = each-in p one right h in
      subst (λ (q : Two). IsIn q (all_pairs left right)) (ap (λ (y : List Term). (y, p.1)) (sym both.0)) (in-pairs one p.1 left right (in-at one left i l e) both.1)

  -- rows with themselves
  pub twins_held : (kept : List (List Term)) (row : List Term) (rows : List (List Term)) (i : ℕ) → i < length rows → row ≡ get_or rows i row
      → SoFar kept (twins (take i rows)) → IsEmptyJoin sig pairs keep (row, row) ⊎ IsHeld sig pairs keep kept (row, row) → SoFar kept (twins (take (i + 1) rows))
  twins_held kept row rows i l e so h p k =
      let both = twins-in p (take (i + 1) rows) k in
      elim (in-next p.0 rows i row l e both.0) [
        | inl a ↦ so p (subst (λ (q : Two). IsIn q (twins (take i rows))) (ap (λ (y : List Term). (p.0, y)) both.1) (in-twins p.0 (take i rows) a))
        | inr d ↦ subst (λ (q : Two). IsEmptyJoin sig pairs keep q ⊎ IsHeld sig pairs keep kept q) (twin_is p both.1 d) h
      ]
    where
      twin_is : (p : Two) → p.0 ≡ p.1 → p.0 ≡ row → ◌≡◌ {A = Two} (row, row) p
      twin_is p e d = ap (λ (y : List Term). (y, row)) (sym d) ∙ ap (λ (y : List Term). (p.0, y)) (sym d ∙ e)

  pub twins_whole : (kept rows : List (List Term)) (i : ℕ) → length rows ≤ i → SoFar kept (twins (take i rows)) → SoFar kept (twins rows)
  twins_whole kept rows i l so = subst (λ rs. SoFar kept (twins rs)) (take_all i rows l) so

  pub twin_there : (row : List Term) (rows : List (List Term)) (i : ℕ) → i < length rows → row ≡ get_or rows i row → IsIn (row, row) (twins rows)
  twin_there row rows i l e = in-twins row rows (in-at row rows i l e)

  -- an answer on all joins is one on those that are too large
  pub held_all : (done : List Two) (kept heavy : List (List Term)) → AreSiftedJoins sig pairs keep done kept heavy → (b : Bool) → AreHeld b sig pairs keep kept done → AreCovered b kept heavy
  held_all done kept heavy s true held = λ row i.
      let (p, d, j) = s.joined.from row (s.split.heavies row i).0 in
      elim (held p d) [
        | inl none ↦ (let (x, g) = join_some s.sound kept p (s.compare p d) row j in absurd (none x g))
        | inr h ↦ held_covered s.sound kept p (s.compare p d) row j h
      ]
  held_all done kept heavy s false (p, d, ((x, g), none)) =
      let (m, i, j) = s.joined.to p d x g in
      let uncovered : IsCovered kept m → ⊥ = λ c. none (covered_held s.sound kept p (s.compare p d) m j c) in
      elim (s.split.all m i) [
        | inl a ↦ absurd (uncovered (s.sifted.covers m a))
        | inr b ↦ (m, b, uncovered)
      ]

  -- an answer by cells
  pub by_cells : (kept : List (List Term)) (p : Two) (b : Bool) → IsTrue b ↔ IsHeld sig pairs keep kept p → MatchBool b (IsEmptyJoin sig pairs keep p ⊎ IsHeld sig pairs keep kept p) (IsHeld sig pairs keep kept p → ⊥)
  by_cells kept p true h = inr (h.0 refl)
  by_cells kept p false h = λ g. false≢true (h.1 g)

  -- the joins of pairs have sorts
  pub paired_sorts : (done : List Two) (made : List (List Term)) (m : MayPair sig pairs keep done) → AreJoined sig pairs keep done made → AllHaveSorts sig made (picked (m.left_sorts ++ m.right_sorts) keep)
  paired_sorts done made m a row i =
      let (p, d, j) = a.from row i in
      j.sorted m.left_sorts m.right_sorts (m.lefts p d) (m.rights p d)

  pub sifted_joins : (done : List Two) (made kept heavy : List (List Term)) → IsSound sig → MayPair sig pairs keep done → AreJoined sig pairs keep done made → IsHalved made kept heavy → AreSiftedJoins sig pairs keep done kept heavy
  sifted_joins done made kept heavy sound m a h = record {
    sound = sound;
    made = made;
    light = h.light;
    joined = a;
    split = h.split;
    sifted = h.sifted;
    compare = λ p d. record {
      joinable = record { left_sorts = m.left_sorts; right_sorts = m.right_sorts; left_sorted = m.lefts p d; right_sorted = m.rights p d; equal = m.equal p d };
      within = m.within p d;
      sorted = λ k i. paired_sorts done made m a k (h.split.lights k (h.sifted.among k i)).0;
    };
  }

  pub pairs_may : (left right : List (List Term)) → MayJoin sig left right pairs keep → MayPair sig pairs keep (all_pairs left right)
  pairs_may left right m = record {
    left_sorts = m.left_sorts;
    right_sorts = m.right_sorts;
    lefts = λ p d. m.lefts p.0 (pairs-in p left right d).0;
    rights = λ p d. m.rights p.1 (pairs-in p left right d).1;
    equal = λ p d. m.equal p.0 p.1 (pairs-in p left right d).0 (pairs-in p left right d).1;
    within = λ p d. m.within p.0 p.1 (pairs-in p left right d).0 (pairs-in p left right d).1;
  }

  pub twins_may : (rows : List (List Term)) (ss : List ℕ) → AllHaveSorts sig rows ss → ((row : List Term) → IsIn row rows → All (λ k. k < length row + length row) keep)
      → ((row : List Term) → IsIn row rows → AreOfEqualSort ss ss pairs) → MayPair sig pairs keep (twins rows)
  twins_may rows ss sorted within equal = record {
    left_sorts = ss;
    right_sorts = ss;
    lefts = λ p d. sorted p.0 (twins-in p rows d).0;
    rights = λ p d. sorted p.1 (subst (λ r. IsIn r rows) (twins-in p rows d).1 (twins-in p rows d).0);
    equal = λ p d. equal p.0 (twins-in p rows d).0;
    within = λ p d. subst (λ r. All (λ k. k < length p.0 + length r) keep) (twins-in p rows d).1 (within p.0 (twins-in p rows d).0);
  }
