-- What rows make where their own columns agree has a relation.
use Rattle.std.proofs.Common.{◌≡◌, inl, inr, ℕ, ◌+◌, ◌<◌, All, length, List, [], ◌∷◌, ◌++◌, refl, sym, ◌∙◌, ap, ap₂, subst, append_assoc, append-nil}
use Rattle.psg_terms.specs.Instances.{IsGroundInstance}
use Rattle.psg_terms.specs.Relations.{first, IsGlued, IsIn, IsRelation, later}
use Rattle.psg_terms.specs.Relations.{Pair as Choice}
use Rattle.psg_terms.specs.Signature.{HaveSorts, Signature}
use Rattle.psg_terms.specs.Sound.{IsSound}
use Rattle.psg_terms.specs.Terms.{Term}
use Rattle.psg_terms.proofs.OneRelation.{sorts_once}
use Rattle.psg_unify.specs.Pairs.{Pair as Columns, AreJoinable, AreOfEqualSort}
use Rattle.psg_relation.specs.Choices.{Agrees, AllHaveSorts, AllWithin, IsSelected, picked}
use Rattle.psg_relation.specs.Joining.{AreJoined, IsMore, Joins, MayJoin, Two}
use Rattle.psg_relation.specs.Selecting.{diagonal, twins, width_of}
use Rattle.psg_relation.proofs.Existing.{relation_exists}
use Rattle.psg_relation.proofs.Meeting.{joined_none, joined_one}
use Rattle.psg_relation.proofs.Selected.{self_joinable, selected_relation, selected_sorts, within_twice}
use Rattle.psg_relation.proofs.Solving.{join_exists}

alone : {X : Type 0} (x y : X) → IsIn x (y ∷ []) → x ≡ y
alone x y first = refl
alone x y (later i) = elim i [ ]

module _ (sig : Signature) (sound : IsSound sig) (rows : List (List Term)) (pairs : List Columns) (keep ss : List ℕ)
    (all : AllHaveSorts sig rows ss) (equal : AreOfEqualSort ss ss pairs) (within : AllWithin rows keep) where
  abbrev both : List Columns
  both = diagonal 0 (width_of rows) ++ pairs

  -- ---- a row with itself

  module _ (row : List Term) (i : IsIn row rows) where
    abbrev Glued : Choice sig (Agrees both keep) (row ∷ []) (row ∷ []) → List Term → Type 0
    Glued = IsGlued sig (Agrees both keep) (row ∷ []) (row ∷ [])

    joinable : AreJoinable sig row row both
    joinable = self_joinable sig rows ss pairs all equal row i

    lefts : AllHaveSorts sig (row ∷ []) joinable.left_sorts
    lefts r j = subst (λ x. HaveSorts sig x joinable.left_sorts) (sym (alone r row j)) joinable.left_sorted

    rights : AllHaveSorts sig (row ∷ []) joinable.right_sorts
    rights r j = subst (λ x. HaveSorts sig x joinable.right_sorts) (sym (alone r row j)) joinable.right_sorted

    may : MayJoin sig (row ∷ []) (row ∷ []) both keep
    may = record {
      left_sorts = joinable.left_sorts;
      lefts = lefts;
      right_sorts = joinable.right_sorts;
      rights = rights;
      equal = λ one other j k. joinable.equal;
      within = λ one other j k.
          subst (λ x. All (λ n. n < length x + length other) keep) (sym (alone one row j))
          (subst (λ x. All (λ n. n < length row + length x) keep) (sym (alone other row k))
          (within_twice row keep (within row i)));
    }

    from_joins : (c : Choice sig (Agrees both keep) (row ∷ []) (row ∷ [])) (x : List Term)
        → Joins sig both keep row row x → Glued c x
    from_joins c x (full, (l, r, gl, gr, agree, d), e) = record {
      p = l;
      p_is = subst (λ y. IsGroundInstance sig y l) (sym (alone c.one row c.from_left)) gl;
      q = r;
      q_is = subst (λ y. IsGroundInstance sig y r) (sym (alone c.two row c.from_right)) gr;
      glue = (agree, e ∙ ap (λ f. picked f keep) d);
    }

    to_joins : (c : Choice sig (Agrees both keep) (row ∷ []) (row ∷ [])) (x : List Term) → Glued c x
        → Joins sig both keep row row x
    to_joins c x g = (
      g.p ++ g.q,
      (
        g.p,
        g.q,
        subst (λ y. IsGroundInstance sig y g.p) (alone c.one row c.from_left) g.p_is,
        subst (λ y. IsGroundInstance sig y g.q) (alone c.two row c.from_right) g.q_is,
        g.glue.0,
        refl,
      ),
      g.glue.1,
    )

    more_by : (made rel : List (List Term))
        → IsRelation sig (picked (joinable.left_sorts ++ joinable.right_sorts) keep) Glued rel
        → (more : List (List Term)) × IsMore sig both keep row row made more
    more_by made [] r = (
      made,
      inl (
        λ x j.
            let c : Choice sig (Agrees both keep) (row ∷ []) (row ∷ []) = record {
              one = row;
              from_left = first;
              two =
                  row;
              from_right = first;
            } in
            let (m, k, h) = r.covers c x (from_joins c x j) in elim k [ ],
        refl,
      ),
    )
    more_by made (m ∷ ms) r =
        let shape = r.shapes m first in (
          made ++ m ∷ [],
          inr (
            m,
            record {
              ready = record { written = shape.canonical.written; canonical = λ _. shape.canonical };
              to = λ x g. to_joins shape.choice x ((shape.exact x).0 g);
              back = λ x j. (shape.exact x).1 (from_joins shape.choice x j);
              sorted = λ ls rs hl hr.
                  subst (HaveSorts sig m) (ap₂ (λ a b. picked (a ++ b) keep)
                  (sorts_once sig row joinable.left_sorts ls joinable.left_sorted hl)
                  (sorts_once sig row joinable.right_sorts rs joinable.right_sorted hr)) shape.sorted;
            },
            refl,
          ),
        )

    one_more : (made : List (List Term)) → (more : List (List Term)) × IsMore sig both keep row row made more
    one_more made =
        let (rel, r) = join_exists sig sound both keep (row ∷ []) (row ∷ []) may joinable.left_sorts
        joinable.right_sorts lefts rights in
        more_by made rel r

  -- ---- all rows

  joins_from : (done : List Two) (made rest : List (List Term)) → AreJoined sig both keep done made
      → ((row : List Term) → IsIn row rest → IsIn row rows)
      → (made_all : List (List Term)) × AreJoined sig both keep (done ++ twins rest) made_all
  joins_from done made [] a h = (made, subst (λ z. AreJoined sig both keep z made) (sym (append-nil done)) a)
  joins_from done made (row ∷ rest) a h =
      let (more, m) = one_more row (h row first) made in
      let found = joins_from (done ++ (row, row) ∷ []) more rest (joined_one sig both keep done made row row more a m)
      (λ r i. h r (later i)) in (
        found.0,
        subst (λ z. AreJoined sig both keep z found.0) (append_assoc done ((row, row) ∷ [])
            (twins rest)) found.1,
      )

  pub some_selection : (rel : List (List Term)) × IsRelation sig (picked ss keep) (IsSelected sig rows pairs keep) rel
  some_selection =
      let (made, a) = joins_from [] [] rows (joined_none sig both keep) (λ row i. i) in
      let (rel, r) = relation_exists sig sound made (picked ss keep) (selected_sorts sig rows pairs keep ss all within
      made a ss all) in
      (rel, selected_relation sig rows pairs keep ss all within made a (picked ss keep) rel r)
