-- The relations of a tree and of the tree with other names pass the limit together.
use Rattle.std.proofs.Common.{◌≡◌, ◌↔◌, ℕ, suc, ◌+◌, true, false, List, [], ◌∷◌, ◌++◌, map, length, refl, ap, ap₂, sym, ◌∙◌, subst, arith}
use Rattle.psg_terms.specs.Terms.{Term}
use Rattle.psg_grammar.specs.declared.types.Definition.{Definition}
use Rattle.psg_grammar.specs.Fragments.{Fragment, hole, ending, cell, operator, with_child, with_name, with_number, with_text, anything, observed}
use Rattle.psg_grammar.specs.Keys.{Key, in_order}
use Rattle.psg_grammar.specs.Lookups.{is_scope, key_at}
use Rattle.psg_grammar.specs.Regions.{declared_inside, unfinished_inside, names_inside, names_of, passing, IsDistinct}
use Rattle.psg_grammar.specs.Legal.{Entities, AreEntities}
use Rattle.psg_grammar.specs.Open.{Choice, Holds, Judged}
use Rattle.psg_grammar.specs.Relations.{IsPossible, IsPossibleInside}
use Rattle.psg_grammar.specs.Sound.{IsSound}
use Rattle.psg_relation.specs.Fewer.{FewerColumns}
use Rattle.psg_renaming.proofs.Permuting.{Permutation}
use Rattle.psg_renaming.proofs.Turned.{turned, new_key, old_key, undo_key, twice_new, passing_of, names_new, distinct_new, distinct_old}
use Rattle.psg_renaming.proofs.Judged.{choice_to, choice_from, to_from, AreOld, old_entities, new_entities, holds_to, holds_from, judged_to, judged_from}
use Rattle.psg_renaming.proofs.Orders.{once_in_order, same_in_order}
use Rattle.psg_relation.specs.Choices.{IsProjected, picked}
use Rattle.psg_renaming.proofs.Picking.{AreAmong, places, shifted}
use Rattle.psg_terms.specs.Relations.{IsRelation}
use Rattle.psg_renaming.proofs.Reordered.{SomePasses, Family, carried, reordered, taken_rows}

-- ---- how many values are observed

abbrev pub seen_count : Fragment → ℕ
seen_count (hole q) = 0
seen_count (ending l u) = 0
seen_count (cell l e r) = seen_count e + seen_count r
seen_count (operator o) = 0
seen_count (with_child f t) = seen_count f + seen_count t
seen_count (with_name f n) = seen_count f
seen_count (with_number f n) = seen_count f
seen_count (with_text f t) = seen_count f
seen_count anything = 1
seen_count (observed f) = seen_count f + 1

module _ (def : Definition) where
  counted : (f : Fragment) (c : Choice f) (g : Entities) (columns : List Term) (v : Term) (before after : List Term)
      → Holds def g f c columns v before after
      → length before ≡ seen_count f + length after
  counted (hole q) c g columns v before after (a, same, b) =
      let e : length before ≡ length after = ap length same in omega (arith, e)
  counted (ending l true) c g columns v before after (a, same, b) =
      let e : length before ≡ length after = ap length same in omega (arith, e)
  counted (ending l false) c g columns v before after (a, same, b) =
      let e : length before ≡ length after = ap length same in omega (arith, e)
  counted (cell l e r) c g columns v before after (none, first, others, mid, inner, row, ei, agr, he, hr) =
      let d = counted e c.1 inner [] first before mid he in
      let k = counted r c.2 g [] others mid after hr in
      omega (arith, d, k)
  counted (operator o) c g columns v before after (same, b) =
      let e : length before ≡ length after = ap length same in omega (arith, e)
  counted (with_child f t) c g columns v before after (u, mid, inner, hf, ei, agr, ht) =
      let d = counted f c.0 g (u ∷ columns) v before mid hf in
      let k = counted t c.1 inner [] u mid after ht in
      omega (arith, d, k)
  counted (with_name f n) c g columns v before after h = counted f c g (g (key_at def f n) ∷ columns) v before after h
  counted (with_number f n) c g columns v before after h = counted f c g columns v before after h
  counted (with_text f t) c g columns v before after h = counted f c g columns v before after h
  counted anything c g columns v before after (none, same) =
      let e : length before ≡ suc (length after) = ap length same in omega (arith, e)
  counted (observed f) c g columns v before after (mid, same, h) =
      let e : length before ≡ suc (length mid) = ap length same in
      let k = counted f c g columns v mid after h in
      omega (arith, e, k)

module _ (p : Permutation) (empty : p.to [] ≡ []) where
  -- the entities of keys under their new names
  map_old : (old g : Entities) → AreOld p old g → (ks : List Key) → map g (map (new_key p) ks) ≡ map old ks
  map_old old g are [] = refl
  map_old old g are (k ∷ ks) = ap₂ (λ x xs. x ∷ xs) (sym (are k)) (map_old old g are ks)

  back_old : (g : Entities) → AreOld p g (λ n. g (old_key p n))
  back_old g n = ap g (sym (undo_key p n))

  module _ (def : Definition) where
    -- the values in front of the entities of the keys, by a judgement of the old tree under the old entities
    pub record IsCore {C : Type 0} (J : C → Entities → Term → List Term → Type 0) (c : C) (front : List Term)
        (g : Entities) : Type 0 where
      pub old : Entities
      pub are_old : AreOld p old g
      pub old_entities : AreEntities def old
      pub entities : AreEntities def g
      pub value : Term
      pub seen : List Term
      pub judged : J c old value seen
      pub front_is : front ≡ value ∷ seen

  -- ---- two families whose judgements are the same, and whose keys are those in order before and after

  module _ (def : Definition) (sound : IsSound def) (fewer : FewerColumns def.signature) (ns : List Key) where
    abbrev before_keys : List Key
    before_keys = map (new_key p) (in_order ns)

    abbrev after_keys : List Key
    after_keys = in_order (map (new_key p) ns)

    up : AreAmong before_keys after_keys
    up k e = sym (same_in_order p empty ns k) ∙ e

    down : AreAmong after_keys before_keys
    down k e = same_in_order p empty ns k ∙ e

    module _ {C D : Type 0} (J : C → Entities → Term → List Term → Type 0) (m : ℕ) (count : (c : C) (g : Entities) (v : Term) (seen : List Term) → J c g v seen → length seen ≡ m)
        (P : C → List Term → Type 0) (Q : D → List Term → Type 0) (to : C → D) (from : D → C)
        (round : (d : D) → to (from d) ≡ d)
        (same_p : (c : C) (x : List Term) → P c x ↔ Family (IsCore def J) before_keys c x)
        (same_q : (c : C) (x : List Term) → Q (to c) x ↔ Family (IsCore def J) after_keys c x) where
      core_count : (c : C) (front : List Term) (g : Entities) → IsCore def J c front g → length front ≡ suc m
      core_count c front g core = ap length core.front_is ∙ ap suc (count c core.old core.value core.seen core.judged)

      abbrev F : List Key → C → List Term → Type 0
      F ks = Family (IsCore def J) ks

      pub both_to : SomePasses def.signature P → SomePasses def.signature Q
      both_to (rows, (sorts, rel), passes) =
          let one = carried def.signature sorts P (F before_keys) (λ c columns h. (c, same_p c))
          (λ c columns h. (c, λ x. (same_p c x).1)) rows rel in
          let (made, (there, two), wide) = reordered def.signature sound.signature (IsCore def J)
          (suc m) core_count fewer before_keys after_keys down up
          (twice_new p (in_order ns) ∙ once_in_order ns) (rows, (sorts, one), passes) in (
            made,
            (
              there,
              carried def.signature there (F after_keys) Q
                  (λ c columns h. (to c, λ x. ((same_q c x).1, (same_q c x).0)))
                  (λ d columns h. (
                    from d,
                    λ x q. (same_q (from d) x).0
                        (subst (λ e. Q e x) (sym (round d)) q),
                  )) made two,
            ),
            wide,
          )

      pub both_from : SomePasses def.signature Q → SomePasses def.signature P
      both_from (rows, (sorts, rel), passes) =
          let one = carried def.signature sorts Q (F after_keys)
          (λ d columns h. (
            from d,
            λ x. (
              λ q. (same_q (from d) x).0 (subst (λ e. Q e x) (sym (round d)) q),
              λ h. subst
                  (λ e. Q e x) (round d) ((same_q (from d) x).1 h),
            ),
          ))
          (λ c columns h. (to c, λ x. (same_q c x).1)) rows rel in
          let (made, (there, two), wide) = reordered def.signature sound.signature (IsCore def J)
          (suc m) core_count fewer after_keys before_keys up down
          (once_in_order (map (new_key p) ns)) (rows, (sorts, one), passes) in (
            made,
            (
              there,
              carried def.signature there (F before_keys) P
                  (λ c columns h. (c, λ x. ((same_p c x).1, (same_p c x).0)))
                  (λ c columns h. (c, λ x. (same_p c x).0)) made two,
            ),
            wide,
          )

      -- where the keys stay the same, so do the rows
      pub kept_rows : before_keys ≡ after_keys → (sorts : List ℕ) (rows : List (List Term))
          → IsRelation def.signature sorts P rows → IsRelation def.signature sorts Q rows
      kept_rows same sorts rows rel =
          let one = carried def.signature sorts P (F before_keys) (λ c columns h. (c, same_p c))
          (λ c columns h. (c, λ x. (same_p c x).1)) rows rel in
          carried def.signature sorts (F after_keys) Q
          (λ c columns h. (to c, λ x. ((same_q c x).1, (same_q c x).0)))
          (λ d columns h. (from d, λ x q. (same_q (from d) x).0 (subst (λ e. Q e x) (sym (round d)) q))) rows
          (subst (λ ks. IsRelation def.signature sorts (F ks) rows) same one)

      abbrev pub old_columns : List ℕ
      old_columns = shifted (suc m) (places after_keys before_keys)

      -- the columns of the old keys have the rows of the old tree
      pub old_rows : (sorts : List ℕ) (rows made : List (List Term)) → IsRelation def.signature sorts Q rows
          → IsRelation def.signature (picked sorts old_columns) (IsProjected def.signature rows old_columns) made
          → IsRelation def.signature (picked sorts old_columns) P made
      old_rows sorts rows made rel projected =
          let one = carried def.signature sorts Q (F after_keys)
          (λ d columns h. (
            from d,
            λ x. (
              λ q. (same_q (from d) x).0 (subst (λ e. Q e x) (sym (round d)) q),
              λ h. subst
                  (λ e. Q e x) (round d) ((same_q (from d) x).1 h),
            ),
          ))
          (λ c columns h. (to c, λ x. (same_q c x).1)) rows rel in
          carried def.signature (picked sorts old_columns) (F before_keys) P
          (λ c columns h. (c, λ x. ((same_p c x).1, (same_p c x).0)))
          (λ c columns h. (c, λ x. (same_p c x).0)) made
          (taken_rows def.signature sound.signature (IsCore def J) (suc m) core_count after_keys before_keys up down
          sorts rows one made projected)

  -- ---- the relation inside

  module _ (def : Definition) (sound : IsSound def) (fewer : FewerColumns def.signature) (f : Fragment) where
    abbrev HoldsInside : Choice f → Entities → Term → List Term → Type 0
    HoldsInside c g v seen = IsDistinct def f × Holds def g f c [] v seen []

    inside_count : (c : Choice f) (g : Entities) (v : Term) (seen : List Term) → HoldsInside c g v seen
        → length seen ≡ seen_count f
    inside_count c g v seen (d, h) = let e = counted def f c g [] v seen [] h in omega (arith, e)

    inside_keys : in_order (names_inside def (turned p f)) ≡ in_order (map (new_key p) (names_inside def f))
    inside_keys = ap in_order (names_new p def f)

    inside_old : (c : Choice f) (x : List Term)
        → IsPossibleInside def f c x ↔ Family (IsCore def HoldsInside)
        (map (new_key p) (in_order (names_inside def f))) c x
    inside_old c x = (
      λ q. (
        q.value ∷ q.seen,
        (λ n. q.inside (old_key p n)),
        record {
          old = q.inside;
          are_old = back_old q.inside;
          old_entities = q.entities;
          entities = new_entities p def q.inside q.entities;
          value = q.value;
          seen = q.seen;
          judged = (q.distinct, q.holds);
          front_is = refl;
        },
        q.columns_are
            ∙ ap (λ l. (q.value ∷ q.seen) ++ l)
            (sym (map_old q.inside (λ n. q.inside (old_key p n)) (back_old q.inside)
            (in_order (names_inside def f)))),
      ),
      λ (front, g, core, e). record {
        distinct = core.judged.0;
        inside = core.old;
        entities = core.old_entities;
        value = core.value;
        seen = core.seen;
        holds = core.judged.1;
        columns_are = e
            ∙ ap₂ (λ a b. a ++ b) core.front_is (map_old core.old g core.are_old (in_order (names_inside def f)));
      },
    )

    inside_new : (c : Choice f) (x : List Term)
        → IsPossibleInside def (turned p f) (choice_to p f c) x ↔ Family (IsCore def HoldsInside)
        (in_order (map (new_key p) (names_inside def f))) c x
    inside_new c x = (
      λ q. (
        q.value ∷ q.seen,
        q.inside,
        record {
          old = λ n. q.inside (new_key p n);
          are_old = λ n. refl;
          old_entities = old_entities p def q.inside q.entities;
          entities = q.entities;
          value = q.value;
          seen = q.seen;
          judged = (
            distinct_old p def f q.distinct,
            holds_from p def f c q.inside
                (λ n. q.inside (new_key p n)) [] q.value q.seen [] (λ n. refl)
                (old_entities p def q.inside q.entities) q.holds,
          );
          front_is = refl;
        },
        q.columns_are ∙ ap (λ l. (q.value ∷ q.seen) ++ map q.inside l) inside_keys,
      ),
      λ (front, g, core, e). record {
        distinct = distinct_new p def f core.judged.0;
        inside = g;
        entities = core.entities;
        value = core.value;
        seen = core.seen;
        holds = holds_to p def f c g core.old [] core.value core.seen [] core.are_old core.entities core.judged.1;
        columns_are = e ∙ ap₂ (λ a l. a ++ map g l) core.front_is (sym inside_keys);
      },
    )

    pub inside_to : SomePasses def.signature (IsPossibleInside def f)
        → SomePasses def.signature (IsPossibleInside def (turned p f))
    inside_to = both_to def sound fewer (names_inside def f) HoldsInside (seen_count f) inside_count
        (IsPossibleInside def f) (IsPossibleInside def (turned p f))
        (choice_to p f) (choice_from p f) (to_from p f) inside_old inside_new

    pub inside_from : SomePasses def.signature (IsPossibleInside def (turned p f))
        → SomePasses def.signature (IsPossibleInside def f)
    inside_from = both_from def sound fewer (names_inside def f) HoldsInside (seen_count f) inside_count
        (IsPossibleInside def f) (IsPossibleInside def (turned p f))
        (choice_to p f) (choice_from p f) (to_from p f) inside_old inside_new

  -- ---- the relation of the whole

  module _ (def : Definition) (sound : IsSound def) (fewer : FewerColumns def.signature) (f : Fragment) where
    abbrev IsJudged : Choice f → Entities → Term → List Term → Type 0
    IsJudged c g v seen = IsDistinct def f × Judged def g f c v seen

    judged_count : (c : Choice f) (g : Entities) (v : Term) (seen : List Term) → IsJudged c g v seen
        → length seen ≡ seen_count f
    judged_count c g v seen (d, h) = let e = counted def f c h.inner [] v seen [] h.holds in omega (arith, e)

    abbrev pub passing_keys : Fragment → List Key
    passing_keys t =
        passing (is_scope def t) (λ s. unfinished_inside def s t) (declared_inside def t) (names_inside def t)

    whole_keys : names_of def (turned p f) ≡ in_order (map (new_key p) (passing_keys f))
    whole_keys = ap in_order (passing_of p def f (names_new p def f))

    whole_old : (c : Choice f) (x : List Term)
        → IsPossible def f c x ↔ Family (IsCore def IsJudged) (map (new_key p) (in_order (passing_keys f))) c x
    whole_old c x = (
      λ q. (
        q.value ∷ q.seen,
        (λ n. q.outside (old_key p n)),
        record {
          old = q.outside;
          are_old = back_old q.outside;
          old_entities = q.entities;
          entities = new_entities p def q.outside q.entities;
          value = q.value;
          seen = q.seen;
          judged = (q.distinct, q.judged);
          front_is = refl;
        },
        q.columns_are
            ∙ ap (λ l. (q.value ∷ q.seen) ++ l)
            (sym (map_old q.outside (λ n. q.outside (old_key p n)) (back_old q.outside)
            (in_order (passing_keys f)))),
      ),
      λ (front, g, core, e). record {
        distinct = core.judged.0;
        outside = core.old;
        entities = core.old_entities;
        value = core.value;
        seen = core.seen;
        judged = core.judged.1;
        columns_are = e
            ∙ ap₂ (λ a b. a ++ b) core.front_is (map_old core.old g core.are_old (in_order (passing_keys f)));
      },
    )

    whole_new : (c : Choice f) (x : List Term)
        → IsPossible def (turned p f) (choice_to p f c) x ↔ Family (IsCore def IsJudged)
        (in_order (map (new_key p) (passing_keys f))) c x
    whole_new c x = (
      λ q. (
        q.value ∷ q.seen,
        q.outside,
        record {
          old = λ n. q.outside (new_key p n);
          are_old = λ n. refl;
          old_entities = old_entities p def q.outside q.entities;
          entities = q.entities;
          value = q.value;
          seen = q.seen;
          judged = (
            distinct_old p def f q.distinct,
            judged_from p def f c q.outside
                (λ n. q.outside (new_key p n)) q.value q.seen (λ n. refl)
                (old_entities p def q.outside q.entities) q.judged,
          );
          front_is = refl;
        },
        q.columns_are ∙ ap (λ l. (q.value ∷ q.seen) ++ map q.outside l) whole_keys,
      ),
      λ (front, g, core, e). record {
        distinct = distinct_new p def f core.judged.0;
        outside = g;
        entities = core.entities;
        value = core.value;
        seen = core.seen;
        judged = judged_to p def f c g core.old core.value core.seen core.are_old core.entities core.judged.1;
        columns_are = e ∙ ap₂ (λ a l. a ++ map g l) core.front_is (sym whole_keys);
      },
    )

    pub whole_to : SomePasses def.signature (IsPossible def f)
        → SomePasses def.signature (IsPossible def (turned p f))
    whole_to = both_to def sound fewer (passing_keys f) IsJudged (seen_count f) judged_count (IsPossible def f)
        (IsPossible def (turned p f))
        (choice_to p f) (choice_from p f) (to_from p f) whole_old whole_new

    pub whole_from : SomePasses def.signature (IsPossible def (turned p f))
        → SomePasses def.signature (IsPossible def f)
    whole_from = both_from def sound fewer (passing_keys f) IsJudged (seen_count f) judged_count (IsPossible def f)
        (IsPossible def (turned p f))
        (choice_to p f) (choice_from p f) (to_from p f) whole_old whole_new

    -- the rows of the tree are those of the tree with other names, where its keys stay the same
    pub whole_kept : map (new_key p) (in_order (passing_keys f)) ≡ in_order (map (new_key p) (passing_keys f))
        → (sorts : List ℕ) (rows : List (List Term)) → IsRelation def.signature sorts (IsPossible def f) rows
        → IsRelation def.signature sorts (IsPossible def (turned p f)) rows
    whole_kept = kept_rows def sound fewer (passing_keys f) IsJudged (seen_count f) judged_count (IsPossible def f)
        (IsPossible def (turned p f))
        (choice_to p f) (choice_from p f) (to_from p f) whole_old whole_new

    abbrev pub whole_columns : List ℕ
    whole_columns = shifted (suc (seen_count f))
        (places (in_order (map (new_key p) (passing_keys f))) (map (new_key p) (in_order (passing_keys f))))

    -- the rows of the tree are columns of those of the tree with other names
    pub whole_taken : (sorts : List ℕ) (rows made : List (List Term))
        → IsRelation def.signature sorts (IsPossible def (turned p f)) rows
        → IsRelation def.signature (picked sorts whole_columns) (IsProjected def.signature rows whole_columns) made
        → IsRelation def.signature (picked sorts whole_columns) (IsPossible def f) made
    whole_taken = old_rows def sound fewer (passing_keys f) IsJudged (seen_count f) judged_count (IsPossible def f)
        (IsPossible def (turned p f))
        (choice_to p f) (choice_from p f) (to_from p f) whole_old whole_new
