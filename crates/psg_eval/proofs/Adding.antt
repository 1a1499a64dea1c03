-- What is possible with a child in place of a free value is made of what is possible without it and of the child.
use Rattle.std.proofs.Common.{◌≡◌, inl, inr, ℕ, ◌+◌, true, false, cond, ◌||◌, List, [], ◌∷◌, ◌++◌, map, length, refl, ap, ap₂, sym, ◌∙◌, subst, append_assoc, arith, length-append, true≢false}
use Rattle.std.specs.List.{AllByRecursion}
use Rattle.std.proofs.lemmas.List.{length-map}
use Rattle.std.proofs.lemmas.Bool.{cases_Bool, or_cases}
use Rattle.psg_terms.specs.Names.{is_among, has_twice}
use Rattle.psg_terms.specs.Terms.{Term}
use Rattle.psg_terms.specs.Relations.{IsRelation, IsGlued}
use Rattle.psg_grammar.specs.declared.types.Definition.{Definition}
use Rattle.psg_grammar.specs.Fragments.{Fragment}
use Rattle.psg_grammar.specs.Keys.{Key, in_order}
use Rattle.psg_grammar.specs.Regions.{declared_inside, names_inside, names_of}
use Rattle.psg_grammar.specs.Legal.{Entities}
use Rattle.psg_grammar.specs.Open.{Choice, Holds}
use Rattle.psg_grammar.specs.Relations.{IsPossible, IsPossibleInside}
use Rattle.psg_relation.proofs.Relating.{carried}
use Rattle.psg_scope.specs.Headers.{IsKey}
use Rattle.psg_scope.proofs.KeyLists.{in_order-among}
use Rattle.psg_eval.specs.Glues.{outer_names, NextGlue}
use Rattle.psg_eval.proofs.Columns.{front_same, end_same, map_same, map_same_back}
use Rattle.psg_grammar.proofs.MixedEntities.{SameOn, mixed, mixed_entities}
use Rattle.psg_eval.proofs.Frames.{moved, holds_frame}
use Rattle.psg_eval.proofs.Gluing.{Both, glued_relation}
use Rattle.psg_eval.proofs.Inserting.{inserted-among, inserted-whole}
use Rattle.psg_eval.proofs.Replacing.{Replaces, behind, names_more, distinct_apart, distinct_join, choice_with, choice_apart, parts_of, place_of}
use Rattle.psg_terms.proofs.OneRelation.{instance_sorts, sorts_length}

module _ (def : Definition) (t a b : Fragment) (r : Replaces def t a b) (before : ℕ)
    (whole : AllByRecursion IsKey (names_inside def a)) (whole_child : AllByRecursion IsKey (outer_names def t)) where
  abbrev left_keys : List Key
  left_keys = in_order (names_inside def a)

  abbrev made_keys : List Key
  made_keys = in_order (names_inside def b)

  abbrev Glue : List Term → List Term → List Term → Type 0
  Glue = NextGlue before left_keys (names_of def t) made_keys

  -- every row without the child has so many columns
  abbrev pub HasWidth : List Term → Type 0
  HasWidth p = length p ≡ 1 + before + (1 + behind def t r) + length left_keys

  -- the place of the wanted value is told by the width
  place_by_width : (value wanted : Term) (front others : List Term) (g : Key → Term) → length others ≡ behind def t r + 0
      → HasWidth ((value ∷ front ++ wanted ∷ others) ++ map g left_keys) → length front ≡ before
  place_by_width value wanted front others g count width =
      omega (arith, count, width, length-append (value ∷ front ++ wanted ∷ others) (map g left_keys), length-append front (wanted ∷ others), length-map left_keys g)

  pub apart : (c : Choice a) (d : Choice t) (x : List Term) → ((p : List Term) → IsPossibleInside def a c p → HasWidth p)
      → IsPossibleInside def b (choice_with def t r c d) x → Both (IsPossibleInside def a) (IsPossible def t) Glue (c, d) x
  apart c d x widths it =
      let s = parts_of def t d r c it.inside [] it.value it.seen [] it.entities it.holds in
      let g = it.inside in
      let distinct = distinct_apart def t r it.distinct in
      let p : List Term = (it.value ∷ s.front ++ s.wanted ∷ s.others) ++ map g left_keys in
      let possible : IsPossibleInside def a c p = record {
        distinct = distinct.0;
        inside = g;
        entities = it.entities;
        value = it.value;
        seen = s.front ++ s.wanted ∷ s.others;
        holds = s.free;
        columns_are = refl;
      } in
      record {
        p = p;
        p_is = possible;
        q = (s.wanted ∷ s.own) ++ map g (names_of def t);
        q_is = record {
          distinct = distinct.1;
          outside = g;
          entities = it.entities;
          value = s.wanted;
          seen = s.own;
          judged = record { inner = s.inner; entities = s.entities; agree = s.agrees; holds = s.child };
          columns_are = refl;
        };
        glue = record {
          value = it.value;
          seen = s.front;
          wanted = s.wanted;
          others = s.others;
          more = s.own;
          entity = g;
          place = place_by_width it.value s.wanted s.front s.others g s.count (widths p possible);
          left_is = refl;
          right_is = refl;
          made_is = it.columns_are ∙ ap (λ l. (it.value ∷ l) ++ map g made_keys) (s.before_is ∙ sym (append_assoc s.front s.own s.others));
        };
      }

  pub together : (c : Choice a) (d : Choice t) (x : List Term) → ((p : List Term) → IsPossibleInside def a c p → HasWidth p) → has_twice (declared_inside def b) ≡ false
      → Both (IsPossibleInside def a) (IsPossible def t) Glue (c, d) x → IsPossibleInside def b (choice_with def t r c d) x
  together c d x widths once it =
      let gl = it.glue in
      let pp = it.p_is in
      let qp = it.q_is in
      let g1 = pp.inside in
      let g2 = qp.outside in
      let left : (gl.value ∷ gl.seen ++ gl.wanted ∷ gl.others ≡ pp.value ∷ pp.seen) × (map gl.entity left_keys ≡ map g1 left_keys) =
      end_same (gl.value ∷ gl.seen ++ gl.wanted ∷ gl.others) (map gl.entity left_keys) (pp.value ∷ pp.seen) (map g1 left_keys) (length-map left_keys gl.entity ∙ sym (length-map left_keys g1)) (sym gl.left_is ∙ pp.columns_are) in
      let right : (gl.wanted ∷ gl.more ≡ qp.value ∷ qp.seen) × (map gl.entity (names_of def t) ≡ map g2 (names_of def t)) =
      end_same (gl.wanted ∷ gl.more) (map gl.entity (names_of def t)) (qp.value ∷ qp.seen) (map g2 (names_of def t)) (length-map (names_of def t) gl.entity ∙ sym (length-map (names_of def t) g2)) (sym gl.right_is ∙ qp.columns_are) in
      let one_is : (n : Key) → is_among (names_inside def a) n ≡ true → gl.entity n ≡ g1 n = λ n i. map_same_back gl.entity g1 left_keys left.1 n (in_order-among (names_inside def a) n whole ∙ i) in
      let two_is : (n : Key) → is_among (outer_names def t) n ≡ true → gl.entity n ≡ g2 n = λ n i. map_same_back gl.entity g2 (names_of def t) right.1 n (in_order-among (outer_names def t) n whole_child ∙ i) in
      let g : Entities = mixed (names_inside def a) g1 g2 in
      let same1 : SameOn (names_inside def a) g1 g = λ n i. sym (ap (λ b. cond b (g1 n) (g2 n)) i) in
      let same2 : SameOn (outer_names def t) g2 g = λ n i. elim (cases_Bool (is_among (names_inside def a) n)) [
        | inl k ↦ sym (ap (λ b. cond b (g1 n) (g2 n)) k ∙ sym (one_is n k) ∙ two_is n i)
        | inr k ↦ sym (ap (λ b. cond b (g1 n) (g2 n)) k)
      ] in
      let eg = mixed_entities def (names_inside def a) g1 g2 pp.entities qp.entities in
      let m = moved def t g2 g qp.judged.inner eg qp.judged.entities qp.judged.agree same2 in
      let free = holds_frame def a c g1 g [] pp.value pp.seen [] eg same1 pp.holds in
      let child = holds_frame def t d qp.judged.inner m.inside [] qp.value qp.seen [] m.entities m.same qp.judged.holds in
      let s = place_of def t d r c g [] pp.value pp.seen [] free in
      let width : length s.front ≡ before = place_by_width pp.value s.wanted s.front s.others g1 s.count (subst HasWidth (pp.columns_are ∙ ap (λ l. (pp.value ∷ l) ++ map g1 left_keys) s.before_is) (widths it.p pp)) in
      let values : gl.seen ++ gl.wanted ∷ gl.others ≡ s.front ++ s.wanted ∷ s.others = let e = left.0 in let d : gl.seen ++ gl.wanted ∷ gl.others ≡ pp.seen = cc in d ∙ s.before_is in
      let value_is : gl.value ≡ pp.value = let e = left.0 in cc in
      let split : (gl.seen ≡ s.front) × (gl.wanted ∷ gl.others ≡ s.wanted ∷ s.others) = front_same gl.seen (gl.wanted ∷ gl.others) s.front (s.wanted ∷ s.others) (gl.place ∙ sym width) values in
      let wanted_is : qp.value ≡ s.wanted = let e = right.0 in let d = split.1 in cc in
      let others_is : gl.others ≡ s.others = let d = split.1 in cc in
      let more_is : gl.more ≡ qp.seen = let e = right.0 in cc in
      let entity_is : (n : Key) → is_among made_keys n ≡ true → gl.entity n ≡ g n = λ n i.
      elim (cases_Bool (is_among (names_inside def a) n)) [
        | inl k ↦ one_is n k ∙ sym (ap (λ b. cond b (g1 n) (g2 n)) k)
        | inr k ↦ two_is n (child_key n i k) ∙ sym (ap (λ b. cond b (g1 n) (g2 n)) k)
      ] in
      record {
        distinct = distinct_join def t r once pp.distinct qp.distinct;
        inside = g;
        entities = eg;
        value = pp.value;
        seen = s.front ++ (qp.seen ++ s.others);
        holds = s.plug m.inside qp.seen m.entities m.agrees (subst (λ w. Holds def m.inside t d [] w qp.seen []) wanted_is child);
        columns_are = gl.made_is ∙ ap₂ (λ l k. l ++ k)
            (ap₂ (λ v l. v ∷ l) value_is (append_assoc gl.seen gl.more gl.others ∙ ap₂ (λ l k. l ++ k) split.0 (ap₂ (λ l k. l ++ k) more_is others_is)))
            (map_same gl.entity g made_keys entity_is);
      }
    where
      -- a key that is not in the one part is in the other
      child_key : (n : Key) → is_among made_keys n ≡ true → is_among (names_inside def a) n ≡ false → is_among (outer_names def t) n ≡ true
      child_key n i k =
          let more = names_more def t r in
          let all = inserted-whole (outer_names def t) (names_inside def a) (names_inside def b) more whole whole_child in
          let e : (is_among (names_inside def a) n || is_among (outer_names def t) n) ≡ true =
          sym (inserted-among (outer_names def t) (names_inside def a) (names_inside def b) more n) ∙ sym (in_order-among (names_inside def b) n all) ∙ i in
          elim (or_cases (is_among (names_inside def a) n) (is_among (outer_names def t) n) e) [
            | inl j ↦ absurd (true≢false (sym j ∙ k))
            | inr j ↦ j
          ]

  pub added_relation : (ls rs ss : List ℕ) (rows others made : List (List Term)) → length ls ≡ 1 + before + (1 + behind def t r) + length left_keys → has_twice (declared_inside def b) ≡ false
      → IsRelation def.signature ls (IsPossibleInside def a) rows → IsRelation def.signature rs (IsPossible def t) others
      → IsRelation def.signature ss (IsGlued def.signature Glue rows others) made → IsRelation def.signature ss (IsPossibleInside def b) made
  added_relation ls rs ss rows others made width once l k it =
      carried def.signature ss (Both (IsPossibleInside def a) (IsPossible def t) Glue) (IsPossibleInside def b)
      (λ c columns h. (choice_with def t r c.0 c.1, λ x. (together c.0 c.1 x (widths c.0) once, apart c.0 c.1 x (widths c.0))))
      (λ c columns h.
      let (free, child, e) = choice_apart def t r c in (
        (free, child),
        λ x. (
          (λ both. subst (λ z. IsPossibleInside def b z x) e (together free child x (widths free) once both)),
          (λ whole. apart free child x (widths free) (subst (λ z. IsPossibleInside def b z x) (sym e) whole)),
        ),
      ))
      made (glued_relation (IsPossibleInside def a) (IsPossible def t) Glue def.signature ss ls rs rows others made l k it)
    where
      widths : (c : Choice a) (p : List Term) → IsPossibleInside def a c p → HasWidth p
      widths c p possible =
          let (row, there, all) = l.covers c p possible in
          sorts_length def.signature p ls (instance_sorts def.signature row p ls (l.shapes row there).sorted (all p possible)) ∙ width
