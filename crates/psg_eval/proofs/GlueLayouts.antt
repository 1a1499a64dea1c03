-- Rows that agree on the pairs of a layout are glued, and so are the relations of what they make.
use Rattle.std.proofs.Common.{◌≡◌, ℕ, ◌+◌, ◌-◌, ◌<◌, ◌↔◌, List, ◌∷◌, ◌++◌, map, length, refl, ap, ap₂, sym, ◌∙◌, subst, Option, Some, length-append, arith}
use Rattle.std.proofs.lemmas.List.{length-map}
use Rattle.psg_terms.specs.Terms.{Term}
use Rattle.psg_terms.specs.Signature.{Signature}
use Rattle.psg_terms.specs.Instances.{IsGroundInstance}
use Rattle.psg_terms.specs.Relations.{IsIn, IsGlued, IsRelation}
use Rattle.psg_grammar.specs.Keys.{Key}
use Rattle.psg_unify.specs.Pairs.{Pair as Columns, AgreeOn}
use Rattle.psg_relation.specs.Choices.{AllHaveSorts, Agrees, picked}
use Rattle.psg_relation.proofs.Relating.{carried}
use Rattle.psg_scope.specs.Headers.{AreRising}
use Rattle.psg_eval.specs.Glues.{NextGlue}
use Rattle.psg_eval.specs.Walks.{IsLayout}
use Rattle.psg_terms.proofs.OneRelation.{instance_sorts, sorts_length}
use Rattle.psg_eval.proofs.Walking.{Along, IsEntity, IsThere, along_any, along_length, along_map, entities, map_along, matches_agree, picks_picked, walk_back}
use Rattle.psg_eval.proofs.Layouts.{cut, some_first, left_row, right_row, both_rows, layout_pairs, layout_picks, left_in, left_picks, offset_is, right_in, right_picks, wanted_at}

entity_same : (g : Key → Term) (k : Key) (x y : Term) → IsEntity g k x → IsEntity g k y → x ≡ y
entity_same g k x y e d = e ∙ sym d

module _ (s n m : ℕ) (K L M : List Key) (pairs : List Columns) (keep : List ℕ) (l : IsLayout s n m K L M pairs keep) (rising : AreRising M) where
  glue_parts : (v : Term) (seen : List Term) (u : Term) (others P : List Term) (w : Term) (more Q x : List Term)
      → s ≡ length seen → n ≡ length (u ∷ others) → m ≡ length more → length K ≡ length P → length L ≡ length Q
      → Agrees pairs keep (left_row v seen u others P w more Q) (right_row v seen u others P w more Q) x → NextGlue s K L M (left_row v seen u others P w more Q) (right_row v seen u others P w more Q) x
  glue_parts v seen u others P w more Q x es en em ek el (agree, made) =
      let p = left_row v seen u others P w more Q in
      let q = right_row v seen u others P w more Q in
      let row = both_rows v seen u others P w more Q in
      let both = subst (λ ps. AgreeOn ps p q) l.pairs_are agree in
      let same : u ≡ w = (let e : ◌≡◌ {A = Option Term} (Some u) (Some w) = sym (wanted_at v seen u others P w more Q s es) ∙ both.0 in cc) in
      let (E, pe, me, all) = layout_picks v seen u others P w more Q s n m K L M pairs keep l es en em ek el IsThere (along_any K P (sym ek)) (along_any L Q (sym el)) in
      let (g, ge) = entities M E rising (along_length IsThere M E me) in
      let r = walk_back (IsEntity g) (1 + s + n + length K) p q row (left_in v seen u others P w more Q) (right_in v seen u others P w more Q (1 + s + n + length K) (offset_is v seen u others P w more Q s n m K L M pairs keep l es en em ek el)) P Q E l.walk
      both.1 (left_picks v seen u others P w more Q s n (length K) es en ek) (right_picks v seen u others P w more Q m (length L) em el) pe
      (subst (Along (IsEntity g) M) (sym ge) (along_map g M)) in
      record {
        value = v;
        seen = seen;
        wanted = u;
        others = others;
        more = more;
        entity = g;
        place = sym es;
        left_is = ap (λ z. ((v ∷ seen) ++ (u ∷ others)) ++ z) (map_along g K P r.0);
        right_is = ap₂ (λ y z. (y ∷ more) ++ z) (sym same) (map_along g L Q r.1);
        made_is = made ∙ picks_picked row keep ((((v ∷ seen) ++ more) ++ others) ++ E) all ∙ ap (λ z. (((v ∷ seen) ++ more) ++ others) ++ z) ge;
      }

  module _ (p q : List Term) (lp : length p ≡ 1 + s + n + length K) (lq : length q ≡ 1 + m + length L) (some : 0 < n) where
    pub glue_to : (x : List Term) → Agrees pairs keep p q x → NextGlue s K L M p q x
    glue_to x h =
        let (values, P, ep, lv, lk) = cut (1 + s + n) (length K) p lp in
        let (firsts, wanted, ev, lf, lw) = cut (1 + s) n values lv in
        let (v, seen, ef, ls) = some_first s firsts (omega arith) in
        let (u, others, ew, lo) = some_first (n - 1) wanted (omega arith) in
        let (reported, Q, eq, lr, ll) = cut (1 + m) (length L) q lq in
        let (w, more, er, lm) = some_first m reported (omega arith) in
        let is_left : p ≡ left_row v seen u others P w more Q = ep ∙ ap (λ z. z ++ P) (ev ∙ ap₂ (λ a b. a ++ b) ef ew) in
        let is_right : q ≡ right_row v seen u others P w more Q = eq ∙ ap (λ z. z ++ Q) er in
        subst (λ z. NextGlue s K L M z q x) (sym is_left) (subst (λ z. NextGlue s K L M (left_row v seen u others P w more Q) z x) (sym is_right)
        (glue_parts v seen u others P w more Q x (sym ls) (omega arith) (sym lm) (sym lk) (sym ll)
        (subst (λ z. Agrees pairs keep (left_row v seen u others P w more Q) z x) is_right (subst (λ z. Agrees pairs keep z q x) is_left h))))

    pub glue_back : (x : List Term) → NextGlue s K L M p q x → Agrees pairs keep p q x
    glue_back x h =
        let v = h.value in
        let seen = h.seen in
        let u = h.wanted in
        let others = h.others in
        let more = h.more in
        let g = h.entity in
        let P = map g K in
        let Q = map g L in
        let kp = length-map K g in
        let lq' = length-map L g in
        let is_left : p ≡ left_row v seen u others P u more Q = h.left_is in
        let is_right : q ≡ right_row v seen u others P u more Q = h.right_is in
        let place = h.place in
        let wide = ap length is_left in
        let a = length-append ((v ∷ seen) ++ (u ∷ others)) P in
        let b = length-append (v ∷ seen) (u ∷ others) in
        let en : n ≡ length (u ∷ others) = omega arith in
        let wide_right = ap length is_right in
        let c = length-append (u ∷ more) Q in
        let em : m ≡ length more = omega arith in
        let row = both_rows v seen u others P u more Q in
        let (E, pe, me, all) = layout_picks v seen u others P u more Q s n m K L M pairs keep l (sym place) en em (sym kp) (sym lq') (IsEntity g) (along_map g K) (along_map g L) in
        let pairs_match = layout_pairs v seen u others P u more Q s n m K L M pairs keep l (sym place) en em (sym kp) (sym lq') (IsEntity g) (entity_same g) (along_map g K) (along_map g L) refl in
        let whole : x ≡ picked row keep = h.made_is ∙ ap (λ z. (((v ∷ seen) ++ more) ++ others) ++ z) (sym (map_along g M E me)) ∙ sym (picks_picked row keep ((((v ∷ seen) ++ more) ++ others) ++ E) all) in (
          subst (λ z. AgreeOn pairs z q) (sym is_left) (subst (AgreeOn pairs (left_row v seen u others P u more Q)) (sym is_right)
              (matches_agree (left_row v seen u others P u more Q) (right_row v seen u others P u more Q) pairs pairs_match)),
          whole ∙ ap₂ (λ y z. picked (y ++ z) keep) (sym is_left) (sym is_right),
        )

  -- relations of what two relations make
  module _ (sig : Signature) (left right : List (List Term)) (ls rs : List ℕ) (hl : AllHaveSorts sig left ls) (hr : AllHaveSorts sig right rs)
      (nl : length ls ≡ 1 + s + n + length K) (nr : length rs ≡ 1 + m + length L) (some : 0 < n) where
    left_width : (row x : List Term) → IsIn row left → IsGroundInstance sig row x → length x ≡ 1 + s + n + length K
    left_width row x i g = sorts_length sig x ls (instance_sorts sig row x ls (hl row i) g) ∙ nl

    right_width : (row x : List Term) → IsIn row right → IsGroundInstance sig row x → length x ≡ 1 + m + length L
    right_width row x i g = sorts_length sig x rs (instance_sorts sig row x rs (hr row i) g) ∙ nr

    both_ways : (one two : List Term) (i : IsIn one left) (j : IsIn two right) (x : List Term)
        → IsGlued sig (Agrees pairs keep) left right (record { one = one; from_left = i; two = two; from_right = j }) x
        ↔ IsGlued sig (NextGlue s K L M) left right (record { one = one; from_left = i; two = two; from_right = j }) x
    both_ways one two i j x = (
      λ y. record { p = y.p; p_is = y.p_is; q = y.q; q_is = y.q_is; glue = glue_to y.p y.q (left_width one y.p i y.p_is) (right_width two y.q j y.q_is) some x y.glue },
      λ y. record { p = y.p; p_is = y.p_is; q = y.q; q_is = y.q_is; glue = glue_back y.p y.q (left_width one y.p i y.p_is) (right_width two y.q j y.q_is) some x y.glue },
    )

    pub as_glued : (ss : List ℕ) (rows : List (List Term)) → IsRelation sig ss (IsGlued sig (Agrees pairs keep) left right) rows → IsRelation sig ss (IsGlued sig (NextGlue s K L M) left right) rows
    as_glued ss rows = carried sig ss (IsGlued sig (Agrees pairs keep) left right) (IsGlued sig (NextGlue s K L M) left right)
        (λ c x y. (record { one = c.one; from_left = c.from_left; two = c.two; from_right = c.from_right }, λ z. both_ways c.one c.two c.from_left c.from_right z))
        (λ d x y. (record { one = d.one; from_left = d.from_left; two = d.two; from_right = d.from_right }, λ z. both_ways d.one d.two d.from_left d.from_right z)) rows
