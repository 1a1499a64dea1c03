-- A child in place of a free value: keys, regions, choices, and what holds.
use Rattle.std.proofs.Common.{◌≡◌, inl, inr, ℕ, suc, ◌+◌, false, cond, not, ◌&&◌, ◌||◌, List, [], ◌∷◌, ◌++◌, length, refl, ap, ap₂, sym, ◌∙◌, subst, append-nil, arith, true≢false}
use Rattle.std.proofs.lemmas.Bool.{cases_Bool, or_parts}
use Rattle.std.proofs.Math.Bool.{or-false}
use Rattle.psg_terms.specs.Terms.{Term}
use Rattle.psg_terms.specs.Names.{has_twice}
use Rattle.psg_grammar.specs.declared.types.Definition.{Definition}
use Rattle.psg_grammar.specs.Fragments.{Fragment, cell, with_child, with_name, with_number, with_text, anything, top_operator, parts_count}
use Rattle.psg_grammar.specs.Keys.{Key}
use Rattle.psg_grammar.specs.Lookups.{is_scope, next_item, is_declares, key_at}
use Rattle.psg_grammar.specs.Regions.{declared_inside, declared_in, unfinished_inside, names_inside, passing, IsDistinct, DistinctBelow, AreDistinct}
use Rattle.psg_grammar.specs.Legal.{Entities, AreEntities, Within}
use Rattle.psg_grammar.specs.Open.{Choice, Holds, Agrees, AgreeOpen}
use Rattle.psg_scope.proofs.MergeLaws.{has_twice-append}
use Rattle.psg_eval.specs.Glues.{outer_names}
use Rattle.psg_eval.proofs.Inserting.{Inserted, inserted_front, inserted_last, inserted-twice}
use Rattle.psg_grammar.proofs.Observed.{holds_more, own_of}

module _ (def : Definition) (t : Fragment) where
  -- b is a with the tree t in place of the first free value; what is no scope operator may be the rest of a list
  pub data Replaces : Fragment → Fragment → Type 0 where
    here : {f : Fragment} → Replaces (with_child f anything) (with_child f t)
    before_free : {a b : Fragment} → Replaces a b → Replaces (with_child a anything) (with_child b anything)
    before_name : {a b : Fragment} (n : List ℕ) → Replaces a b → Replaces (with_name a n) (with_name b n)
    before_number : {a b : Fragment} (n : ℕ) → Replaces a b → Replaces (with_number a n) (with_number b n)
    before_text : {a b : Fragment} (n : List ℕ) → Replaces a b → Replaces (with_text a n) (with_text b n)
    element : {l : ℕ} → Replaces (cell l anything anything) (cell l t anything)
    rest : {l : ℕ} {e : Fragment} → is_scope def t ≡ false → Replaces (cell l e anything) (cell l e t)

  -- how many free values stand behind
  abbrev pub behind : {a b : Fragment} → Replaces a b → ℕ
  behind here = 0
  behind (before_free r) = suc (behind r)
  behind (before_name n r) = behind r
  behind (before_number n r) = behind r
  behind (before_text n r) = behind r
  behind element = 1
  behind (rest h) = 0

  -- ---- the node itself is the same

  same_top : {a b : Fragment} → Replaces a b → (top_operator a ≡ top_operator b) × (parts_count a ≡ parts_count b)
  same_top here = (refl, refl)
  same_top (before_free r) = let (e, d) = same_top r in (e, ap (λ n. n + 1) d)
  same_top (before_name n r) = let (e, d) = same_top r in (e, ap (λ n. n + 1) d)
  same_top (before_number n r) = let (e, d) = same_top r in (e, ap (λ n. n + 1) d)
  same_top (before_text n r) = let (e, d) = same_top r in (e, ap (λ n. n + 1) d)
  same_top element = (refl, refl)
  same_top (rest h) = (refl, refl)

  same_item : {a b : Fragment} → Replaces a b → next_item def a ≡ next_item def b
  same_item {a} {b} r = let (e, d) = same_top r in cc

  same_key : {a b : Fragment} → Replaces a b → (n : List ℕ) → key_at def a n ≡ key_at def b n
  same_key {a} {b} r n = let e = same_item r in cc

  -- ---- regions

  pub names_more : {a b : Fragment} → Replaces a b → Inserted (outer_names def t) (names_inside def a) (names_inside def b)
  names_more (here {f = f}) = inserted_last (outer_names def t) (names_inside def f)
  names_more (before_free {a = a} {b = b} r) = inserted_front (outer_names def t) (names_inside def a) (names_inside def b) [] (names_more r)
  names_more (before_name {a = a} {b = b} n r) =
      subst (λ k. Inserted (outer_names def t) (names_inside def a ++ key_at def a n ∷ []) (names_inside def b ++ k ∷ [])) (same_key r n)
      (inserted_front (outer_names def t) (names_inside def a) (names_inside def b) (key_at def a n ∷ []) (names_more r))
  names_more (before_number n r) = names_more r
  names_more (before_text n r) = names_more r
  names_more element = inserted_front (outer_names def t) [] (outer_names def t) [] (record { front = []; back = []; without = refl; with_new = sym (append-nil (outer_names def t)) })
  names_more (rest {e = e} h) =
      subst (λ b. Inserted (passing b (λ s. unfinished_inside def s t) (declared_inside def t) (names_inside def t)) (outer_names def e ++ []) (outer_names def e ++ names_inside def t)) (sym h)
      (inserted_last (names_inside def t) (outer_names def e))

  pub declared_more : {a b : Fragment} → Replaces a b → Inserted (declared_in def t) (declared_inside def a) (declared_inside def b)
  declared_more (here {f = f}) = inserted_last (declared_in def t) (declared_inside def f)
  declared_more (before_free {a = a} {b = b} r) = inserted_front (declared_in def t) (declared_inside def a) (declared_inside def b) [] (declared_more r)
  declared_more (before_name {a = a} {b = b} n r) =
      let own : Fragment → List Key = λ f. cond (is_declares (next_item def f)) (key_at def f n ∷ []) [] in
      let same : own a ≡ own b = ap₂ (λ i k. cond (is_declares i) (k ∷ []) []) (same_item r) (same_key r n) in
      subst (λ k. Inserted (declared_in def t) (declared_inside def a ++ own a) (declared_inside def b ++ k)) same
      (inserted_front (declared_in def t) (declared_inside def a) (declared_inside def b) (own a) (declared_more r))
  declared_more (before_number n r) = declared_more r
  declared_more (before_text n r) = declared_more r
  declared_more element = inserted_front (declared_in def t) [] (declared_in def t) [] (record { front = []; back = []; without = refl; with_new = sym (append-nil (declared_in def t)) })
  declared_more (rest {e = e} h) =
      subst (λ b. Inserted (cond b [] (declared_inside def t)) (declared_in def e ++ []) (declared_in def e ++ declared_inside def t)) (sym h)
      (inserted_last (declared_inside def t) (declared_in def e))

  pub unfinished_more : {a b : Fragment} → Replaces a b → (s : ℕ) → unfinished_inside def s b ≡ (unfinished_inside def s a || (not (is_scope def t) && unfinished_inside def s t))
  unfinished_more (here {f = f}) s = ap (λ p. p || (not (is_scope def t) && unfinished_inside def s t)) (sym (or-false (unfinished_inside def s f)))
  unfinished_more (before_free {a = a} {b = b} r) s =
      or-false (unfinished_inside def s b) ∙ unfinished_more r s ∙ ap (λ p. p || (not (is_scope def t) && unfinished_inside def s t)) (sym (or-false (unfinished_inside def s a)))
  unfinished_more (before_name n r) s = unfinished_more r s
  unfinished_more (before_number n r) s = unfinished_more r s
  unfinished_more (before_text n r) s = unfinished_more r s
  unfinished_more element s = or-false (not (is_scope def t) && unfinished_inside def s t)
  unfinished_more (rest {e = e} h) s =
      let own = not (is_scope def e) && unfinished_inside def s e in
      ap₂ (λ p b. p || (not b && unfinished_inside def s t)) (sym (or-false own)) (sym h)

  below_apart : {a b : Fragment} → Replaces a b → DistinctBelow def b → DistinctBelow def a × DistinctBelow def t × AreDistinct (is_scope def t) (declared_inside def t)
  below_apart here (f, d, s) = ((f, tt, λ e. absurd (true≢false (sym e))), d, s)
  below_apart (before_free r) (f, d, s) = let (a, i, j) = below_apart r f in ((a, tt, λ e. absurd (true≢false (sym e))), i, j)
  below_apart (before_name n r) f = below_apart r f
  below_apart (before_number n r) f = below_apart r f
  below_apart (before_text n r) f = below_apart r f
  below_apart element (d, s, _) = ((tt, (λ e. absurd (true≢false (sym e))), tt), d, s)
  below_apart (rest h) (d, s, f) = ((d, s, tt), f, λ e. absurd (true≢false (sym e ∙ h)))

  below_join : {a b : Fragment} → Replaces a b → DistinctBelow def a → DistinctBelow def t → AreDistinct (is_scope def t) (declared_inside def t) → DistinctBelow def b
  below_join here (f, _, _) d s = (f, d, s)
  below_join (before_free r) (f, i, j) d s = (below_join r f d s, i, j)
  below_join (before_name n r) f d s = below_join r f d s
  below_join (before_number n r) f d s = below_join r f d s
  below_join (before_text n r) f d s = below_join r f d s
  below_join element (_, _, _) d s = (d, s, tt)
  below_join (rest h) (f, i, _) d s = (f, i, d)

  pub distinct_apart : {a b : Fragment} → Replaces a b → IsDistinct def b → IsDistinct def a × IsDistinct def t
  distinct_apart {a} {b} r (once, below) =
      let (i, d, s) = below_apart r below in
      let joined : has_twice (declared_inside def a ++ declared_in def t) ≡ false = sym (inserted-twice (declared_in def t) (declared_inside def a) (declared_inside def b) (declared_more r)) ∙ once in
      let parts = or_parts (has_twice (declared_inside def a) || has_twice (declared_in def t)) _ (sym (has_twice-append (declared_inside def a) (declared_in def t)) ∙ joined) in
      let (one, other) = or_parts (has_twice (declared_inside def a)) (has_twice (declared_in def t)) parts.0 in
      let child : has_twice (declared_inside def t) ≡ false = elim (cases_Bool (is_scope def t)) [
        | inl h ↦ s h
        | inr h ↦ subst (λ p. has_twice (cond p [] (declared_inside def t)) ≡ false) h other
      ] in
      ((one, i), (child, d))

  pub distinct_join : {a b : Fragment} → Replaces a b → has_twice (declared_inside def b) ≡ false → IsDistinct def a → IsDistinct def t → IsDistinct def b
  distinct_join r once (_, below) (child, d) = (once, below_join r below d (λ e. child))

  -- ---- choices

  abbrev pub choice_with : {a b : Fragment} → Replaces a b → Choice a → Choice t → Choice b
  choice_with here c d = (c.0, d)
  choice_with (before_free r) c d = (choice_with r c.0 d, tt)
  choice_with (before_name n r) c d = choice_with r c d
  choice_with (before_number n r) c d = choice_with r c d
  choice_with (before_text n r) c d = choice_with r c d
  choice_with element c d = (c.0, d, tt)
  choice_with (rest h) c d = (c.0, c.1, d)

  pub choice_apart : {a b : Fragment} (r : Replaces a b) (c : Choice b) → (free : Choice a) × (child : Choice t) × (choice_with r free child ≡ c)
  choice_apart here c = ((c.0, tt), c.1, refl)
  choice_apart (before_free r) c = let (i, j, e) = choice_apart r c.0 in ((i, tt), j, ap (λ x. (x, tt)) e)
  choice_apart (before_name n r) c = choice_apart r c
  choice_apart (before_number n r) c = choice_apart r c
  choice_apart (before_text n r) c = choice_apart r c
  choice_apart element c = ((c.0, tt, tt), c.1, refl)
  choice_apart (rest h) c = ((c.0, c.1, tt), c.2, refl)

  module _ (d : Choice t) where
    -- The free value stands where the child has its own values: what stands in front of them and what behind.
    pub record Parts {a b : Fragment} (r : Replaces a b) (c : Choice a) (g : Entities) (columns : List Term) (v : Term) (before after : List Term) : Type 0 where
      pub front : List Term
      pub wanted : Term
      pub own : List Term
      pub others : List Term
      pub before_is : before ≡ front ++ (own ++ others)
      pub count : length others ≡ behind r + length after
      pub free : Holds def g a c columns v (front ++ wanted ∷ others) after
      pub inner : Entities
      pub entities : AreEntities def inner
      pub agrees : Agrees def t g inner
      pub child : Holds def inner t d [] wanted own []

    pub parts_of : {a b : Fragment} (r : Replaces a b) (c : Choice a) (g : Entities) (columns : List Term) (v : Term) (before after : List Term) → AreEntities def g
        → Holds def g b (choice_with r c d) columns v before after → Parts r c g columns v before after
    parts_of (here {f = f}) c g columns v before after eg (u, mid, inner, hf, ei, agr, ht) =
        let x = own_of def f c.0 g (u ∷ columns) v before mid hf in
        let y = own_of def t d inner [] u mid after ht in
        record {
          front = x.own;
          wanted = u;
          own = y.own;
          others = after;
          before_is = x.is ∙ ap (λ l. x.own ++ l) y.is;
          count = omega arith;
          free = (u, u ∷ after, g, holds_more def f c.0 g (u ∷ columns) v x.own [] (u ∷ after) x.holds, eg, refl, (refl, refl));
          inner = inner;
          entities = ei;
          agrees = agr;
          child = y.holds;
        }
    parts_of (before_free r) c g columns v before after eg (u, mid, inner, hb, ei, agr, (none, mid_is)) =
        let p = parts_of r c.0 g (u ∷ columns) v before mid eg hb in
        record {
          front = p.front;
          wanted = p.wanted;
          own = p.own;
          others = p.others;
          before_is = p.before_is;
          count = omega (arith, p.count, ap length mid_is);
          free = (u, mid, inner, p.free, ei, agr, (none, mid_is));
          inner = p.inner;
          entities = p.entities;
          agrees = p.agrees;
          child = p.child;
        }
    parts_of (before_name {a = a} {b = b} n r) c g columns v before after eg h =
        let same = same_key r n in
        let p = parts_of r c g (g (key_at def a n) ∷ columns) v before after eg (subst (λ k. Holds def g b (choice_with r c d) (g k ∷ columns) v before after) (sym same) h) in
        record { front = p.front; wanted = p.wanted; own = p.own; others = p.others; before_is = p.before_is; count = p.count; free = p.free; inner = p.inner; entities = p.entities; agrees = p.agrees; child = p.child }
    parts_of (before_number n r) c g columns v before after eg h =
        let p = parts_of r c g columns v before after eg h in
        record { front = p.front; wanted = p.wanted; own = p.own; others = p.others; before_is = p.before_is; count = p.count; free = p.free; inner = p.inner; entities = p.entities; agrees = p.agrees; child = p.child }
    parts_of (before_text n r) c g columns v before after eg h =
        let p = parts_of r c g columns v before after eg h in
        record { front = p.front; wanted = p.wanted; own = p.own; others = p.others; before_is = p.before_is; count = p.count; free = p.free; inner = p.inner; entities = p.entities; agrees = p.agrees; child = p.child }
    parts_of element c g columns v before after eg (none, first, others, mid, inner, row, ei, agr, he, (empty, mid_is)) =
        let y = own_of def t d inner [] first before mid he in
        record {
          front = [];
          wanted = first;
          own = y.own;
          others = mid;
          before_is = y.is;
          count = omega (arith, ap length mid_is);
          free = (none, first, others, mid, g, row, eg, refl, (refl, refl), (empty, mid_is));
          inner = inner;
          entities = ei;
          agrees = agr;
          child = y.holds;
        }
    parts_of (rest {e = e} h) c g columns v before after eg (none, first, others, mid, inner, row, ei, agr, he, hr) =
        let x = own_of def e c.1 inner [] first before mid he in
        let y = own_of def t d g [] others mid after hr in
        record {
          front = x.own;
          wanted = others;
          own = y.own;
          others = after;
          before_is = x.is ∙ ap (λ l. x.own ++ l) y.is;
          count = omega arith;
          free = (none, first, others, others ∷ after, inner, row, ei, agr, holds_more def e c.1 inner [] first x.own [] (others ∷ after) x.holds, (refl, refl));
          inner = g;
          entities = eg;
          agrees = subst (λ b. Within b (AgreeOpen (λ s. unfinished_inside def s t) (declared_inside def t)) g g) (sym h) refl;
          child = y.holds;
        }

    -- The other way: the free value, and what holds with any child that has this value.
    pub record Place {a b : Fragment} (r : Replaces a b) (c : Choice a) (g : Entities) (columns : List Term) (v : Term) (before after : List Term) : Type 0 where
      pub front : List Term
      pub wanted : Term
      pub others : List Term
      pub before_is : before ≡ front ++ wanted ∷ others
      pub count : length others ≡ behind r + length after
      pub plug : (inner : Entities) (own : List Term) → AreEntities def inner → Agrees def t g inner → Holds def inner t d [] wanted own []
          → Holds def g b (choice_with r c d) columns v (front ++ (own ++ others)) after

    pub place_of : {a b : Fragment} (r : Replaces a b) (c : Choice a) (g : Entities) (columns : List Term) (v : Term) (before after : List Term)
        → Holds def g a c columns v before after → Place r c g columns v before after
    place_of (here {f = f}) c g columns v before after (u, mid, inner0, hf, e0, agr0, (none, mid_is)) =
        let x = own_of def f c.0 g (u ∷ columns) v before mid hf in
        record {
          front = x.own;
          wanted = u;
          others = after;
          before_is = x.is ∙ ap (λ l. x.own ++ l) mid_is;
          count = omega arith;
          plug = λ inner own ei agr ht. (u, own ++ after, inner, holds_more def f c.0 g (u ∷ columns) v x.own [] (own ++ after) x.holds, ei, agr, holds_more def t d inner [] u own [] after ht);
        }
    place_of (before_free r) c g columns v before after (w, mid, inner0, ha, e0, agr0, (none, mid_is)) =
        let p = place_of r c.0 g (w ∷ columns) v before mid ha in
        record {
          front = p.front;
          wanted = p.wanted;
          others = p.others;
          before_is = p.before_is;
          count = omega (arith, p.count, ap length mid_is);
          plug = λ inner own ei agr ht. (w, mid, inner0, p.plug inner own ei agr ht, e0, agr0, (none, mid_is));
        }
    place_of (before_name {a = a} {b = b} n r) c g columns v before after h =
        let same = same_key r n in
        let p = place_of r c g (g (key_at def a n) ∷ columns) v before after h in
        record {
          front = p.front;
          wanted = p.wanted;
          others = p.others;
          before_is = p.before_is;
          count = p.count;
          plug = λ inner own ei agr ht. subst (λ k. Holds def g b (choice_with r c d) (g k ∷ columns) v (p.front ++ (own ++ p.others)) after) same (p.plug inner own ei agr ht);
        }
    place_of (before_number n r) c g columns v before after h =
        let p = place_of r c g columns v before after h in record { front = p.front; wanted = p.wanted; others = p.others; before_is = p.before_is; count = p.count; plug = p.plug }
    place_of (before_text n r) c g columns v before after h =
        let p = place_of r c g columns v before after h in record { front = p.front; wanted = p.wanted; others = p.others; before_is = p.before_is; count = p.count; plug = p.plug }
    place_of element c g columns v before after (none, first, others, mid, inner0, row, e0, agr0, (empty, before_is), (bare, mid_is)) =
        record {
          front = [];
          wanted = first;
          others = mid;
          before_is = before_is;
          count = omega (arith, ap length mid_is);
          plug = λ inner own ei agr ht. (none, first, others, mid, inner, row, ei, agr, holds_more def t d inner [] first own [] mid ht, (bare, mid_is));
        }
    place_of (rest {e = e} h) c g columns v before after (none, first, others, mid, inner0, row, e0, agr0, he, (bare, mid_is)) =
        let x = own_of def e c.1 inner0 [] first before mid he in
        record {
          front = x.own;
          wanted = others;
          others = after;
          before_is = x.is ∙ ap (λ l. x.own ++ l) mid_is;
          count = omega arith;
          plug = λ inner own ei agr ht.
              let same : inner ≡ g = subst (λ b. Within b (AgreeOpen (λ s. unfinished_inside def s t) (declared_inside def t)) g inner) h agr in (
                none,
                first,
                others,
                own ++ after,
                inner0,
                row,
                e0,
                agr0,
                holds_more def e c.1 inner0 [] first x.own [] (own ++ after) x.holds,
                holds_more def t d g [] others own [] after (subst (λ i. Holds def i t d [] others own []) same ht),
              );
        }
