-- Openness: by the rows of a relation, and of the children of an open tree.
use Rattle.std.proofs.Common.{◌≡◌, Bool, true, false, cond, ◌||◌, List, [], ◌∷◌, ◌++◌, map, refl, sym, ◌∙◌, subst, true≢false}
use Rattle.std.specs.List.{AllByRecursion}
use Rattle.psg_terms.specs.Terms.{Term}
use Rattle.psg_terms.specs.Names.{has_twice}
use Rattle.psg_terms.specs.Relations.{IsIn, first}
use Rattle.psg_grammar.specs.declared.types.Definition.{Definition}
use Rattle.psg_grammar.specs.Fragments.{Fragment, hole, ending, cell, operator, with_child, with_name, with_number, with_text, anything, observed, children_of}
use Rattle.psg_grammar.specs.Keys.{Key}
use Rattle.psg_grammar.specs.Lookups.{is_scope, is_declares, next_item, key_at}
use Rattle.psg_grammar.specs.Legal.{Entities, AreEntities}
use Rattle.psg_grammar.specs.Regions.{declared_inside, names_of, AreDistinct, DistinctBelow}
use Rattle.psg_grammar.specs.Open.{Choice, Holds, IsOpen}
use Rattle.psg_grammar.specs.Relations.{IsPossible, IsRelationOf}
use Rattle.psg_scope.proofs.MergeLaws.{meets, has_twice-append}
use Rattle.psg_cache.proofs.Each.{each_push}
use Rattle.psg_cache.proofs.RealTrees.{IsReal}

neither : (a b c : Bool) → ((a || b) || c) ≡ false → (a ≡ false) × (b ≡ false)
neither false false c e = (refl, refl)
neither false true c e = absurd (true≢false e)
neither true b c e = absurd (true≢false e)

-- no key stands twice in a part of keys that are distinct
once_each : (xs ys : List Key) → has_twice (xs ++ ys) ≡ false → (has_twice xs ≡ false) × (has_twice ys ≡ false)
once_each xs ys e = neither (has_twice xs) (has_twice ys) (meets xs ys) (sym (has_twice-append xs ys) ∙ e)

inside : (scope : Bool) (xs : List Key) → has_twice (cond scope [] xs) ≡ false → AreDistinct scope xs
    → has_twice xs ≡ false
inside true xs e d = d refl
inside false xs e d = e

module _ (def : Definition) where
  -- nothing is observed in such a tree
  pub holds_flat : (f : Fragment) → IsReal f
      → (g : Entities) (c : Choice f) (columns : List Term) (v : Term) (before after : List Term)
      → Holds def g f c columns v before after → before ≡ after
  holds_flat (hole p) real g c columns v before after h = h.1
  holds_flat (ending l true) real g c columns v before after h = h.1
  holds_flat (ending l false) real g c columns v before after h = h.1
  holds_flat (cell l e r) real g c columns v before after (z, one, others, mid, inner, row, are, agree, he, hr) =
      holds_flat e real.0 inner c.1 [] one before mid he ∙ holds_flat r real.1 g c.2 [] others mid after hr
  holds_flat (operator o) real g c columns v before after h = h.0
  holds_flat (with_child f t) real g c columns v before after (u, mid, inner, hf, are, agree, ht) =
      holds_flat f real.0 g c.0 (u ∷ columns) v before mid hf ∙ holds_flat t real.1 inner c.1 [] u mid after ht
  holds_flat (with_name f n) real g c columns v before after h =
      holds_flat f real.0 g c (g (key_at def f n) ∷ columns) v before after h
  holds_flat (with_number f n) real g c columns v before after h = holds_flat f real.0 g c columns v before after h
  holds_flat (with_text f t) real g c columns v before after h = holds_flat f real.0 g c columns v before after h
  holds_flat anything real g c columns v before after h = absurd real
  holds_flat (observed f) real g c columns v before after h = absurd real

  pub holds_unseen : (f : Fragment) → IsReal f
      → (g : Entities) (c : Choice f) (columns : List Term) (v : Term) (before after seen : List Term)
      → Holds def g f c columns v before after → Holds def g f c columns v seen seen
  holds_unseen (hole p) real g c columns v before after seen h = (h.0, refl, h.2)
  holds_unseen (ending l true) real g c columns v before after seen h = (h.0, refl, h.2)
  holds_unseen (ending l false) real g c columns v before after seen h = (h.0, refl, h.2)
  holds_unseen (cell l e r) real g c columns v before after seen (z, one, others, mid, inner, row, are, agree, he, hr) = (
    z,
    one,
    others,
    seen,
    inner,
    row,
    are,
    agree,
    holds_unseen e real.0 inner c.1 [] one before mid seen he,
    holds_unseen r real.1 g c.2 [] others mid after seen hr,
  )
  holds_unseen (operator o) real g c columns v before after seen h = (refl, h.1)
  holds_unseen (with_child f t) real g c columns v before after seen (u, mid, inner, hf, are, agree, ht) = (
    u,
    seen,
    inner,
    holds_unseen f real.0 g c.0 (u ∷ columns) v before mid seen hf,
    are,
    agree,
    holds_unseen t real.1 inner c.1 [] u mid after seen ht,
  )
  holds_unseen (with_name f n) real g c columns v before after seen h =
      holds_unseen f real.0 g c (g (key_at def f n) ∷ columns) v before after seen h
  holds_unseen (with_number f n) real g c columns v before after seen h =
      holds_unseen f real.0 g c columns v before after seen h
  holds_unseen (with_text f t) real g c columns v before after seen h =
      holds_unseen f real.0 g c columns v before after seen h
  holds_unseen anything real g c columns v before after seen h = absurd real
  holds_unseen (observed f) real g c columns v before after seen h = absurd real

  -- the children of a tree that holds are open
  open_below : (f : Fragment) → IsReal f → (g : Entities) → AreEntities def g
      → (c : Choice f) (columns : List Term) (v : Term) (before after : List Term)
      → Holds def g f c columns v before after → has_twice (declared_inside def f) ≡ false → DistinctBelow def f
      → AllByRecursion (IsOpen def) (children_of f)
  open_below (hole p) real g eg c columns v before after h once d = tt
  open_below (ending l u) real g eg c columns v before after h once d = tt
  open_below (cell l e r) real g eg c columns v before after (z, one, others, mid, inner, row, are, agree, he, hr)
      once (de, ae, dr) =
      let parts = once_each (cond (is_scope def e) [] (declared_inside def e)) (declared_inside def r) once in (
        record {
          distinct = (inside (is_scope def e) (declared_inside def e) parts.0 ae, de);
          choice = c.1;
          outside = g;
          entities = eg;
          value = one;
          judged = record {
            inner =
                inner;
            entities = are;
            agree = agree;
            holds = holds_unseen e real.0 inner c.1 [] one before mid [] he;
          };
        },
        open_below r real.1 g eg c.2 [] others mid after hr parts.1 dr,
      )
  open_below (operator o) real g eg c columns v before after h once d = tt
  open_below (with_child f t) real g eg c columns v before after (u, mid, inner, hf, are, agree, ht) once (df, dt, at) =
      let parts = once_each (declared_inside def f) (cond (is_scope def t) [] (declared_inside def t)) once in
      each_push (IsOpen def) (children_of f) t
      (open_below f real.0 g eg c.0 (u ∷ columns) v before mid hf parts.0 df) (record {
        distinct = (inside (is_scope def t) (declared_inside def t) parts.1 at, dt);
        choice = c.1;
        outside = g;
        entities = eg;
        value = u;
        judged = record {
          inner =
              inner;
          entities = are;
          agree = agree;
          holds = holds_unseen t real.1 inner c.1 [] u mid after [] ht;
        };
      })
  open_below (with_name f n) real g eg c columns v before after h once d =
      open_below f real.0 g eg c (g (key_at def f n) ∷ columns) v before after h
      (once_each (declared_inside def f) (cond (is_declares (next_item def f)) (key_at def f n ∷ []) []) once).0 d
  open_below (with_number f n) real g eg c columns v before after h once d =
      open_below f real.0 g eg c columns v before after h once d
  open_below (with_text f t) real g eg c columns v before after h once d =
      open_below f real.0 g eg c columns v before after h once d
  open_below anything real g eg c columns v before after h once d = absurd real
  open_below (observed f) real g eg c columns v before after h once d = absurd real

  -- the children of an open tree are open
  pub children_open : (f : Fragment) → IsReal f → IsOpen def f → AllByRecursion (IsOpen def) (children_of f)
  children_open f real o =
      open_below f real o.judged.inner o.judged.entities o.choice [] o.value [] [] o.judged.holds o.distinct.0
      o.distinct.1

  -- a tree is open just where its relation has a row
  pub open_rows : (f : Fragment) (rows : List (List Term)) → IsRelationOf def f rows → IsOpen def f → rows ≡ [] → ⊥
  open_rows f rows (sorts, rel) o e =
      let columns : List Term = (o.value ∷ []) ++ map o.outside (names_of def f) in
      let possible : IsPossible def f o.choice columns =
      record {
        distinct = o.distinct;
        outside = o.outside;
        entities = o.entities;
        value = o.value;
        seen = [];
        judged = o.judged;
        columns_are = refl;
      } in
      let (row, there, all) = rel.covers o.choice columns possible in
      none row (subst (IsIn row) e there) where
        none : (row : List Term) → IsIn row [] → ⊥
        none row h = elim h [ ]

  pub rows_open : (f : Fragment) → IsReal f → (rows : List (List Term)) → IsRelationOf def f rows → (rows ≡ [] → ⊥)
      → IsOpen def f
  rows_open f real [] (sorts, rel) h = absurd (h refl)
  rows_open f real (row ∷ rows) (sorts, rel) h =
      let shape = rel.shapes row first in
      let (columns, p) = shape.some in
      let j = p.judged in
      record {
        distinct = p.distinct;
        choice = shape.choice;
        outside = p.outside;
        entities = p.entities;
        value = p.value;
        judged = record {
          inner =
              j.inner;
          entities = j.entities;
          agree = j.agree;
          holds =
              holds_unseen f real j.inner shape.choice [] p.value p.seen [] [] j.holds;
        };
      }
