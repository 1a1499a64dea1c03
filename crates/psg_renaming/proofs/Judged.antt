-- What holds of a tree under some entities holds of the tree with other names under those of the other names.
use Rattle.std.proofs.Common.{◌≡◌, Bool, true, false, List, [], ◌∷◌, slice_get, refl, ap, ap₂, sym, ◌∙◌, subst}
use Rattle.psg_terms.specs.Names.{is_among}
use Rattle.psg_terms.specs.Terms.{Term}
use Rattle.psg_grammar.specs.declared.types.Definition.{Definition}
use Rattle.psg_grammar.specs.Fragments.{Fragment, hole, ending, cell, operator, with_child, with_name, with_number, with_text, anything, observed}
use Rattle.psg_grammar.specs.Keys.{Key, space_of}
use Rattle.psg_grammar.specs.Lookups.{is_scope, key_at}
use Rattle.psg_grammar.specs.Regions.{declared_inside, unfinished_inside}
use Rattle.psg_grammar.specs.Legal.{Entities, AreEntities, Within}
use Rattle.psg_grammar.specs.Open.{Choice, Holds, Agrees, AgreeOpen, Judged, IsOpen}
use Rattle.psg_renaming.proofs.Permuting.{Permutation}
use Rattle.psg_renaming.proofs.Turned.{turned, new_key, old_key, undo_key, redo_key, space_new, space_old, among_new, among_old, same_scope, key_at-new, declared_new, unfinished_new, distinct_new, distinct_old}

module _ (p : Permutation) where
  -- ---- choices

  abbrev pub choice_to : (f : Fragment) → Choice f → Choice (turned p f)
  choice_to (hole q) c = c
  choice_to (ending l u) c = c
  choice_to (cell l e r) c = (c.0, choice_to e c.1, choice_to r c.2)
  choice_to (operator o) c = c
  choice_to (with_child f t) c = (choice_to f c.0, choice_to t c.1)
  choice_to (with_name f n) c = choice_to f c
  choice_to (with_number f n) c = choice_to f c
  choice_to (with_text f t) c = choice_to f c
  choice_to anything c = c
  choice_to (observed f) c = choice_to f c

  abbrev pub choice_from : (f : Fragment) → Choice (turned p f) → Choice f
  choice_from (hole q) c = c
  choice_from (ending l u) c = c
  choice_from (cell l e r) c = (c.0, choice_from e c.1, choice_from r c.2)
  choice_from (operator o) c = c
  choice_from (with_child f t) c = (choice_from f c.0, choice_from t c.1)
  choice_from (with_name f n) c = choice_from f c
  choice_from (with_number f n) c = choice_from f c
  choice_from (with_text f t) c = choice_from f c
  choice_from anything c = c
  choice_from (observed f) c = choice_from f c

  pub to_from : (f : Fragment) (c : Choice (turned p f)) → choice_to f (choice_from f c) ≡ c
  to_from (hole q) c = refl
  to_from (ending l u) c = refl
  to_from (cell l e r) c = ap₂ (λ a b. (c.0, a, b)) (to_from e c.1) (to_from r c.2)
  to_from (operator o) c = refl
  to_from (with_child f t) c = ap₂ (λ a b. (a, b)) (to_from f c.0) (to_from t c.1)
  to_from (with_name f n) c = to_from f c
  to_from (with_number f n) c = to_from f c
  to_from (with_text f t) c = to_from f c
  to_from anything c = refl
  to_from (observed f) c = to_from f c

  -- ---- entities

  -- the old ones are the new ones of the new keys
  abbrev pub AreOld : Entities → Entities → Type 0
  AreOld old g = (n : Key) → old n ≡ g (new_key p n)

  module _ (def : Definition) where
    pub old_entities : (g : Entities) → AreEntities def g → AreEntities def (λ n. g (new_key p n))
    old_entities g e = record {
      ground = λ n. e.ground (new_key p n);
      sorted = λ n s at. e.sorted (new_key p n) s (ap (slice_get def.spaces) (space_new p n) ∙ at);
    }

    pub new_entities : (g : Entities) → AreEntities def g → AreEntities def (λ n. g (old_key p n))
    new_entities g e = record {
      ground = λ n. e.ground (old_key p n);
      sorted = λ n s at. e.sorted (old_key p n) s (ap (slice_get def.spaces) (space_old p n) ∙ at);
    }

    abbrev Inside : Fragment → Bool → Entities → Entities → Type 0
    Inside t scope = Within scope (AgreeOpen (λ s. unfinished_inside def s t) (declared_inside def t))

    -- entities inside the new tree for those inside the old one
    pub record Entered (t : Fragment) (g inner : Entities) : Type 0 where
      pub inside : Entities
      pub entities : AreEntities def inside
      pub agrees : Agrees def (turned p t) g inside
      pub are_old : AreOld inner inside

    entered_by : (t : Fragment) (g old inner : Entities) (scope : Bool) → AreOld old g → AreEntities def g
        → AreEntities def inner → Inside t scope old inner
        → (inside : Entities) × AreEntities def inside × Inside (turned p t) scope g inside × AreOld inner inside
    entered_by t g old inner true are eg ei agr = (
      (λ n. inner (old_key p n)),
      new_entities inner ei,
      (λ n u d.
          agr (old_key p n)
          (ap (λ s. unfinished_inside def s t) (space_old p n) ∙ sym (unfinished_new p def t (space_of n)) ∙ u)
          (sym (among_old p (declared_inside def t) n) ∙ ap (λ l. is_among l n) (sym (declared_new p def t)) ∙ d)
          ∙ are (old_key p n) ∙ ap g (redo_key p n)),
      λ n. ap inner (sym (undo_key p n)),
    )
    entered_by t g old inner false are eg ei agr = (g, eg, refl, λ n. ap (λ h. h n) agr ∙ are n)

    pub entered : (t : Fragment) (g old inner : Entities) → AreOld old g → AreEntities def g → AreEntities def inner
        → Agrees def t old inner → Entered t g inner
    entered t g old inner are eg ei agr =
        let (inside, ents, agrees, same) = entered_by t g old inner (is_scope def t) are eg ei agr in
        record {
          inside = inside;
          entities = ents;
          agrees = subst (λ b. Inside (turned p t) b g inside)
              (sym (same_scope p def t)) agrees;
          are_old = same;
        }

    -- and the other way
    pub record Left (t : Fragment) (old inner : Entities) : Type 0 where
      pub inside : Entities
      pub entities : AreEntities def inside
      pub agrees : Agrees def t old inside
      pub are_old : AreOld inside inner

    left_by : (t : Fragment) (g old inner : Entities) (scope : Bool) → AreOld old g → AreEntities def old
        → AreEntities def inner → Inside (turned p t) scope g inner
        → (inside : Entities) × AreEntities def inside × Inside t scope old inside × AreOld inside inner
    left_by t g old inner true are eo ei agr = (
      (λ n. inner (new_key p n)),
      old_entities inner ei,
      (λ n u d.
          agr (new_key p n)
          (unfinished_new p def t (space_of (new_key p n)) ∙ ap (λ s. unfinished_inside def s t) (space_new p n)
          ∙ u)
          (ap (λ l. is_among l (new_key p n)) (declared_new p def t) ∙ among_new p (declared_inside def t) n ∙ d)
          ∙ sym (are n)),
      λ n. refl,
    )
    left_by t g old inner false are eo ei agr = (old, eo, refl, λ n. are n ∙ ap (λ h. h (new_key p n)) (sym agr))

    pub left : (t : Fragment) (g old inner : Entities) → AreOld old g → AreEntities def old → AreEntities def inner
        → Agrees def (turned p t) g inner → Left t old inner
    left t g old inner are eo ei agr =
        let (inside, ents, agrees, same) = left_by t g old inner (is_scope def t) are eo ei
        (subst (λ b. Inside (turned p t) b g inner) (same_scope p def t) agr) in
        record { inside = inside; entities = ents; agrees = agrees; are_old = same }

    -- ---- what holds

    pub holds_to : (f : Fragment) (c : Choice f) (g old : Entities) (columns : List Term) (v : Term)
        (before after : List Term) → AreOld old g → AreEntities def g
        → Holds def old f c columns v before after → Holds def g (turned p f) (choice_to f c) columns v before after
    holds_to (hole q) c g old columns v before after are eg h = h
    holds_to (ending l true) c g old columns v before after are eg h = h
    holds_to (ending l false) c g old columns v before after are eg h = h
    holds_to (cell l e r) c g old columns v before after are eg
        (none, first, others, mid, inner, row, ei, agr, he, hr) =
        let m = entered e g old inner are eg ei agr in (
          none,
          first,
          others,
          mid,
          m.inside,
          row,
          m.entities,
          m.agrees,
          holds_to e c.1 m.inside inner [] first before mid m.are_old m.entities he,
          holds_to r c.2 g old [] others mid after are eg hr,
        )
    holds_to (operator o) c g old columns v before after are eg h = h
    holds_to (with_child f t) c g old columns v before after are eg (u, mid, inner, hf, ei, agr, ht) =
        let m = entered t g old inner are eg ei agr in (
          u,
          mid,
          m.inside,
          holds_to f c.0 g old (u ∷ columns) v before mid are eg hf,
          m.entities,
          m.agrees,
          holds_to t c.1 m.inside inner [] u mid after m.are_old m.entities ht,
        )
    holds_to (with_name f n) c g old columns v before after are eg h =
        subst (λ x. Holds def g (turned p f) (choice_to f c) (x ∷ columns) v before after)
        (are (key_at def f n) ∙ ap g (sym (key_at-new p def f n)))
        (holds_to f c g old (old (key_at def f n) ∷ columns) v before after are eg h)
    holds_to (with_number f n) c g old columns v before after are eg h =
        holds_to f c g old columns v before after are eg h
    holds_to (with_text f t) c g old columns v before after are eg h =
        holds_to f c g old columns v before after are eg h
    holds_to anything c g old columns v before after are eg h = h
    holds_to (observed f) c g old columns v before after are eg (mid, e, h) =
        (mid, e, holds_to f c g old columns v mid after are eg h)

    pub holds_from : (f : Fragment) (c : Choice f) (g old : Entities) (columns : List Term) (v : Term)
        (before after : List Term) → AreOld old g → AreEntities def old
        → Holds def g (turned p f) (choice_to f c) columns v before after → Holds def old f c columns v before after
    holds_from (hole q) c g old columns v before after are eo h = h
    holds_from (ending l true) c g old columns v before after are eo h = h
    holds_from (ending l false) c g old columns v before after are eo h = h
    holds_from (cell l e r) c g old columns v before after are eo
        (none, first, others, mid, inner, row, ei, agr, he, hr) =
        let m = left e g old inner are eo ei agr in (
          none,
          first,
          others,
          mid,
          m.inside,
          row,
          m.entities,
          m.agrees,
          holds_from e c.1 inner m.inside [] first before mid m.are_old m.entities he,
          holds_from r c.2 g old [] others mid after are eo hr,
        )
    holds_from (operator o) c g old columns v before after are eo h = h
    holds_from (with_child f t) c g old columns v before after are eo (u, mid, inner, hf, ei, agr, ht) =
        let m = left t g old inner are eo ei agr in (
          u,
          mid,
          m.inside,
          holds_from f c.0 g old (u ∷ columns) v before mid are eo hf,
          m.entities,
          m.agrees,
          holds_from t c.1 inner m.inside [] u mid after m.are_old m.entities ht,
        )
    holds_from (with_name f n) c g old columns v before after are eo h =
        holds_from f c g old (old (key_at def f n) ∷ columns) v before after are eo
        (subst (λ x. Holds def g (turned p f) (choice_to f c) (x ∷ columns) v before after)
        (ap g (key_at-new p def f n) ∙ sym (are (key_at def f n))) h)
    holds_from (with_number f n) c g old columns v before after are eo h =
        holds_from f c g old columns v before after are eo h
    holds_from (with_text f t) c g old columns v before after are eo h =
        holds_from f c g old columns v before after are eo h
    holds_from anything c g old columns v before after are eo h = h
    holds_from (observed f) c g old columns v before after are eo (mid, e, h) =
        (mid, e, holds_from f c g old columns v mid after are eo h)

    -- ---- judgements

    pub judged_to : (f : Fragment) (c : Choice f) (g old : Entities) (v : Term) (seen : List Term) → AreOld old g
        → AreEntities def g
        → Judged def old f c v seen → Judged def g (turned p f) (choice_to f c) v seen
    judged_to f c g old v seen are eg j =
        let m = entered f g old j.inner are eg j.entities j.agree in
        record { inner = m.inside; entities = m.entities; agree = m.agrees; holds = holds_to f c m.inside j.inner [] v seen [] m.are_old m.entities j.holds }

    pub judged_from : (f : Fragment) (c : Choice f) (g old : Entities) (v : Term) (seen : List Term) → AreOld old g
        → AreEntities def old
        → Judged def g (turned p f) (choice_to f c) v seen → Judged def old f c v seen
    judged_from f c g old v seen are eo j =
        let m = left f g old j.inner are eo j.entities j.agree in
        record { inner = m.inside; entities = m.entities; agree = m.agrees; holds = holds_from f c j.inner m.inside [] v seen [] m.are_old m.entities j.holds }

    -- the new tree is open where the old one is
    pub open_to : (f : Fragment) → IsOpen def f → IsOpen def (turned p f)
    open_to f it = record {
      distinct = distinct_new p def f it.distinct;
      choice = choice_to f it.choice;
      outside = λ n. it.outside (old_key p n);
      entities = new_entities it.outside it.entities;
      value = it.value;
      judged =
          judged_to f it.choice (λ n. it.outside (old_key p n)) it.outside it.value []
          (λ n. ap it.outside (sym (undo_key p n)))
          (new_entities it.outside it.entities) it.judged;
    }

    pub open_from : (f : Fragment) → IsOpen def (turned p f) → IsOpen def f
    open_from f it = record {
      distinct = distinct_old p def f it.distinct;
      choice = choice_from f it.choice;
      outside = λ n. it.outside (new_key p n);
      entities = old_entities it.outside it.entities;
      value = it.value;
      judged =
          judged_from f (choice_from f it.choice) it.outside (λ n. it.outside (new_key p n)) it.value [] (λ n. refl)
          (old_entities it.outside it.entities)
          (subst (λ c. Judged def it.outside (turned p f) c it.value []) (sym (to_from f it.choice)) it.judged);
    }
