-- The steps of an operator by the headers of their regions.
use Rattle.std.proofs.Common.{◌≡◌, ℕ, ◌+◌, ◌-◌, ◌≤◌, ◌&&◌, ◌||◌, not, Bool, true, false, List, [], ◌++◌, length, Some, sym, ◌∙◌, subst}
use Rattle.std.specs.List.{slice_get}
use Rattle.psg_terms.specs.Names.{Name}
use Rattle.psg_terms.specs.Terms.{Term}
use Rattle.psg_terms.specs.Sound.{IsSound as IsSoundSignature}
use Rattle.psg_terms.specs.Relations.{IsRelation, IsGlued}
use Rattle.psg_terms.specs.Weight.{PassesLimit}
use Rattle.psg_grammar.specs.declared.types.Operator.{Operator}
use Rattle.psg_grammar.specs.declared.types.Definition.{Definition}
use Rattle.psg_grammar.specs.Fragments.{Fragment, cell, children_of}
use Rattle.psg_grammar.specs.Keys.{Key, in_order, outward}
use Rattle.psg_grammar.specs.Lookups.{is_scope}
use Rattle.psg_grammar.specs.Regions.{declared_inside, declared_in, names_inside, names_of, unfinished_inside}
use Rattle.psg_grammar.specs.Relations.{IsPossible, IsPossibleInside, IsRelationOf}
use Rattle.psg_grammar.specs.Sound.{IsSound}
use Rattle.psg_grammar.specs.Steps.{first_children, children_count, PassesAt}
use Rattle.psg_relation.specs.Choices.{AllHaveSorts}
use Rattle.psg_scope.specs.Headers.{keys, declared_keys, IsHeader}
use Rattle.psg_scope.specs.declared.header.Header.{Header}
use Rattle.psg_eval.specs.declared.summary.SummaryParts.{SummaryParts}
use Rattle.psg_eval.specs.Stages.{IsInside, IsInsideHeader, IsStep}
use Rattle.psg_eval.specs.Trees.{HasParts, IsNode}
use Rattle.psg_eval.specs.Summaries.{IsHeaderOf, IsSummaryOf}
use Rattle.psg_eval.specs.Glues.{outer_names, NextGlue, CloseGlue, IsCut}
use Rattle.psg_eval.specs.OwnRows.{positions, OwnRow}
use Rattle.psg_eval.proofs.Cells.{cell_element, cell_rest}
use Rattle.psg_eval.proofs.Closing.{closing, whole_relation}
use Rattle.psg_eval.proofs.FirstStep.{own_header, first_step}
use Rattle.psg_eval.proofs.NextChild.{next_child, twice_empty}
use Rattle.psg_eval.proofs.Passing.{step_passes, step_stays}
use Rattle.psg_eval.proofs.RegionSteps.{next_header, element_header, rest_header, all_children, closed_header, open_header}
use Rattle.psg_eval.proofs.Uniqueness.{with_sorts}

-- the header of two regions made one
abbrev pub JoinsHeaders : Header → Header → Header → Type 0
JoinsHeaders left right joint = (names others declared others_declared : List Key) (unfinished others_unfinished : ℕ → Bool)
    → IsHeader names declared unfinished left → IsHeader others others_declared others_unfinished right
    → IsHeader (names ++ others) (declared ++ others_declared) (λ s. unfinished s || others_unfinished s) joint

-- the header of what passes outward
abbrev pub ClosesHeader : Header → Header → Type 0
ClosesHeader inside outside = (names declared : List Key) (unfinished : ℕ → Bool) → IsHeader names declared unfinished inside → IsHeader (outward unfinished declared names) [] (λ _. false) outside

module _ (def : Definition) where
  inside_twice : (f : Fragment) (h : Header) → IsInsideHeader def f h → h.twice ≡ true → IsInside def f h []
  inside_twice f h is twice = record { header = is; sorts = []; relation = twice_empty def f [] (sym is.repeats ∙ twice) }

  module _ (f : Fragment) where
    -- ---- step 0

    module _ (o : ℕ) (op : Operator) (found : slice_get def.operators o ≡ Some op) (names : List Name) (node : IsNode def o names f)
        (h : Header) (header : IsHeader (keys (positions op.items names)) (declared_keys (positions op.items names)) (λ _. false) h) where
      pub first_ok : (ss : List ℕ) (rows : List (List Term)) → IsSound def → h.twice ≡ false → IsRelation def.signature ss (OwnRow def.signature op names) rows → IsStep def f 0 h rows
      first_ok ss rows sound once rel =
          let is = own_header def o op found names f node h header in
          record { header = is; sorts = ss; relation = first_step def o op found names f node ss rows sound (sym is.repeats ∙ once) rel }

      pub first_twice : h.twice ≡ true → IsStep def f 0 h []
      first_twice twice = inside_twice (first_children 0 f) h (own_header def o op found names f node h header) twice

    -- ---- one child more

    module _ (parts : HasParts def f []) (t : Fragment) (s : SummaryParts) (n : ℕ) (at : slice_get (children_of f) n ≡ Some t) (summary : IsSummaryOf def t s)
        (h j : Header) (rows : List (List Term)) (step : IsStep def f n h rows) (join : JoinsHeaders h s.header j) where
      joined_header : IsInsideHeader def (first_children (n + 1) f) j
      joined_header =
          next_header def f t n j parts at
          (join (names_inside def (first_children n f)) (outer_names def t) (declared_inside def (first_children n f)) (declared_in def t)
          (λ x. unfinished_inside def x (first_children n f)) (λ x. not (is_scope def t) && unfinished_inside def x t) step.header summary.header)

      -- the rows have the value, `before` reported values, a wanted value for each child from the n-th one on, and the keys
      pub next_ok : (before : ℕ) (ls ss : List ℕ) (made : List (List Term)) → AllHaveSorts def.signature rows ls
          → length ls ≡ 1 + before + (length (children_of f) - n) + length (keys h.names) → j.twice ≡ false
          → IsRelation def.signature ss (IsGlued def.signature (NextGlue before (keys h.names) (keys s.header.names) (keys j.names)) rows s.rel) made
          → IsStep def f (n + 1) j made
      next_ok before ls ss made sorted width once it =
          let own : keys h.names ≡ in_order (names_inside def (first_children n f)) = step.header.keys_are in
          let others : keys s.header.names ≡ names_of def t = summary.header.keys_are in
          let all : keys j.names ≡ in_order (names_inside def (first_children (n + 1) f)) = joined_header.keys_are in
          let P = IsPossibleInside def (first_children n f) in
          record {
            header = joined_header;
            sorts = ss;
            relation = next_child def f t n before ls summary.rows.0 ss rows s.rel made parts at step.header.whole summary.header.whole
                (subst (λ l. length ls ≡ 1 + before + (length (children_of f) - n) + length l) own width) (sym joined_header.repeats ∙ once)
                (with_sorts def.signature P step.sorts ls rows step.relation sorted) summary.rows.1
                (subst (λ l. IsRelation def.signature ss (IsGlued def.signature (NextGlue before l (names_of def t) (in_order (names_inside def (first_children (n + 1) f)))) rows s.rel) made) own
                (subst (λ l. IsRelation def.signature ss (IsGlued def.signature (NextGlue before (keys h.names) l (in_order (names_inside def (first_children (n + 1) f)))) rows s.rel) made) others
                (subst (λ l. IsRelation def.signature ss (IsGlued def.signature (NextGlue before (keys h.names) (keys s.header.names) l) rows s.rel) made) all it)));
          }

      pub next_twice : j.twice ≡ true → IsStep def f (n + 1) j []
      next_twice twice = inside_twice (first_children (n + 1) f) j joined_header twice

    -- ---- which step passes

    pub step_wide : (n : ℕ) (h : Header) (rows : List (List Term)) → n ≤ children_count f → IsStep def f n h rows → PassesLimit rows → PassesAt def f n
    step_wide n h rows le step passes = step_passes def f n step.sorts rows le step.relation passes

    pub step_light : IsSoundSignature def.signature → (n : ℕ) (h : Header) (rows : List (List Term)) → n ≤ children_count f → IsStep def f n h rows → (PassesLimit rows → ⊥) → PassesAt def f n → ⊥
    step_light sound n h rows le step light = step_stays def f sound n step.sorts rows le step.relation light

    -- ---- the whole

    pub whole_inside : (h : Header) (rows : List (List Term)) → HasParts def f [] → IsStep def f (children_count f) h rows → IsInside def f h rows
    whole_inside h rows parts step = subst (λ x. IsInside def x h rows) (all_children def f parts) step

    pub open_ok : (h : Header) (rows : List (List Term)) → is_scope def f ≡ false → IsInside def f h rows → IsHeaderOf def f h × IsRelationOf def f rows
    open_ok h rows scope is = (open_header def f h scope is.header, (is.sorts, whole_relation def f is.sorts rows scope is.relation))

    module _ (scope : is_scope def f ≡ true) (h c : Header) (rows : List (List Term)) (is : IsInside def f h rows) (close : ClosesHeader h c) where
      pub closed_whole : IsHeaderOf def f c
      closed_whole = closed_header def f c scope (close (names_inside def f) (declared_inside def f) (λ s. unfinished_inside def s f) is.header)

      pub close_ok : (ss : List ℕ) (made : List (List Term)) → IsRelation def.signature ss (IsCut def.signature (CloseGlue (keys h.names) (keys c.names)) rows) made
          → IsRelation def.signature ss (IsPossible def f) made
      close_ok ss made it =
          closing def f is.sorts ss rows made scope is.header.whole is.relation
          (subst (λ l. IsRelation def.signature ss (IsCut def.signature (CloseGlue l (names_of def f)) rows) made) is.header.keys_are
          (subst (λ l. IsRelation def.signature ss (IsCut def.signature (CloseGlue (keys h.names) l) rows) made) closed_whole.keys_are it))

  -- ---- a cell

  module _ (l : ℕ) (e r : Fragment) where
    module _ (s : SummaryParts) (summary : IsSummaryOf def e s) where
      pub element_ok : (ls fs ss : List ℕ) (rows made : List (List Term)) → AllHaveSorts def.signature rows ls → length ls ≡ 3
          → IsRelation def.signature fs (IsPossibleInside def (first_children 0 (cell l e r))) rows → s.header.twice ≡ false
          → IsRelation def.signature ss (IsGlued def.signature (NextGlue 0 [] (keys s.header.names) (keys s.header.names)) rows s.rel) made
          → IsStep def (cell l e r) 1 s.header made
      element_ok ls fs ss rows made sorted width rel once it =
          let is = element_header def l e r s.header summary.header in
          record {
            header = is;
            sorts = ss;
            relation = cell_element def l e r ls summary.rows.0 ss rows s.rel made summary.header.whole width (sym is.repeats ∙ once)
                (with_sorts def.signature (IsPossibleInside def (first_children 0 (cell l e r))) fs ls rows rel sorted) summary.rows.1
                (subst (λ k. IsRelation def.signature ss (IsGlued def.signature (NextGlue 0 [] k (in_order (names_inside def (first_children 1 (cell l e r))))) rows s.rel) made) summary.header.keys_are
                (subst (λ k. IsRelation def.signature ss (IsGlued def.signature (NextGlue 0 [] (keys s.header.names) k) rows s.rel) made) is.keys_are it));
          }

      pub element_twice : s.header.twice ≡ true → IsStep def (cell l e r) 1 s.header []
      element_twice twice = inside_twice (first_children 1 (cell l e r)) s.header (element_header def l e r s.header summary.header) twice

    module _ (s : SummaryParts) (summary : IsSummaryOf def r s) (scope : is_scope def r ≡ false) (h j : Header) (rows : List (List Term)) (step : IsStep def (cell l e r) 1 h rows) (join : JoinsHeaders h s.header j) where
      cell_header : IsInsideHeader def (cell l e r) j
      cell_header =
          rest_header def l e r j scope
          (join (names_inside def (first_children 1 (cell l e r))) (outer_names def r) (declared_inside def (first_children 1 (cell l e r))) (declared_in def r)
          (λ x. unfinished_inside def x (first_children 1 (cell l e r))) (λ x. not (is_scope def r) && unfinished_inside def x r) step.header summary.header)

      -- `before` is how many values the element reports
      pub rest_ok : (before : ℕ) (ls ss : List ℕ) (made : List (List Term)) → AllHaveSorts def.signature rows ls → length ls ≡ 1 + before + 1 + length (keys h.names) → j.twice ≡ false
          → IsRelation def.signature ss (IsGlued def.signature (NextGlue before (keys h.names) (keys s.header.names) (keys j.names)) rows s.rel) made
          → IsInside def (cell l e r) j made
      rest_ok before ls ss made sorted width once it =
          let own : keys h.names ≡ in_order (names_inside def (first_children 1 (cell l e r))) = step.header.keys_are in
          let others : keys s.header.names ≡ names_of def r = summary.header.keys_are in
          record {
            header = cell_header;
            sorts = ss;
            relation = cell_rest def l e r before ls summary.rows.0 ss rows s.rel made scope step.header.whole summary.header.whole
                (subst (λ k. length ls ≡ 1 + before + 1 + length k) own width) (sym cell_header.repeats ∙ once)
                (with_sorts def.signature (IsPossibleInside def (first_children 1 (cell l e r))) step.sorts ls rows step.relation sorted) summary.rows.1
                (subst (λ k. IsRelation def.signature ss (IsGlued def.signature (NextGlue before k (names_of def r) (in_order (names_inside def (cell l e r)))) rows s.rel) made) own
                (subst (λ k. IsRelation def.signature ss (IsGlued def.signature (NextGlue before (keys h.names) k (in_order (names_inside def (cell l e r)))) rows s.rel) made) others
                (subst (λ k. IsRelation def.signature ss (IsGlued def.signature (NextGlue before (keys h.names) (keys s.header.names) k) rows s.rel) made) cell_header.keys_are it)));
          }

      pub rest_twice : j.twice ≡ true → IsInside def (cell l e r) j []
      rest_twice twice = inside_twice (cell l e r) j cell_header twice
