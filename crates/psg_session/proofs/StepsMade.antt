-- The steps of a node can be made, whether or not they are within the limit.
use Rattle.std.proofs.Common.{◌≡◌, ◌+◌, ◌-◌, Bool, true, false, List, [], ◌∷◌, ◌++◌, map, length, refl, sym, ◌∙◌, true≢false, arith}
use Rattle.psg_terms.specs.Names.{Name}
use Rattle.psg_terms.specs.Relations.{IsRelation}
use Rattle.psg_grammar.specs.declared.types.Kind.{Kind}
use Rattle.psg_grammar.specs.declared.types.Kind.TheVariants as kinds
use Rattle.psg_grammar.specs.declared.types.Operator.{Operator}
use Rattle.psg_grammar.specs.declared.types.Definition.{Definition}
use Rattle.psg_grammar.specs.Sound.{IsOperator, IsSound}
use Rattle.psg_relation.specs.Choices.{all_picked, AllHaveSorts, IsProjected, picked}
use Rattle.psg_relation.proofs.Columns.{all_sorted, projected}
use Rattle.psg_relation.proofs.Existing.{relation_exists}
use Rattle.psg_relation.proofs.Solving.{join_exists}
use Rattle.psg_eval.specs.declared.summary.SummaryParts.{SummaryParts}
use Rattle.psg_eval.specs.Outside.{IsClosed}
use Rattle.psg_eval.specs.Own.{IsOwnStep, name_columns, slot_columns}
use Rattle.psg_eval.specs.OwnRows.{positions, whole_row}
use Rattle.psg_eval.specs.Partials.{IsAdded, IsPartial}
use Rattle.psg_eval.specs.Summaries.{are_names, IsSummary, slot_kinds}
use Rattle.psg_eval.proofs.ItemSteps.{columns_many, names_counted}
use Rattle.psg_eval.proofs.OutsideRows.{closed_partial, closed_rows, columns, own_sorted as all_sorts, own_sorts}
use Rattle.psg_eval.proofs.PartialSorts.{as_next, empty_partial, left_sorted, left_sorts, may_join, next_partial, right_sorted, right_sorts}
use Rattle.psg_session.proofs.Heads.{Joint, some_joint, some_outer}
use Rattle.psg_session.proofs.Parts.{Partial}
use Rattle.psg_session.proofs.OwnChoices.{AreOwn, kept, own_equal, own_partial, own_sorted, own_within, row_sorts, selected_relation}
use Rattle.psg_session.proofs.Selection.{some_selection}
use Rattle.psg_session.proofs.Walked.{PlainKeys, some_keys, some_layout}

module _ (def : Definition) (sound : IsSound def) where
  -- ---- one child more

  pub record Added (kind : Kind) (more : List Kind) (p : Partial def) (s : SummaryParts) : Type 0 where
    pub next : Partial def
    pub added : IsAdded def p s next.header next.rel
    pub partial : IsPartial def kind more next
    pub seen : next.seen ≡ p.seen + s.seen

  pub some_added : (kind : Kind) (more : List Kind) (p : Partial def) (s : SummaryParts) → IsPartial def kind (s.kind ∷ more) p
      → IsSummary def s → Added kind more p s
  some_added kind more p s part sum = by (j.header.twice) refl where
    j : Joint p.header s.header
    j = some_joint p.header s.header part.header sum.header

    wanted : p.wanted - 1 + 1 ≡ p.wanted
    wanted = let m = part.many in omega (arith, m)

    by : (b : Bool) → j.header.twice ≡ b → Added kind more p s
    by true e = record {
      next = record { header = j.header; seen = p.seen + s.seen; wanted = p.wanted - 1; rel = [] };
      added = record { region = j.region; none = λ h. refl; made = λ once. absurd (true≢false (sym e ∙ once)) };
      partial = empty_partial def kind more p s j.header part sum j.ordered j.union (p.wanted - 1) wanted
          (record { header = j.header; seen = p.seen + s.seen; wanted = p.wanted - 1; rel = [] }) refl refl refl refl;
      seen = refl;
    }
    by false e =
        let (pairs, keep, l) = some_layout p.seen p.wanted s.seen p.header.names s.header.names j.header.names j.merged
        in
        let ls = left_sorts def kind more p s j.header pairs keep part sum l in
        let rs = right_sorts def kind more p s j.header pairs keep part sum l in
        let (rel, r) = join_exists def.signature sound.signature pairs keep p.rel s.rel
        (may_join def kind more p s j.header pairs keep part sum l) ls rs
        (left_sorted def kind more p s j.header pairs keep part sum l) (right_sorted def kind more p s j.header pairs
        keep part sum l) in
        record {
          next = record { header = j.header; seen = p.seen + s.seen; wanted = p.wanted - 1; rel = rel };
          added = record {
            region = j.region;
            none = λ h. absurd (true≢false (sym h ∙ e));
            made = λ once. (
              picked (ls ++ rs) keep,
              as_next def kind more p s j.header pairs keep part sum l j.ordered
                  (picked (ls ++ rs) keep) rel r,
            );
          };
          partial = next_partial def kind more p s j.header pairs keep part sum l j.ordered (p.wanted - 1) wanted rel
              (λ row i. (r.shapes row i).sorted)
              (record { header = j.header; seen = p.seen + s.seen; wanted = p.wanted - 1; rel = rel }) refl refl refl
              refl;
          seen = refl;
        }

  -- ---- what stands outside of a scope operator sees

  pub record Closed (kind : Kind) (p : Partial def) : Type 0 where
    pub next : Partial def
    pub closed : IsClosed def p next.header next.rel
    pub partial : IsPartial def kind [] next
    pub seen : next.seen ≡ p.seen

  pub some_closed : (kind : Kind) (p : Partial def) → IsPartial def kind [] p → Closed kind p
  some_closed kind p part =
      let o = some_outer p.header part.header in
      let ss = own_sorts def kind p part o.header o.kept o.places in
      let keep = columns def kind p part o.header o.kept o.places in
      let sorted : AllHaveSorts def.signature p.rel ss = all_sorts def kind p part o.header o.kept o.places in
      let (rel, made) = relation_exists def.signature sound.signature (all_picked p.rel keep) (picked ss keep)
      (all_sorted def.signature p.rel keep ss sorted) in
      let r : IsRelation def.signature (picked ss keep) (IsProjected def.signature p.rel keep) rel =
      projected def.signature p.rel keep (picked ss keep) rel made in
      record {
        next = record { header = o.header; seen = p.seen; wanted = 0; rel = rel };
        closed = record {
          region = o.region;
          sorts = picked ss keep;
          made = closed_rows def kind p part o.header o.kept o.places part.header (picked ss keep) rel r;
        };
        partial = closed_partial def kind p part o.header o.kept o.places o.ordered o.passes rel (λ row i. (r.shapes row
            i).sorted);
        seen = refl;
      }

  -- ---- an operator without children

  pub record Begun (op : Operator) (names : List Name) : Type 0 where
    pub next : Partial def
    pub own : IsOwnStep def op names next.header next.rel
    pub partial : IsPartial def (kinds.Phylum op.phylum) (slot_kinds def op.items) next
    pub seen : next.seen ≡ 0

  pub some_begun : (op : Operator) (names : List Name) → IsOperator def op
      → length (are_names def op.items) ≡ length names
      → Begun op names
  some_begun op names shape fits = by (ks.header.twice) refl where
    ks : PlainKeys (positions op.items names) (name_columns 1 op.items)
    ks = some_keys (positions op.items names) (name_columns 1 op.items)
        (columns_many op.items names 1 (sym (names_counted def op.items) ∙ fits))

    are : AreOwn def op names (slot_columns 1 op.items) (record {
      header = ks.header;
      columns = ks.columns;
      pairs =
          ks.pairs;
    })
    are = record { fits = fits; slots_are = refl; region = ks.region; ordered = ks.ordered; columns = ks.own }

    by : (b : Bool) → ks.header.twice ≡ b → Begun op names
    by true e = record {
      next = record { header = ks.header; seen = 0; wanted = length (slot_columns 1 op.items); rel = [] };
      own = record { region = ks.region; none = λ h. refl; made = λ once. absurd (true≢false (sym e ∙ once)) };
      partial = own_partial def op names (slot_columns 1 op.items) (record {
        header = ks.header;
        columns = ks.columns;
        pairs = ks.pairs;
      }) shape are [] (λ row i. elim i [ ])
          (record { header = ks.header; seen = 0; wanted = length (slot_columns 1 op.items); rel = [] }) refl refl refl
          refl;
      seen = refl;
    }
    by false e =
        let ss = row_sorts def op names (slot_columns 1 op.items) (record {
          header = ks.header;
          columns = ks.columns;
          pairs = ks.pairs;
        }) shape are in
        let keep = kept def op names (slot_columns 1 op.items) (record {
          header = ks.header;
          columns = ks.columns;
          pairs = ks.pairs;
        }) shape are in
        let (rel, r) = some_selection def.signature sound.signature (map whole_row op.rows) ks.pairs keep ss
        (own_sorted def op names (slot_columns 1 op.items) (record {
          header = ks.header;
          columns = ks.columns;
          pairs =
              ks.pairs;
        }) shape are) (own_equal def op names (slot_columns 1 op.items)
        (record { header = ks.header; columns = ks.columns; pairs = ks.pairs }) shape are)
        (own_within def op names (slot_columns 1 op.items) (record {
          header = ks.header;
          columns = ks.columns;
          pairs = ks.pairs;
        }) shape are) in
        record {
          next = record { header = ks.header; seen = 0; wanted = length (slot_columns 1 op.items); rel = rel };
          own = record {
            region = ks.region;
            none = λ h. absurd (true≢false (sym h ∙ e));
            made = λ once. (
              picked ss keep,
              selected_relation def op names (slot_columns 1 op.items)
                  (record { header = ks.header; columns = ks.columns; pairs = ks.pairs }) shape are (picked ss keep) rel
                  r,
            );
          };
          partial = own_partial def op names (slot_columns 1 op.items) (record {
            header = ks.header;
            columns =
                ks.columns;
            pairs = ks.pairs;
          }) shape are rel (λ row i. (r.shapes row i).sorted)
              (record { header = ks.header; seen = 0; wanted = length (slot_columns 1 op.items); rel = rel }) refl refl
              refl refl;
          seen = refl;
        }
