use Rattle.std.proofs.Common.{rules, Err, ◌≡◌, ◌+◌, ◌<◌, All, ℕ, List, length, sym, subst, ◌∙◌}
use Rattle.psg_terms.specs.Terms.{Term}
use Rattle.psg_terms.specs.Relations.{IsRelation}
use Rattle.psg_terms.specs.Weight.{PassesLimit}
use Rattle.psg_relation.specs.Choices.{AllHaveSorts, AllWithin, HasWide, IsProjected, picked}
use Rattle.psg_relation.proofs.Making.{maybe_wide}
use Rattle.psg_scope.specs.Headers.{ArePlaces, keys}
use Rattle.psg_scope.specs.declared.header.Header.{Header}
use Rattle.psg_scope.specs.declared.header.NameCol.{NameCol}
use Rattle.psg_eval.specs.Outside.{IsClosed}
use Rattle.psg_eval.specs.Partials.{MatchStep}
use Rattle.psg_eval.proofs.OutsideRows.{columns_at, columns_within, kept_below, own_sorts, own_sorted, closed_rows, closed_partial}
use Rattle.psg_eval.proofs.PartialSorts.{step_fault}
use Rattle.psg_eval.proofs.outside.closed.Goals as goal
use Rattle.psg_eval.proofs.outside.closed.Goals.{After-as_slice, After-as_slice-2}

-- the places of the kept keys
places : (c : After-as_slice) → ArePlaces c.args.inside.now.header.names c.as_slice.result.now (keys c.in_ok-outside.outside.header.names)
places c = subst (λ ks. ArePlaces c.args.inside.now.header.names ks (keys c.in_ok-outside.outside.header.names)) (sym c.as_slice.ensures) c.in_ok-outside.ensures.kept

-- the kept columns
kept : (c : After-as_slice-2) → c.as_slice-2.result.now ≡ columns_at (1 + c.args.inside.now.seen) c.as_slice.result.now
kept c = c.as_slice-2.ensures.value ∙ c.in_ok-keep.ensures

pub kept_columns-requires-clause-within : goal.kept_columns-requires-clause-within
kept_columns-requires-clause-within c =
    subst (λ (l : List NameCol). All (λ k. k < length l) c.as_slice.result.now) (sym c.as_slice-names.ensures)
    (kept_below c.args.definition.now c.requires.0 c.args.inside.now c.requires.1 c.in_ok-outside.outside.header c.as_slice.result.now (places (goal.at.kept_columns-requires-clause-within c).After-as_slice))

pub project-requires-clause-keep : goal.project-requires-clause-keep
project-requires-clause-keep c =
    subst (AllWithin c.args.inside.now.rel) (sym (kept (goal.at.project-requires-clause-keep c).After-as_slice-2))
    (columns_within c.args.definition.now c.requires.0 c.args.inside.now c.requires.1 c.in_ok-outside.outside.header c.as_slice.result.now (places (goal.at.project-requires-clause-keep c).After-as_slice))

pub returns-in_err-rel-clause-step : goal.returns-in_err-rel-clause-step
returns-in_err-rel-clause-step c =
    let def = c.args.definition.now in
    let p = c.args.inside.now in
    let h = c.in_ok-outside.outside.header in
    let ks = c.as_slice.result.now in
    let keep = c.as_slice-2.result.now in
    let at = places (goal.at.returns-in_err-rel-clause-step c).After-as_slice in
    let same = kept (goal.at.returns-in_err-rel-clause-step c).After-as_slice-2 in
    let fault = c.in_err-rel.field-0.0 in
    let e : c.from_residual-in_err-rel.result ≡ Err fault = search rules in
    subst (MatchStep (IsClosed def p)) (sym e)
    (step_fault (IsClosed def p) fault
    (maybe_wide ((sorts : List ℕ) → AllHaveSorts def.signature p.rel sorts → HasWide def.signature (picked sorts keep) (IsProjected def.signature p.rel keep))
    ((header : Header) × (rows : List (List Term)) × IsClosed def p header rows × PassesLimit rows) fault
    (λ wide.
    let (rows, rel, passes) = wide (own_sorts def c.requires.0 p c.requires.1 h ks at) (own_sorted def c.requires.0 p c.requires.1 h ks at) in
    let ss = picked (own_sorts def c.requires.0 p c.requires.1 h ks at) keep in (
      h,
      rows,
      record {
        region = c.in_ok-outside.ensures.region;
        sorts = ss;
        made = closed_rows def c.requires.0 p c.requires.1 h ks at c.requires.1.header ss rows (subst (λ k. IsRelation def.signature ss (IsProjected def.signature p.rel k) rows) same rel);
      },
      passes,
    ))
    c.in_err-rel.ensures.some))

pub returns-clause-step : goal.returns-clause-step
returns-clause-step c =
    let def = c.args.definition.now in
    let p = c.args.inside.now in
    let h = c.in_ok-outside.outside.header in
    let ks = c.as_slice.result.now in
    let keep = c.as_slice-2.result.now in
    let at = places (goal.at.returns-clause-step c).After-as_slice in
    let same = kept (goal.at.returns-clause-step c).After-as_slice-2 in
    let own = own_sorts def c.requires.0 p c.requires.1 h ks at in
    let rel = c.in_ok-rel.ensures.relation own (own_sorted def c.requires.0 p c.requires.1 h ks at) in (
      record {
        region = c.in_ok-outside.ensures.region;
        sorts = picked own keep;
        made = closed_rows def c.requires.0 p c.requires.1 h ks at c.requires.1.header (picked own keep) c.in_ok-rel.rel
            (subst (λ k. IsRelation def.signature (picked own keep) (IsProjected def.signature p.rel k) c.in_ok-rel.rel) same rel);
      },
      c.in_ok-rel.ensures.within,
    )

pub returns-clause-partial : goal.returns-clause-partial
returns-clause-partial c = λ kind part.
    let def = c.args.definition.now in
    let p = c.args.inside.now in
    let h = c.in_ok-outside.outside.header in
    let ks = c.as_slice.result.now in
    let keep = c.as_slice-2.result.now in
    let at = places (goal.at.returns-clause-partial c).After-as_slice in
    let same = kept (goal.at.returns-clause-partial c).After-as_slice-2 in
    let own = own_sorts def kind p part h ks at in
    let rel = c.in_ok-rel.ensures.relation own (own_sorted def kind p part h ks at) in
    closed_partial def kind p part h ks at c.in_ok-outside.ensures.ordered c.in_ok-outside.ensures.outward c.in_ok-rel.rel
    (subst (λ k. AllHaveSorts def.signature c.in_ok-rel.rel (picked own k)) same (λ row i. (rel.shapes row i).sorted))
