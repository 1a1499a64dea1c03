use Rattle.std.proofs.Common.{◌≡◌, ◌+◌, ◌∷◌, ◌∙◌, ap, ap₂, List, length, sym, subst, true}
use Rattle.std.specs.Prelude.{Ok, Err}
use Rattle.psg_terms.specs.Relations.{IsIn}
use Rattle.psg_terms.specs.Terms.{Term}
use Rattle.psg_relation.specs.Choices.{AllWithin}
use Rattle.psg_scope.specs.declared.header.Header.{Header}
use Rattle.psg_scope.specs.declared.header.NameCol.{NameCol}
use Rattle.psg_eval.specs.declared.summary.SummaryParts.{SummaryParts}
use Rattle.psg_eval.specs.Climbing.{IsObserved}
use Rattle.psg_eval.specs.Summaries.{IsSummary}
use Rattle.psg_eval.specs.Walks.{run}
use Rattle.psg_eval.proofs.ReportedRows.{columns_within, made_rel, made_wide, observed_err, observed_ok, reported, reported_summary, row_sorts, twice_columns}
use Rattle.psg_eval.proofs.reporting.with_report.Goals as goal

pub project-requires-clause-sorts : goal.project-requires-clause-sorts
project-requires-clause-sorts g c =
    (row_sorts c.args.definition.now c.args.summary.now c.requires.summary c.requires.silent, λ row i. c.requires.summary.sorted row (subst (IsIn row) c.rel.ensures i))

pub project-requires-clause-keep : goal.project-requires-clause-keep
project-requires-clause-keep g c =
    let s = c.args.summary.now in
    let cols : c.as_slice-columns.result.now ≡ twice_columns s =
    c.as_slice-columns.ensures.value ∙ c.in_ok-keep.ensures
    ∙ ap (λ (ns : List NameCol). 0 ∷ run 0 (1 + length ns)) (c.as_slice-names.ensures ∙ ap (λ (h : Header). h.names) c.header-old.ensures) in
    subst (λ (rows : List (List Term)). AllWithin rows c.as_slice-columns.result.now) (sym c.rel.ensures)
    (subst (AllWithin s.rel) (sym cols) (columns_within c.args.definition.now s c.requires.summary c.requires.silent))

pub returns-in-Ok-clause-answer : goal.returns-in-Ok-clause-answer
returns-in-Ok-clause-answer g c = λ t is.
    let def = c.args.definition.now in
    let s = c.args.summary.now in
    let made = c.in-Ok.rel in
    let cols : c.as_slice-columns.result.now ≡ twice_columns s =
    c.as_slice-columns.ensures.value ∙ c.in_ok-keep.ensures
    ∙ ap (λ (ns : List NameCol). 0 ∷ run 0 (1 + length ns)) (c.as_slice-names.ensures ∙ ap (λ (h : Header). h.names) c.header-old.ensures) in
    let e : c.in_ok-made-in-Ok.made ≡ reported def s c.requires.summary c.requires.silent made =
    c.in_ok-made-in-Ok.ensures ∙ ap₂ (λ k (h : Header). record { kind = k; header = h; seen = 1; rel = made }) c.kind.ensures (c.in_ok-header.ensures ∙ c.header-old.ensures) in
    subst (λ (z : SummaryParts). IsObserved def t (Ok z)) (sym e)
    (observed_ok def s c.requires.summary c.requires.silent t is made
    (made_rel def s c.requires.summary c.requires.silent c.rel.result.now c.as_slice-columns.result.now c.rel.ensures cols made c.in-Ok.ensures.relation) c.in-Ok.ensures.within)

pub returns-in-Ok-clause-summary : goal.returns-in-Ok-clause-summary
returns-in-Ok-clause-summary g c =
    let def = c.args.definition.now in
    let s = c.args.summary.now in
    let made = c.in-Ok.rel in
    let cols : c.as_slice-columns.result.now ≡ twice_columns s =
    c.as_slice-columns.ensures.value ∙ c.in_ok-keep.ensures
    ∙ ap (λ (ns : List NameCol). 0 ∷ run 0 (1 + length ns)) (c.as_slice-names.ensures ∙ ap (λ (h : Header). h.names) c.header-old.ensures) in
    let e : c.in_ok-made-in-Ok.made ≡ reported def s c.requires.summary c.requires.silent made =
    c.in_ok-made-in-Ok.ensures ∙ ap₂ (λ k (h : Header). record { kind = k; header = h; seen = 1; rel = made }) c.kind.ensures (c.in_ok-header.ensures ∙ c.header-old.ensures) in
    subst (IsSummary def) (sym e)
    (reported_summary def s c.requires.summary c.requires.silent made
    (made_rel def s c.requires.summary c.requires.silent c.rel.result.now c.as_slice-columns.result.now c.rel.ensures cols made c.in-Ok.ensures.relation))

pub returns-in-Ok-clause-kind : goal.returns-in-Ok-clause-kind
returns-in-Ok-clause-kind g c = ap (λ (z : SummaryParts). z.kind) c.in_ok-made-in-Ok.ensures ∙ c.kind.ensures

pub returns-in-Ok-clause-seen : goal.returns-in-Ok-clause-seen
returns-in-Ok-clause-seen g c = ap (λ (z : SummaryParts). z.seen) c.in_ok-made-in-Ok.ensures

pub returns-clause-answer : goal.returns-clause-answer
returns-clause-answer g c = λ t is.
    let def = c.args.definition.now in
    let s = c.args.summary.now in
    let cols : c.as_slice-columns.result.now ≡ twice_columns s =
    c.as_slice-columns.ensures.value ∙ c.in_ok-keep.ensures
    ∙ ap (λ (ns : List NameCol). 0 ∷ run 0 (1 + length ns)) (c.as_slice-names.ensures ∙ ap (λ (h : Header). h.names) c.header-old.ensures) in
    observed_err def s c.requires.summary c.requires.silent t is c.in-Err.fault c.at_step.result c.at_step.ensures
    (made_wide def s c.requires.summary c.requires.silent c.rel.result.now c.as_slice-columns.result.now c.rel.ensures cols c.in-Err.fault c.in-Err.ensures.some)
