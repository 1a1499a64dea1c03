use Rattle.std.proofs.Common.{rules, ◌≡◌, ◌∷◌, [], ◌∙◌, List, sym, subst}
use Rattle.std.specs.Prelude.{Ok, Err}
use Rattle.psg_terms.specs.Terms.{Term}
use Rattle.psg_terms.proofs.OneRelation.{sorts_length}
use Rattle.psg_relation.specs.Choices.{AllHaveSorts}
use Rattle.psg_eval.specs.declared.summary.SummaryParts.{SummaryParts}
use Rattle.psg_eval.specs.Frames.{CanClimb}
use Rattle.psg_eval.specs.Summaries.{IsSummary}
use Rattle.psg_focus.specs.Shown.{IsShown}
use Rattle.psg_focus.proofs.PossibleLaws.{possible}
use Rattle.psg_focus.proofs.ShownLaws.{ShowsAll, asked_if, climbed_fault, noted_fault, shown_all}
use Rattle.psg_focus.proofs.relating.relation_at.Goals as goal

pub returns-in_err-seen-clause-shown : goal.returns-in_err-seen-clause-shown
returns-in_err-seen-clause-shown g c = λ f node path stand of.
    let def = c.args.definition.now in
    let fault = c.in_err-seen.field-0.0 in
    let d : c.from_residual.result ≡ Err fault = search rules in
    subst (IsShown def path f) (sym d)
    (noted_fault def c.requires.sound c.args.frames.now c.args.own.now c.with_report-noted.result c.with_report-noted.ensures.answer fault c.in_err-seen.ensures f node path stand of)

pub climb-climbed-requires-clause-own : goal.climb-climbed-requires-clause-own
climb-climbed-requires-clause-own g c =
    asked_if c.with_report-noted.result c.in_ok-seen.seen (IsSummary c.args.definition.now) c.with_report-noted.ensures.summary c.in_ok-seen.ensures

pub climb-climbed-requires-clause-frames : goal.climb-climbed-requires-clause-frames
climb-climbed-requires-clause-frames g c =
    subst (CanClimb c.args.definition.now c.args.frames.now)
    (sym (asked_if c.with_report-noted.result c.in_ok-seen.seen (λ (s : SummaryParts). s.kind ≡ c.args.own.now.kind) c.with_report-noted.ensures.kind c.in_ok-seen.ensures))
    c.requires.frames

pub returns-in_err-whole-clause-shown : goal.returns-in_err-whole-clause-shown
returns-in_err-whole-clause-shown g c = λ f node path stand of.
    let def = c.args.definition.now in
    let fault = c.in_err-whole.field-0.0 in
    let d : c.from_residual-in_err-whole.result ≡ Err fault = search rules in
    subst (IsShown def path f) (sym d)
    (climbed_fault def c.requires.sound c.args.frames.now c.args.own.now c.with_report-noted.result c.climb-climbed.result c.in_ok-seen.seen c.with_report-noted.ensures.answer
    c.in_ok-seen.ensures c.climb-climbed.ensures.answer fault c.in_err-whole.ensures f node path stand of)

pub reported_column-requires-clause-summary : goal.reported_column-requires-clause-summary
reported_column-requires-clause-summary g c =
    asked_if c.climb-climbed.result c.in_ok-whole.whole (IsSummary c.args.definition.now) c.climb-climbed.ensures.summary c.in_ok-whole.ensures

pub reported_column-requires-clause-reported : goal.reported_column-requires-clause-reported
reported_column-requires-clause-reported g c =
    asked_if c.climb-climbed.result c.in_ok-whole.whole (λ (s : SummaryParts). s.seen ≡ c.in_ok-seen.seen.seen) c.climb-climbed.ensures.seen c.in_ok-whole.ensures
    ∙ asked_if c.with_report-noted.result c.in_ok-seen.seen (λ (s : SummaryParts). s.seen ≡ 1) c.with_report-noted.ensures.seen c.in_ok-seen.ensures

pub only_terms-requires : goal.only_terms-requires
only_terms-requires g c = λ row i.
    let (sort, all) = c.in_ok-rel.ensures.sorted in
    sorts_length c.args.definition.now.signature row (sort ∷ [])
    (subst (λ (rows : List (List Term)). AllHaveSorts c.args.definition.now.signature rows (sort ∷ [])) (sym c.rows-rows.ensures.rows) all row i)

pub returns-clause-shown : goal.returns-clause-shown
returns-clause-shown g c =
    shown_all c.args.definition.now c.requires.sound c.args.frames.now c.args.own.now c.with_report-noted.result c.climb-climbed.result c.in_ok-seen.seen c.in_ok-whole.whole c.in_ok-rel.rel
    c.in_ok-terms.terms c.with_report-noted.ensures.answer c.in_ok-seen.ensures c.climb-climbed.ensures.answer c.in_ok-whole.ensures c.in_ok-rel.ensures.seen
    (c.in_ok-terms.ensures ∙ c.rows-rows.ensures.rows)

pub returns-clause-possible : goal.returns-clause-possible
returns-clause-possible g c =
    let def = c.args.definition.now in
    let around = c.args.frames.now in
    let own = c.args.own.now in
    let shows : ShowsAll def c.requires.sound around own (Ok c.in_ok-terms.terms) =
    shown_all def c.requires.sound around own c.with_report-noted.result c.climb-climbed.result c.in_ok-seen.seen c.in_ok-whole.whole c.in_ok-rel.rel
    c.in_ok-terms.terms c.with_report-noted.ensures.answer c.in_ok-seen.ensures c.climb-climbed.ensures.answer c.in_ok-whole.ensures c.in_ok-rel.ensures.seen
    (c.in_ok-terms.ensures ∙ c.rows-rows.ensures.rows) in
    possible def c.requires.sound around own (Ok c.in_ok-terms.terms) shows

pub returns-clause-sorted : goal.returns-clause-sorted
returns-clause-sorted g c =
    let (sort, all) = c.in_ok-rel.ensures.sorted in
    (sort, subst (λ (rows : List (List Term)). AllHaveSorts c.args.definition.now.signature rows (sort ∷ [])) (sym (c.in_ok-terms.ensures ∙ c.rows-rows.ensures.rows)) all)
