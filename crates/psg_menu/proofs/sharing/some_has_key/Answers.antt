use Rattle.std.proofs.Common.{◌∙◌, Bool, refl, ap, sym, arith}
use Rattle.psg_eval.specs.declared.summary.SummaryParts.{SummaryParts}
use Rattle.psg_menu.specs.Sharing.{has_key}
use Rattle.psg_menu.proofs.Looking.{any_end, any_found, any_passed}
use Rattle.psg_menu.proofs.sharing.some_has_key.Goals as goal

pub loop-place-init : goal.loop-place-init
loop-place-init c = refl

pub returns-then-has_key : goal.returns-then-has_key
returns-then-has_key c =
    let test : SummaryParts → Bool = λ (s : SummaryParts). has_key s.header c.args.name.now in
    any_found test c.args.summaries.now c.loop-place.place c.index-summaries-place.result c.loop-place-test.true c.index-summaries-place.is (ap (λ h. has_key h c.args.name.now) (sym c.header-header.ensures) ∙ sym c.has_key.ensures ∙ c.if-has_key.true) c.loop-place.invariant

pub loop-place-preserved : goal.loop-place-preserved
loop-place-preserved c =
    let test : SummaryParts → Bool = λ (s : SummaryParts). has_key s.header c.args.name.now in
    any_passed test c.args.summaries.now c.loop-place.place c.index-summaries-place.result c.loop-place-test.true c.index-summaries-place.is (ap (λ h. has_key h c.args.name.now) (sym c.header-header.ensures) ∙ sym c.has_key.ensures ∙ c.if-has_key.false) c.loop-place.invariant

pub returns : goal.returns
returns c =
    let test : SummaryParts → Bool = λ (s : SummaryParts). has_key s.header c.args.name.now in
    any_end test c.args.summaries.now c.loop-place.place (omega (arith, c.loop-place-test.false, c.loop-place.auto.place-end)) c.loop-place.invariant
