use Rattle.std.proofs.Common.{rules, ◌≡◌, ◌∙◌, sym, subst}
use Rattle.std.specs.Prelude.{Err}
use Rattle.psg_menu.specs.Trials.{IsJudged}
use Rattle.psg_menu.proofs.TrialLaws.{judged_fault, judged_good}
use Rattle.psg_menu.proofs.judging.judged.Goals as goal

pub returns-in_err-whole-clause-judged : goal.returns-in_err-whole-clause-judged
returns-in_err-whole-clause-judged g c =
    let fault = c.in_err-whole.field-0.0 in
    let d : c.from_residual.result ≡ Err fault = search rules in
    subst (IsJudged c.args.definition.now c.args.frames.now c.args.own.now) (sym d)
    (judged_fault c.args.definition.now c.args.frames.now c.args.own.now c.climb-climbed.result fault c.climb-climbed.ensures.answer c.in_err-whole.ensures)

pub returns-clause-judged : goal.returns-clause-judged
returns-clause-judged g c =
    let whole = c.in_ok-whole.whole in
    let e : c.rel.result.now ≡ whole.rel = c.rel.ensures in
    let (there, back) = c.is_empty-good.ensures in
    judged_good c.args.definition.now c.args.frames.now c.args.own.now whole c.climb-climbed.result c.is_empty-good.result c.requires.silent c.climb-climbed.ensures.answer
    c.climb-climbed.ensures.summary c.climb-climbed.ensures.seen c.in_ok-whole.ensures ((λ t. sym e ∙ there t), (λ t. back (e ∙ t)))
