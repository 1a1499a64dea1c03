use Rattle.std.proofs.Common.{refl, ◌∙◌, subst}
use Rattle.psg_script.specs.declared.command.Command.TheVariants.{Range}
use Rattle.psg_session.specs.Outcomes.{IsOutcome, IsPlan}
use Rattle.psg_session.specs.PlainState.{not_asked}
use Rattle.psg_session.specs.Sessions.{state_of}
use Rattle.psg_session.specs.Ticks.{HasTicked}
use Rattle.psg_session.proofs.ChangeRange.{range_unread}
use Rattle.psg_session.proofs.Stopping.{found_by}
use Rattle.psg_session.proofs.ranged.replace_bytes.Goals as goal

pub print_for-requires-clause-sound : goal.print_for-requires-clause-sound
print_for-requires-clause-sound g c = c.requires.language.sound

pub returns-in_err-print_for-clause-ticks : goal.returns-in_err-print_for-clause-ticks
returns-in_err-print_for-clause-ticks g c =
    range_unread c.args.language.now.definition c.args.editor.now c.args.start c.args.end c.args.text.now _ _ refl

pub range-plan-requires-clause-printed : goal.range-plan-requires-clause-printed
range-plan-requires-clause-printed g c = c.as_ref-before.ensures.value ∙ c.in_ok-print_for.ensures.printed

pub planned_text-requires-clause-printed : goal.planned_text-requires-clause-printed
planned_text-requires-clause-printed g c = c.as_ref-before.ensures.value ∙ c.in_ok-print_for.ensures.printed

pub returns-in_err-made-clause-ticks : goal.returns-in_err-made-clause-ticks
returns-in_err-made-clause-ticks g c =
    subst (λ t. HasTicked c.args.language.now.definition (state_of c.args.editor.now) (Range c.args.start c.args.end t)
    c.args.steps.now c.range-plan.new.steps) c.as_str-new.ensures c.range-plan.ensures.ticks

pub carry_out-requires-clause-plan : goal.carry_out-requires-clause-plan
carry_out-requires-clause-plan g c = (Range c.args.start c.args.end c.as_str-new.result.now, c.range-plan.ensures.plan)

pub returns-in_err-outcome-clause-outcome : goal.returns-in_err-outcome-clause-outcome
returns-in_err-outcome-clause-outcome g c =
    found_by (IsOutcome c.args.language.now.definition c.args.editor.now not_asked
    (Range c.args.start c.args.end c.args.text.now)) _ c.in_err-outcome.field-0.0
    c.from_residual-in_err-outcome.ensures.1
    (c.in_err-outcome.ensures.outcome (Range c.args.start c.args.end c.args.text.now)
    (subst (λ t. IsPlan c.args.language.now.definition c.args.editor.now (Range c.args.start c.args.end t) c.range-plan.result)
    c.as_str-new.ensures c.range-plan.ensures.plan))

pub returns-clause-outcome : goal.returns-clause-outcome
returns-clause-outcome g c =
    c.in_ok-outcome.ensures.outcome (Range c.args.start c.args.end c.args.text.now)
    (subst (λ t. IsPlan c.args.language.now.definition c.args.editor.now (Range c.args.start c.args.end t) c.range-plan.result)
    c.as_str-new.ensures c.range-plan.ensures.plan)

pub returns-in_err-outcome-clause-ticks : goal.returns-in_err-outcome-clause-ticks
returns-in_err-outcome-clause-ticks g c =
    subst (λ t. HasTicked c.args.language.now.definition (state_of c.args.editor.now) (Range c.args.start c.args.end t)
    c.args.steps.now c.carry_out.new.steps) c.as_str-new.ensures (c.range-plan.ensures.spends _ c.in_err-outcome.ensures.spends)

pub returns-clause-ticks : goal.returns-clause-ticks
returns-clause-ticks g c =
    subst (λ t. HasTicked c.args.language.now.definition (state_of c.args.editor.now) (Range c.args.start c.args.end t)
    c.args.steps.now c.carry_out.new.steps) c.as_str-new.ensures (c.range-plan.ensures.spends _ c.in_ok-outcome.ensures.spends)

pub returns-clause-next : goal.returns-clause-next
returns-clause-next g c =
    c.put_next.ensures c.args.language.now.definition c.args.editor.now c.range-plan.result c.requires.fresh
    c.in_ok-made.ensures
    (c.in_ok-outcome.ensures.outcome (Range c.args.start c.args.end c.as_str-new.result.now) c.range-plan.ensures.plan).fit
    c.in_ok-outcome.ensures.version
