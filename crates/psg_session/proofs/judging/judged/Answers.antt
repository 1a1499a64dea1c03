use Rattle.std.proofs.Common.{subst, sym, ◌∙◌, true≢false}
use Rattle.psg_session.specs.Outcomes.{IsJudged, IsNoted}
use Rattle.psg_session.specs.Stops.{stop_of_note}
use Rattle.psg_session.proofs.Stopping.{passed}
use Rattle.psg_session.proofs.Verdicts.{judged_fault, judged_inadmissible, judged_right}
use Rattle.psg_session.proofs.judging.judged.Goals as goal

pub returns-in_err-note-clause-judged : goal.returns-in_err-note-clause-judged
returns-in_err-note-clause-judged c = λ def f noted small.
    passed (IsJudged def c.args.trial f) _ (stop_of_note c.in_err-note.field-0.0) c.from_residual.ensures.1
    (judged_fault def c.args.trial f c.in_err-note.field-0.0 small (subst (IsNoted def f) c.in_err-note.was noted))

pub returns-then-is_inadmissible-clause-judged : goal.returns-then-is_inadmissible-clause-judged
returns-then-is_inadmissible-clause-judged c = λ def f noted small.
    let is = subst (IsNoted def f) c.in_ok-note.was noted in
    let (must, some) = c.is_inadmissible.ensures.0 c.if-is_inadmissible.true in
    judged_inadmissible def f c.in_ok-note.note is c.args.trial must some

pub returns-clause-judged : goal.returns-clause-judged
returns-clause-judged c = λ def f noted small.
    let is = subst (IsNoted def f) c.in_ok-note.was noted in (
      is,
      judged_right def f c.in_ok-note.note is c.args.trial
          (λ h. true≢false (sym (c.is_inadmissible.ensures.1 h) ∙ c.if-is_inadmissible.false)),
    )
