use Rattle.std.proofs.Common.{take}
use Rattle.psg_lint.proofs.HintLaws.{but_pushed}
use Rattle.psg_lint.proofs.hints.answers_but.Goals as goal

pub returns : goal.returns
returns c =
    but_pushed (take c.args.end c.args.kept.now) _ _ _ _ c.args.number c.in_ok-answers.ensures.items c.in_ok-push.ensures.items
    c.in_ok-extend_from_slice.ensures.items c.in_ok-push-2.ensures.items
