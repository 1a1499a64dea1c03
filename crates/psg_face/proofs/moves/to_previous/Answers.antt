use Rattle.std.proofs.Common.{sym, ◌∙◌}
use Rattle.psg_face.proofs.MoveLaws.{previous_is}
use Rattle.psg_face.proofs.moves.to_previous.Goals as goal

pub returns-in_ok-led-in-Some : goal.returns-in_ok-led-in-Some
returns-in_ok-led-in-Some c =
    previous_is c.args.path.now c.in-Some.front.now c.in-Some.last.now _ _
    (sym c.steps.ensures ∙ c.in-Some.ensures.cases.0) c.saturating_sub.ensures c.in_ok-led-in-Some.ensures
