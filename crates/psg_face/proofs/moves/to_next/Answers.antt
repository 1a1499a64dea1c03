use Rattle.std.proofs.Common.{sym, ◌∙◌}
use Rattle.psg_face.proofs.MoveLaws.{next_is}
use Rattle.psg_face.proofs.moves.to_next.Goals as goal

pub returns-in_ok-led-in-Some : goal.returns-in_ok-led-in-Some
returns-in_ok-led-in-Some c =
    next_is c.args.tree.now c.args.path.now c.in-Some.front.now c.in-Some.last.now _ _ _
    (sym c.steps.ensures ∙ c.in-Some.ensures.cases.0) c.in_ok-step-in-Some.ensures c.in_ok-other-in-Some.ensures
    c.in_ok-led-in-Some.ensures
