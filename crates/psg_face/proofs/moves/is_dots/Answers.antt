use Rattle.std.proofs.Common.{sym, ◌∙◌}
use Rattle.psg_face.proofs.MoveLaws.{dots_is}
use Rattle.psg_face.proofs.moves.is_dots.Goals as goal

pub returns-in-Some : goal.returns-in-Some
returns-in-Some c =
    dots_is c.args.tree.now c.args.path.now c.in-Some.front.now c.in-Some.last.now c.is_end_along.result
    (sym c.steps.ensures ∙ c.in-Some.ensures.cases.0) c.is_end_along.ensures
