use Rattle.std.proofs.Common.{sym, ◌∙◌}
use Rattle.psg_face.proofs.MoveLaws.{parent_is}
use Rattle.psg_face.proofs.moves.parent_of.Goals as goal

pub returns-in_ok-led-in-Some : goal.returns-in_ok-led-in-Some
returns-in_ok-led-in-Some c =
    c.in_ok-led-in-Some.ensures ∙ parent_is c.args.path.now _ _ (sym c.steps.ensures ∙ c.in-Some.ensures.cases.0)
