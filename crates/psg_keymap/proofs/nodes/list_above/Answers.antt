use Rattle.std.proofs.Common.{sym, ◌∙◌}
use Rattle.psg_keymap.proofs.TableLaws.{above_is}
use Rattle.psg_keymap.proofs.nodes.list_above.Goals as goal

pub returns-in_ok-spot-in-Some : goal.returns-in_ok-spot-in-Some
returns-in_ok-spot-in-Some c =
    above_is c.args.tree.now c.args.path.now c.in-Some.front.now c.in-Some.last.now _
    (sym c.steps.ensures ∙ c.in-Some.ensures.cases.0)
    c.in_ok-spot-in-Some.ensures
