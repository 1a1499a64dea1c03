use Rattle.std.proofs.Common.{ap, ◌∙◌}
use Rattle.std.specs.Prelude.{option_and_then}
use Rattle.psg_self.specs.SelfLanguage.{form_at}
use Rattle.psg_self.proofs.NodeLaws.{operator-top, list-top}
use Rattle.psg_self.proofs.nodes.form_of.Goals as goal

pub returns-in-Op : goal.returns-in-Op
returns-in-Op c =
    c.form_at.ensures ∙ ap (option_and_then form_at) (operator-top _ c.in-Op.op c.in-Op.parts _ c.in-Op.is c.shape.ensures)

pub returns-in-List : goal.returns-in-List
returns-in-List c =
    ap (option_and_then form_at) (list-top _ c.in-List.list c.in-List.elements c.in-List.unfinished _ c.in-List.is c.shape.ensures)
