use Rattle.std.proofs.Common.{ap, sym, ◌∙◌}
use Rattle.psg_tree.specs.Shapes.{tree_of}
use Rattle.psg_pointing.specs.Hovering.{head_of}
use Rattle.psg_pointing.proofs.Tellings.{list_told, operator_told}
use Rattle.psg_pointing.proofs.telling.head_of.Goals as goal

pub returns-in_ok-text-in-Op : goal.returns-in_ok-text-in-Op
returns-in_ok-text-in-Op c =
    c.in_ok-text-in-Op.ensures
    ∙ operator_told c.args.definition.now c.args.node.now c.in-Op.op c.in-Op.parts (ap tree_of (sym c.in-Op.is) ∙ c.shape.ensures)

pub returns-in_ok-text-in-List : goal.returns-in_ok-text-in-List
returns-in_ok-text-in-List c =
    c.in_ok-text-in-List.ensures.ok ∙ c.list_name-name.ensures
    ∙ list_told c.args.definition.now c.args.node.now c.in-List.list c.in-List.elements c.in-List.unfinished (ap tree_of (sym c.in-List.is) ∙ c.shape.ensures)

pub returns-in_ok-text-in-Hole : goal.returns-in_ok-text-in-Hole
returns-in_ok-text-in-Hole c =
    c.in_ok-text-in-Hole.ensures ∙ ap (head_of c.args.definition.now) (ap tree_of (sym c.in-Hole.is) ∙ c.shape.ensures)
