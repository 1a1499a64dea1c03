use Rattle.std.proofs.Common.{sym, ap, ◌∙◌}
use Rattle.psg_grammar.specs.Fragments.{operator, top_operator}
use Rattle.psg_tree.specs.Shapes.{tree_of}
use Rattle.psg_unparse.proofs.Items.{top-parts}
use Rattle.psg_completing.proofs.Levels.{no_top}
use Rattle.psg_completing.proofs.wanted.op_of.Goals as goal

pub returns-in-Op : goal.returns-in-Op
returns-in-Op c =
    sym (top-parts (operator c.in-Op.op) c.in-Op.parts)
    ∙ ap top_operator (sym (ap tree_of c.in-Op.is) ∙ c.shape.ensures)

pub returns-in-List : goal.returns-in-List
returns-in-List c =
    no_top c.in-List.list c.in-List.elements c.in-List.unfinished
    ∙ ap top_operator (sym (ap tree_of c.in-List.is) ∙ c.shape.ensures)
