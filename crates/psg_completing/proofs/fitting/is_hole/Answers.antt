use Rattle.std.proofs.Common.{ap, sym, ◌∙◌}
use Rattle.psg_tree.specs.Shapes.{tree_of}
use Rattle.psg_completing.proofs.Fits.{list_no_hole, operator_no_hole}
use Rattle.psg_completing.proofs.fitting.is_hole.Goals as goal

pub returns-in-List : goal.returns-in-List
returns-in-List c =
    list_no_hole c.args.phylum c.in-List.list c.in-List.elements c.in-List.unfinished c.args.node.now
    (ap tree_of (sym c.in-List.is) ∙ c.shape.ensures)

pub returns-in-Op : goal.returns-in-Op
returns-in-Op c =
    operator_no_hole c.args.phylum c.in-Op.op c.in-Op.parts c.args.node.now (ap tree_of (sym c.in-Op.is) ∙ c.shape.ensures)
