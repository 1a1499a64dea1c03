use Rattle.psg_textedit.proofs.Ways.{op_kind, list_kind}
use Rattle.psg_textedit.proofs.places.kind_of.Goals as goal

pub returns-in-Op : goal.returns-in-Op
returns-in-Op c =
    op_kind c.args.definition.now c.shape.result.now c.in-Op.op _ c.args.tree.now c.phylum_of.result c.in-Op.is c.shape.ensures
    c.phylum_of.ensures

pub returns-in-List : goal.returns-in-List
returns-in-List c =
    list_kind c.args.definition.now c.shape.result.now c.in-List.list _ _ c.args.tree.now c.in-List.is c.shape.ensures
