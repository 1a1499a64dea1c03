use Rattle.std.proofs.Common.{◌<◌, ◌∙◌, Some, length, get_or, ap, sym, subst}
use Rattle.psg_session.proofs.Shapes.{operator_in, operator_kind, list_node_kind, hole_kind, read_at}
use Rattle.psg_session.proofs.changes.kind_of.Goals as goal

pub bounds-as_slice-op : goal.bounds-as_slice-op
bounds-as_slice-op c =
    subst (λ os. c.in-Op.op < length os) (sym c.as_slice.ensures)
    (operator_in c.args.definition.now c.args.tree.now c.shape.result.now c.in-Op.op _ c.requires.formed
    c.shape.ensures c.in-Op.is)

pub bounds-as_slice-op-in-Op : goal.bounds-as_slice-op-in-Op
bounds-as_slice-op-in-Op c =
    subst (λ os. c.in-Op.op < length os) (sym c.as_slice.ensures)
    (operator_in c.args.definition.now c.args.tree.now c.shape.result.now c.in-Op.op _ c.requires.formed
    c.shape.ensures c.in-Op.is)

pub returns-in-Op : goal.returns-in-Op
returns-in-Op c =
    operator_kind c.args.definition.now c.args.tree.now c.shape.result.now c.in-Op.op _
    (get_or c.as_slice.result.now c.in-Op.op c.index-as_slice-op.result) c.shape.ensures c.in-Op.is
    (read_at c.as_slice.result.now c.args.definition.now.operators c.in-Op.op c.index-as_slice-op.result
    c.as_slice.ensures
    (operator_in c.args.definition.now c.args.tree.now c.shape.result.now c.in-Op.op _ c.requires.formed
    c.shape.ensures c.in-Op.is) c.index-as_slice-op.is
    ∙ ap Some c.index-as_slice-op.is)

pub returns-in-List : goal.returns-in-List
returns-in-List c =
    list_node_kind c.args.definition.now c.args.tree.now c.shape.result.now c.in-List.list _ _ c.shape.ensures
    c.in-List.is

pub returns-in-Hole : goal.returns-in-Hole
returns-in-Hole c =
    hole_kind c.args.definition.now c.args.tree.now c.shape.result.now c.in-Hole.phylum c.shape.ensures c.in-Hole.is
