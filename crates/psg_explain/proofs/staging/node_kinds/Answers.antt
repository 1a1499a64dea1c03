use Rattle.std.proofs.Common.{◌++◌, drop, slice_get, sym, ap, ◌∙◌}
use Rattle.psg_terms.proofs.Lists.{got_none, got_some}
use Rattle.psg_eval.specs.Summaries.{slot_kinds}
use Rattle.psg_explain.proofs.CasingLaws.{no_list_node}
use Rattle.psg_explain.proofs.KindLaws.{hole_kinds, no_kinds, operator_kinds}
use Rattle.psg_explain.proofs.StagingLaws.{shape_hole, shape_list, shape_op}
use Rattle.psg_explain.proofs.staging.node_kinds.Goals as goal

pub returns-in_ok-kinds-in-Hole : goal.returns-in_ok-kinds-in-Hole
returns-in_ok-kinds-in-Hole c = λ formed node.
    hole_kinds c.args.definition.now c.in-Hole.phylum c.args.tree.now c.args.step c.in_ok-kinds-in-Hole.kinds.items (shape_hole c.shape.result.now c.in-Hole.phylum c.args.tree.now c.in-Hole.is c.shape.ensures) c.in_ok-kinds-in-Hole.ensures

pub returns-in_ok-add_kinds-in-Some : goal.returns-in_ok-add_kinds-in-Some
returns-in_ok-add_kinds-in-Some c = λ formed node.
    let def = c.args.definition.now in
    let o = c.in-Op.op in
    let there = ap (λ xs. slice_get xs o) (sym c.as_slice.ensures) ∙ got_some c.as_slice.result.now o c.get.result c.in-Some.operator c.get.ensures.lookup c.in-Some.is in
    operator_kinds def o c.in-Some.operator.now c.in-Op.parts c.args.tree.now c.args.step c.in_ok-kinds-in-Some.kinds.items c.add_kinds.new.kinds.items (shape_op c.shape.result.now o c.in-Op.parts c.args.tree.now c.in-Op.is c.shape.ensures) there
    c.in_ok-kinds-in-Some.ensures (c.in_ok-add_kinds-in-Some.ensures def ∙ ap (λ l. c.in_ok-kinds-in-Some.kinds.items ++ drop c.args.step (slot_kinds def l)) c.as_slice-in-Some.ensures)

pub returns-in-None : goal.returns-in-None
returns-in-None c = λ formed node.
    let o = c.in-Op.op in
    let none = ap (λ xs. slice_get xs o) (sym c.as_slice.ensures) ∙ got_none c.as_slice.result.now o c.get.result c.get.ensures.lookup c.in-None.is in
    absurd (no_kinds c.args.definition.now o c.in-Op.parts c.args.tree.now (shape_op c.shape.result.now o c.in-Op.parts c.args.tree.now c.in-Op.is c.shape.ensures) none formed)

pub returns-in-List : goal.returns-in-List
returns-in-List c = λ formed node.
    absurd (no_list_node c.args.tree.now c.in-List.list c.in-List.elements c.in-List.unfinished
    (shape_list c.shape.result.now c.in-List.list c.in-List.elements c.in-List.unfinished c.args.tree.now c.in-List.is c.shape.ensures) node)
