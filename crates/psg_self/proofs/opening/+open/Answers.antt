use Rattle.std.proofs.Common.{arith}
use Rattle.psg_grammar.specs.Fragments.{children_of}
use Rattle.psg_self.proofs.FirstOpen.{child-is, none-is, child-lower, next-among, found-among, end-among, list-from, operator-from, unfinished-from}
use Rattle.psg_self.proofs.opening.+open.Goals as goal

pub first_below-returns-in-None : goal.first_below-returns-in-None
first_below-returns-in-None t c =
    end-among c.args.at.now (children_of c.args.tree.now) c.loop-number.number
    (none-is c.child_at.result (children_of c.args.tree.now) c.loop-number.number c.in-None.is c.child_at.ensures) c.loop-number.invariant

pub first_below-first_at-requires : goal.first_below-first_at-requires
first_below-first_at-requires t c =
    let low = child-lower c.args.tree.now c.loop-number.number c.in-Some.child.now
    (child-is c.child_at.result c.in-Some.child (children_of c.args.tree.now) c.loop-number.number c.in-Some.is c.child_at.ensures) in
    omega arith

pub first_below-returns-in-Some-2 : goal.first_below-returns-in-Some-2
first_below-returns-in-Some-2 t c =
    found-among c.args.at.now (children_of c.args.tree.now) c.loop-number.number c.in-Some.child.now c.in_ok-path-in-Some.field-0 c.in-Some-2.path
    (child-is c.child_at.result c.in-Some.child (children_of c.args.tree.now) c.loop-number.number c.in-Some.is c.child_at.ensures)
    c.loop-number.invariant c.in_ok-path-in-Some.ensures c.in-Some-2.is

pub first_below-loop-number-preserved : goal.first_below-loop-number-preserved
first_below-loop-number-preserved t c =
    next-among c.args.at.now (children_of c.args.tree.now) c.loop-number.number c.in-Some.child.now c.in_ok-path-in-Some.field-0
    (child-is c.child_at.result c.in-Some.child (children_of c.args.tree.now) c.loop-number.number c.in-Some.is c.child_at.ensures)
    c.loop-number.invariant c.in_ok-path-in-Some.ensures c.in-None-2.is

pub first_in-returns-then-unfinished : goal.first_in-returns-then-unfinished
first_in-returns-then-unfinished t c =
    unfinished-from c.args.at.now _ c.in-List.list c.in-List.elements c.in-List.unfinished c.args.tree.now _ c.in-List.is c.shape.ensures
    c.if-unfinished.true c.in_ok-of-in-List.ensures

pub first_in-returns-in_ok-found-in-Op : goal.first_in-returns-in_ok-found-in-Op
first_in-returns-in_ok-found-in-Op t c =
    operator-from c.args.at.now _ c.in-Op.op c.in-Op.parts c.args.tree.now _ c.in-Op.is c.shape.ensures c.in_ok-found-in-Op.ensures

pub first_in-returns-in_ok-found-in-List : goal.first_in-returns-in_ok-found-in-List
first_in-returns-in_ok-found-in-List t c =
    list-from c.args.at.now _ c.in-List.list c.in-List.elements c.in-List.unfinished c.args.tree.now _ c.in-List.is c.shape.ensures
    c.if-unfinished.false c.in_ok-found-in-List.ensures
