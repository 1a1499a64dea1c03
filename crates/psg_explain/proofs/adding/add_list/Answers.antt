use Rattle.std.proofs.Common.{◌-◌, ◌<◌, get_or, length, Some, refl, subst, arith}
use Rattle.psg_terms.proofs.Lists.{get_or_fixed}
use Rattle.psg_explain.specs.Added.{AddsCell}
use Rattle.psg_explain.proofs.StepLaws.{child_there, end_there, ends_there}
use Rattle.psg_explain.proofs.StagingLaws.{listed_end, listed_next, listed_start}
use Rattle.psg_explain.proofs.adding.add_list.Goals as goal

pub cells-init : goal.cells-init
cells-init c = (
  omega arith,
  listed_start c.args.known.definition.now c.args.path.now c.args.node.list c.args.node.elements.now c.args.node.unfinished c.args.last.now c.args.stages.now.items c.add_end.new.stages.items c.requires.count c.requires.ends
      c.in_ok-add_end.ensures.steps c.in_ok-add_end.ensures.last,
)

pub add_cell-requires-clause-last : goal.add_cell-requires-clause-last
add_cell-requires-clause-last c = end_there c.args.known.definition.now c.cells.stages.items _ c.cells.invariant.1.last

pub add_cell-requires-clause-element : goal.add_cell-requires-clause-element
add_cell-requires-clause-element c =
    let some = c.cells-test.true in
    let le = c.cells.invariant.0 in
    child_there c.cells.stages.items c.args.last.now (c.cells.left - 1) (omega (arith, some, le))
    (ends_there c.args.known.definition.now c.cells.stages.items c.args.node.elements.now c.args.last.now c.requires.count c.cells.invariant.1.ends)

pub cells-preserved : goal.cells-preserved
cells-preserved c =
    let some = c.cells-test.true in
    let le = c.cells.invariant.0 in
    let left = c.cells.left in
    let p = get_or c.args.last.now (left - 1) 0 in
    let lt : left - 1 < length c.args.last.now = omega (arith, some, le) in
    let adds : AddsCell c.args.path.now (Some (left - 1)) c.args.node.list c.cells.stages.items c.add_cell.new.stages.items p =
    subst (λ n. AddsCell c.args.path.now (Some n) c.args.node.list c.cells.stages.items c.add_cell.new.stages.items p) c.in_ok-number.ensures.number c.in_ok-add_cell.ensures in (
      omega (arith, some, le),
      listed_next c.args.known.definition.now c.args.path.now c.args.node.list c.args.node.elements.now c.args.node.unfinished c.args.last.now c.args.stages.now.items c.cells.stages.items c.add_cell.new.stages.items left (left - 1) p
          c.requires.count c.requires.formed some le refl (get_or_fixed c.args.last.now (left - 1) 0 lt) c.cells.invariant.1 adds,
    )

pub returns : goal.returns
returns c =
    let none = c.cells-test.false in
    let made =
    listed_end c.args.known.definition.now c.args.path.now c.args.node.list c.args.node.elements.now c.args.node.unfinished c.args.last.now c.args.stages.now.items c.cells.stages.items c.cells.left (omega (arith, none)) c.cells.invariant.1 in
    record { steps = made.0; last = made.1 }
