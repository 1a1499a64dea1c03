use Rattle.std.proofs.Common.{arith, ◌∙◌, ap}
use Rattle.psg_cache.specs.Walks.{IsStepFault, names_in, top_steps}
use Rattle.psg_cache.proofs.Counting.{hole_once, list_once, operator_once}
use Rattle.psg_cache.proofs.Passing.{passed}
use Rattle.psg_cache.proofs.TopLaws.{elements_taken, hole_fault, hole_topped, list_fault, list_topped, operator_fault, operator_takes, operator_topped}
use Rattle.psg_cache.proofs.topping.top.Goals as goal

pub returns-in_err-summary-in-Hole-clause-err : goal.returns-in_err-summary-in-Hole-clause-err
returns-in_err-summary-in-Hole-clause-err g c =
    let def = c.args.language.definition.now in
    let path = c.args.path.now in
    let tree = c.args.tree.now in
    passed (IsStepFault def (top_steps def path tree)) _ c.in_err-summary-in-Hole.field-0.0 c.from_residual.ensures.1
    (hole_fault def path c.shape.result.now c.in-Hole.phylum tree c.eval_hole-made.result
    c.in_err-summary-in-Hole.field-0.0 c.in-Hole.is c.shape.ensures c.eval_hole-made.ensures.answer
    c.in_err-summary-in-Hole.ensures.err)

pub returns-in_ok-summary-in-Hole-clause-ok : goal.returns-in_ok-summary-in-Hole-clause-ok
returns-in_ok-summary-in-Hole-clause-ok g c =
    hole_topped c.args.language.definition.now c.shape.result.now c.in-Hole.phylum c.args.tree.now
    c.eval_hole-made.result c.in_ok-summary-in-Hole.summary c.args.below.now _ _ c.in-Hole.is c.shape.ensures
    c.eval_hole-made.ensures.answer c.eval_hole-made.ensures.summary c.in_ok-summary-in-Hole.ensures.ok
    c.alone-suffixes.ensures.whole c.alone-suffixes.ensures.rests

pub eval_op-made-requires-clause-takes : goal.eval_op-made-requires-clause-takes
eval_op-made-requires-clause-takes g c =
    operator_takes c.args.language.definition.now c.shape.result.now c.in-Op.op c.in-Op.parts c.args.tree.now
    _ c.args.below.now c.in-Op.is c.shape.ensures c.requires.formed
    (c.as_slice-in-Op.ensures.value ∙ c.in_ok-names-in-Op.ensures ∙ ap names_in c.as_slice.ensures)
    c.requires.summaries c.requires.usual

pub returns-in_err-summary-in-Op-clause-err : goal.returns-in_err-summary-in-Op-clause-err
returns-in_err-summary-in-Op-clause-err g c =
    let def = c.args.language.definition.now in
    let path = c.args.path.now in
    let tree = c.args.tree.now in
    passed (IsStepFault def (top_steps def path tree)) _ c.in_err-summary-in-Op.field-0.0
    c.from_residual-in_err-summary-in-Op.ensures.1
    (operator_fault def path c.shape.result.now c.in-Op.op c.in-Op.parts tree _ c.args.below.now c.eval_op-made.result
    c.in_err-summary-in-Op.field-0.0 c.in-Op.is c.shape.ensures c.requires.formed
    (c.as_slice-in-Op.ensures.value ∙ c.in_ok-names-in-Op.ensures ∙ ap names_in c.as_slice.ensures)
    c.requires.summaries c.eval_op-made.ensures.answer c.in_err-summary-in-Op.ensures.err)

pub returns-in_ok-summary-in-Op-clause-ok : goal.returns-in_ok-summary-in-Op-clause-ok
returns-in_ok-summary-in-Op-clause-ok g c =
    operator_topped c.args.language.definition.now c.shape.result.now c.in-Op.op c.in-Op.parts
    c.args.tree.now _ c.args.below.now c.eval_op-made.result c.in_ok-summary-in-Op.summary _ _
    c.in-Op.is c.shape.ensures
    (c.as_slice-in-Op.ensures.value ∙ c.in_ok-names-in-Op.ensures ∙ ap names_in c.as_slice.ensures)
    c.eval_op-made.ensures.answer c.eval_op-made.ensures.summary c.in_ok-summary-in-Op.ensures.ok
    c.alone-suffixes-in-Op.ensures.whole c.alone-suffixes-in-Op.ensures.rests

pub top_list-requires-clause-takes : goal.top_list-requires-clause-takes
top_list-requires-clause-takes g c =
    elements_taken c.args.language.definition.now c.shape.result.now c.in-List.list c.in-List.elements
    c.in-List.unfinished c.args.tree.now c.args.below.now c.in-List.is c.shape.ensures c.requires.formed
    c.requires.summaries c.requires.usual

pub returns-in_err-suffixes-in-List-clause-err : goal.returns-in_err-suffixes-in-List-clause-err
returns-in_err-suffixes-in-List-clause-err g c =
    let def = c.args.language.definition.now in
    let path = c.args.path.now in
    let tree = c.args.tree.now in
    passed (IsStepFault def (top_steps def path tree)) _ c.in_err-suffixes-in-List.field-0.0
    c.from_residual-in_err-suffixes-in-List.ensures.1
    (list_fault def path c.shape.result.now c.in-List.list c.in-List.elements c.in-List.unfinished tree
    c.args.below.now c.in_err-suffixes-in-List.field-0.0 c.in-List.is c.shape.ensures c.requires.summaries
    c.in_err-suffixes-in-List.ensures.err)

pub returns-in_ok-suffixes-in-List-clause-ok : goal.returns-in_ok-suffixes-in-List-clause-ok
returns-in_ok-suffixes-in-List-clause-ok g c =
    list_topped c.args.language.definition.now c.shape.result.now c.in-List.list c.in-List.elements
    c.in-List.unfinished c.args.tree.now c.args.below.now _ _ c.in-List.is c.shape.ensures
    c.requires.summaries c.in_ok-suffixes-in-List.ensures.ok

pub returns-in_ok-summary-in-Hole-clause-ticks : goal.returns-in_ok-summary-in-Hole-clause-ticks
returns-in_ok-summary-in-Hole-clause-ticks g c =
    let once = hole_once c.shape.result.now c.in-Hole.phylum c.args.tree.now c.in-Hole.is c.shape.ensures in
    omega (arith, once, c.eval_hole-made.ensures.ticks)

pub returns-in_ok-summary-in-Op-clause-ticks : goal.returns-in_ok-summary-in-Op-clause-ticks
returns-in_ok-summary-in-Op-clause-ticks g c =
    let once = operator_once c.shape.result.now c.in-Op.op c.in-Op.parts c.args.tree.now c.in-Op.is c.shape.ensures in
    omega (arith, once, c.eval_op-made.ensures.ticks)

pub returns-in_ok-suffixes-in-List-clause-ticks : goal.returns-in_ok-suffixes-in-List-clause-ticks
returns-in_ok-suffixes-in-List-clause-ticks g c =
    let once = list_once c.args.language.definition.now c.shape.result.now c.in-List.list c.in-List.elements
    c.in-List.unfinished
    c.args.tree.now c.args.below.now c.in-List.is c.shape.ensures c.requires.summaries in
    omega (arith, once, c.in_ok-suffixes-in-List.ensures.ticks)

pub returns-in_err-summary-in-Hole-clause-bounded : goal.returns-in_err-summary-in-Hole-clause-bounded
returns-in_err-summary-in-Hole-clause-bounded g c =
    let once = hole_once c.shape.result.now c.in-Hole.phylum c.args.tree.now c.in-Hole.is c.shape.ensures in
    omega (arith, once, c.eval_hole-made.ensures.ticks)

pub returns-in_ok-summary-in-Hole-clause-bounded : goal.returns-in_ok-summary-in-Hole-clause-bounded
returns-in_ok-summary-in-Hole-clause-bounded g c =
    let once = hole_once c.shape.result.now c.in-Hole.phylum c.args.tree.now c.in-Hole.is c.shape.ensures in
    omega (arith, once, c.eval_hole-made.ensures.ticks)

pub returns-in_err-summary-in-Op-clause-bounded : goal.returns-in_err-summary-in-Op-clause-bounded
returns-in_err-summary-in-Op-clause-bounded g c =
    let once = operator_once c.shape.result.now c.in-Op.op c.in-Op.parts c.args.tree.now c.in-Op.is c.shape.ensures in
    omega (arith, once, c.eval_op-made.ensures.ticks)

pub returns-in_ok-summary-in-Op-clause-bounded : goal.returns-in_ok-summary-in-Op-clause-bounded
returns-in_ok-summary-in-Op-clause-bounded g c =
    let once = operator_once c.shape.result.now c.in-Op.op c.in-Op.parts c.args.tree.now c.in-Op.is c.shape.ensures in
    omega (arith, once, c.eval_op-made.ensures.ticks)

pub returns-in_err-suffixes-in-List-clause-bounded : goal.returns-in_err-suffixes-in-List-clause-bounded
returns-in_err-suffixes-in-List-clause-bounded g c =
    let once = list_once c.args.language.definition.now c.shape.result.now c.in-List.list c.in-List.elements
    c.in-List.unfinished
    c.args.tree.now c.args.below.now c.in-List.is c.shape.ensures c.requires.summaries in
    omega (arith, once, c.top_list.ensures.bounded)

pub returns-in_ok-suffixes-in-List-clause-bounded : goal.returns-in_ok-suffixes-in-List-clause-bounded
returns-in_ok-suffixes-in-List-clause-bounded g c =
    let once = list_once c.args.language.definition.now c.shape.result.now c.in-List.list c.in-List.elements
    c.in-List.unfinished
    c.args.tree.now c.args.below.now c.in-List.is c.shape.ensures c.requires.summaries in
    omega (arith, once, c.top_list.ensures.bounded)
