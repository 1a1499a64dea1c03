use Rattle.std.proofs.Common.{◌∙◌, ap, arith, sym}
use Rattle.psg_grammar.specs.Fragments.{operator, top_operator}
use Rattle.psg_tree.specs.Shapes.{tree_of}
use Rattle.psg_cache.proofs.Evaluations.{top_parts}
use Rattle.psg_cache.proofs.Counting.{hole_once, operator_once}
use Rattle.psg_cache.proofs.SpliceLaws.{hole_ticks, list_ticks, operator_ticks}
use Rattle.psg_cache.proofs.remaking.remade.Goals as goal

pub relisted-requires-clause-numbered : goal.relisted-requires-clause-numbered
relisted-requires-clause-numbered g c =
    (c.in-List.elements, c.in-List.unfinished, sym c.shape.ensures ∙ ap tree_of c.in-List.is)

pub returns-in-Hole-clause-bounded : goal.returns-in-Hole-clause-bounded
returns-in-Hole-clause-bounded g c =
    let once = hole_once c.shape.result.now c.in-Hole.phylum c.args.made.now c.in-Hole.is c.shape.ensures in
    let ticks = hole_ticks c.shape.result.now c.in-Hole.phylum c.args.made.now c.args.front c.in-Hole.is c.shape.ensures in
    omega (arith, once, ticks, c.topped.ensures.bounded)

pub returns-in-Op-clause-bounded : goal.returns-in-Op-clause-bounded
returns-in-Op-clause-bounded g c =
    let once = operator_once c.shape.result.now c.in-Op.op c.in-Op.parts c.args.made.now c.in-Op.is c.shape.ensures in
    let ticks = operator_ticks c.shape.result.now c.in-Op.op c.in-Op.parts c.args.made.now c.args.front c.in-Op.is
    c.shape.ensures in
    omega (arith, once, ticks, c.reoperated.ensures.bounded)

pub returns-in-List-clause-bounded : goal.returns-in-List-clause-bounded
returns-in-List-clause-bounded g c =
    let ticks = list_ticks c.shape.result.now c.in-List.list c.in-List.elements c.in-List.unfinished c.args.made.now
    c.args.front c.in-List.is c.shape.ensures in
    omega (arith, ticks, c.relisted.ensures.bounded)

pub reoperated-requires-clause-operator : goal.reoperated-requires-clause-operator
reoperated-requires-clause-operator g c = (
  c.in-Op.op,
  sym (ap top_operator c.shape.ensures) ∙ ap (λ s. top_operator (tree_of s)) c.in-Op.is
      ∙ top_parts (operator c.in-Op.op) c.in-Op.parts,
)
