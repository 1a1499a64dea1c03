use Rattle.std.proofs.Common.{slice_get, ap, sym, ◌∙◌}
use Rattle.psg_terms.proofs.Lists.{got_none, got_some}
use Rattle.psg_grammar.specs.Lookups.{operator_at}
use Rattle.psg_completing.proofs.Levels.{level_of, under_nothing, under_operator}
use Rattle.psg_completing.proofs.wanted.least_of.Goals as goal

pub least_in-requires : goal.least_in-requires
least_in-requires c =
    level_of c.args.definition.now c.requires c.args.op c.in-Some.operator.now
    (ap (λ xs. slice_get xs c.args.op) (sym c.as_slice.ensures)
    ∙ got_some c.as_slice.result.now c.args.op c.get.result c.in-Some.operator c.get.ensures.lookup c.in-Some.is)

pub returns-in-Some : goal.returns-in-Some
returns-in-Some c =
    under_operator (operator_at c.args.definition.now c.args.op) c.args.number c.least_in.result c.in-Some.operator.now
    (ap (λ xs. slice_get xs c.args.op) (sym c.as_slice.ensures)
    ∙ got_some c.as_slice.result.now c.args.op c.get.result c.in-Some.operator c.get.ensures.lookup c.in-Some.is)
    c.least_in.ensures

pub returns-in-None : goal.returns-in-None
returns-in-None c =
    under_nothing (operator_at c.args.definition.now c.args.op) c.args.number
    (ap (λ xs. slice_get xs c.args.op) (sym c.as_slice.ensures)
    ∙ got_none c.as_slice.result.now c.args.op c.get.result c.get.ensures.lookup c.in-None.is)
