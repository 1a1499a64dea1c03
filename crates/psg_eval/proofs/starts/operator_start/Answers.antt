use Rattle.std.proofs.Common.{arith}
use Rattle.psg_eval.proofs.StartLaws.{names_in_count, no_slots}
use Rattle.psg_eval.proofs.starts.operator_start.Goals as goal

pub named_start-requires-clause-names : goal.named_start-requires-clause-names
named_start-requires-clause-names c =
    let many = names_in_count c.args.definition.now c.args.operator.now.items in
    omega (arith, many, c.name_positions-names.ensures)

pub whole_start-requires-clause-names : goal.whole_start-requires-clause-names
whole_start-requires-clause-names c =
    let many = names_in_count c.args.definition.now c.args.operator.now.items in
    omega (arith, many, c.name_positions-names.ensures)

pub bare_start-requires-clause-names : goal.bare_start-requires-clause-names
bare_start-requires-clause-names c =
    let many = names_in_count c.args.definition.now c.args.operator.now.items in
    omega (arith, many, c.name_positions-names.ensures)

pub whole_start-requires-clause-slots : goal.whole_start-requires-clause-slots
whole_start-requires-clause-slots c =
    no_slots c.args.definition.now c.args.operator.now.items c.slots.result c.slots.ensures (omega arith)
