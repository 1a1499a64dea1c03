use Rattle.psg_terms.proofs.Lists.{got_some, got_none}
use Rattle.psg_covering.proofs.IndexLaws.{among_met, among_none}
use Rattle.psg_covering.proofs.choosing.rows_for.Goals as goal

pub returns-in_ok-numbers-in-Some-clause-among : goal.returns-in_ok-numbers-in-Some-clause-among
returns-in_ok-numbers-in-Some-clause-among c r h of =
    among_met c.args.definition.now c.args.slot c.args.row.now c.in-Some.column.now c.in_ok-numbers-in-Some.numbers.items
    (got_some c.args.row.now 1 c.get.result c.in-Some.column c.get.ensures.lookup c.in-Some.is) c.in_ok-numbers-in-Some.ensures.met r h of

pub returns-in-None-clause-among : goal.returns-in-None-clause-among
returns-in-None-clause-among c r h of =
    among_none c.args.definition.now c.args.slot c.args.row.now c.new.result.items
    (got_none c.args.row.now 1 c.get.result c.get.ensures.lookup c.in-None.is) r h of
