use Rattle.psg_specimen.proofs.TrueRows.{quiet_slots, true_rows}
use Rattle.psg_specimen.proofs.laws.true_rows.Goals as goal

pub returns-clause-rows : goal.returns-clause-rows
returns-clause-rows c = true_rows c.args.definition.now c.requires

pub returns-clause-slots : goal.returns-clause-slots
returns-clause-slots c = quiet_slots c.args.definition.now c.requires
