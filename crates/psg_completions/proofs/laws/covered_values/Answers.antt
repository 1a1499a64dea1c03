use Rattle.psg_completions.proofs.CoversByRows.{operators_by_rows, cells_by_rows}
use Rattle.psg_completions.proofs.laws.covered_values.Goals as goal

pub returns-clause-operators : goal.returns-clause-operators
returns-clause-operators c = operators_by_rows c.args.definition.now c.requires

pub returns-clause-cells : goal.returns-clause-cells
returns-clause-cells c = cells_by_rows c.args.definition.now c.requires
