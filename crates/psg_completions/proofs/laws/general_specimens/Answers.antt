use Rattle.psg_completions.proofs.ByRows.{case_by_rows, declare_by_rows}
use Rattle.psg_completions.proofs.laws.general_specimens.Goals as goal

pub returns-clause-cases : goal.returns-clause-cases
returns-clause-cases c = case_by_rows c.args.definition.now c.requires

pub returns-clause-declares : goal.returns-clause-declares
returns-clause-declares c = declare_by_rows c.args.definition.now c.requires
