use Rattle.psg_run.proofs.WholeDefinitions.{accepted_line, line_refused}
use Rattle.psg_run.proofs.exporting.line_of_read.Goals as goal

pub returns-in-Ok : goal.returns-in-Ok
returns-in-Ok c = accepted_line c.args.definition c.in-Ok.ensures.accepted c.from_str.result c.from_str.ensures.ok

pub returns : goal.returns
returns c = line_refused c.args.definition _ c.in-Err.ensures.back c.refusal_of.result c.refusal_of.ensures
