use Rattle.psg_run.proofs.WholeDefinitions.{line_of_fault, line_read}
use Rattle.psg_run.proofs.exporting.check_line.Goals as goal

pub returns-in-Ok : goal.returns-in-Ok
returns-in-Ok c = line_read c.args.read c.in-Ok.definition c.in-Ok.is c.line_of_read.result c.line_of_read.ensures

pub returns-in-Err : goal.returns-in-Err
returns-in-Err c = line_of_fault c.args.read c.in-Err.fault c.in-Err.is c.fault_text.result c.fault_text.ensures
