use Rattle.psg_server.proofs.EditLaws.{none_is}
use Rattle.psg_server.proofs.edits.without_program.Goals as goal

pub returns-in-Syntax : goal.returns-in-Syntax
returns-in-Syntax c = λ def kind encoding text comments judged faulty.
    none_is def kind encoding text comments judged c.args.fault.now _ _ c.in-Syntax.is c.null_value.ensures faulty
