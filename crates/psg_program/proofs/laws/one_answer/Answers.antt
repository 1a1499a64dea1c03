use Rattle.psg_program.proofs.OneFault.{has_one_answer}
use Rattle.psg_program.proofs.laws.one_answer.Goals as goal

pub returns : goal.returns
returns c = has_one_answer c.args._definition.now c.requires
