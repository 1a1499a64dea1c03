use Rattle.psg_comment_laws.proofs.OfPrograms.{of_programs}
use Rattle.psg_comment_laws.proofs.programs_lose_none.Goals as goal

pub returns : goal.returns
returns c = of_programs c.args.definition.now c.args.token.now c.requires.fit
