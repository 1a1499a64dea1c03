use Rattle.psg_comment_laws.proofs.OfPrograms.{stays_program}
use Rattle.psg_comment_laws.proofs.programs_stay.Goals as goal

pub returns : goal.returns
returns c = stays_program c.args.definition.now c.args.token.now c.requires.fit
