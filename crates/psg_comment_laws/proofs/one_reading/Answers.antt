use Rattle.psg_comment_laws.proofs.Once.{one_reading}
use Rattle.psg_comment_laws.proofs.one_reading.Goals as goal

pub returns : goal.returns
returns c = one_reading c.args.words.now c.args.token.now c.requires.fit
