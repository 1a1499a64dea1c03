use Rattle.psg_comment_laws.proofs.Kept.{loses_none}
use Rattle.psg_comment_laws.proofs.loses_none.Goals as goal

pub returns : goal.returns
returns c = loses_none c.args.words.now c.args.token.now c.requires.fit
