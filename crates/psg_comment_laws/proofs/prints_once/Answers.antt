use Rattle.psg_comment_laws.proofs.Again.{prints_once}
use Rattle.psg_comment_laws.proofs.prints_once.Goals as goal

pub returns : goal.returns
returns c = prints_once c.args.words.now c.args.token.now c.requires.fit
