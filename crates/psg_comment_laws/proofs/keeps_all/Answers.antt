use Rattle.psg_comment_laws.proofs.Kept.{keeps_all}
use Rattle.psg_comment_laws.proofs.keeps_all.Goals as goal

pub returns : goal.returns
returns c = keeps_all c.args.words.now c.args.token.now c.requires.fit
