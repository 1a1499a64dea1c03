use Rattle.psg_server.proofs.TextLaws.{last_kept}
use Rattle.psg_server.proofs.laws.last_text_is_kept.Goals as goal

pub returns : goal.returns
returns c = λ kind. last_kept c.args.defined.now kind
