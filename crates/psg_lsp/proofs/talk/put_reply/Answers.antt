use Rattle.std.proofs.Common.{refl}
use Rattle.psg_lsp.proofs.TalkLaws.{reply_ended, reply_nothing, reply_sent}
use Rattle.psg_lsp.proofs.talk.put_reply.Goals as goal

pub returns-in-Nothing : goal.returns-in-Nothing
returns-in-Nothing g c = reply_nothing c.args.reply.now _ _ c.in-Nothing.is refl

pub returns-in-Sent : goal.returns-in-Sent
returns-in-Sent g c = reply_sent _ c.args.reply.now _ _ _ c.in-Sent.is c.put_value-done.ensures

pub returns-in-Ended : goal.returns-in-Ended
returns-in-Ended g c = reply_ended c.args.reply.now _ _ _ c.in-Ended.is refl
