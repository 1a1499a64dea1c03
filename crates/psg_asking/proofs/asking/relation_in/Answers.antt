use Rattle.std.proofs.Common.{subst}
use Rattle.psg_cache.specs.Annotated.{tree_in}
use Rattle.psg_script.specs.declared.command.Command.TheVariants as commands
use Rattle.psg_script.specs.declared.command.Where.{Where}
use Rattle.psg_session.specs.Views.{reply_of}
use Rattle.psg_asking.specs.Programs.{IsReply}
use Rattle.psg_asking.proofs.asking.relation_in.Goals as goal

pub returns-clause-told : goal.returns-clause-told
returns-clause-told g c = record {
  reply = reply_of c.in_ok-reply.reply;
  replies = subst (λ (w : Where). IsReply c.args.program.language.now c.args.program.kind (tree_in c.args.program.note.now)
      (commands.Relation w) (reply_of c.in_ok-reply.reply)) c.in_ok-at.ensures c.in_ok-reply.ensures.reply;
  is_read = c.in_ok-read.ensures;
}
