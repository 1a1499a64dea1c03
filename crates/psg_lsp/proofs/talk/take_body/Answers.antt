use Rattle.psg_protocol.specs.Frames.{body}
use Rattle.psg_server.specs.Answering.{out_of}
use Rattle.psg_lsp.specs.declared.ending.Ending.TheVariants as endings
use Rattle.psg_lsp.specs.Talking.{by_break}
use Rattle.psg_lsp.proofs.FloatLaws.{answers_plain}
use Rattle.psg_lsp.proofs.TalkLaws.{body_ends, both_then}
use Rattle.psg_lsp.proofs.talk.take_body.Goals as goal

pub returns-in-Ok : goal.returns-in-Ok
returns-in-Ok g c =
    both_then c.put_reply-done.result
    (λ put. (
      out_of c.in-Ok.reply,
      c.in-Ok.ensures.answered,
      put (answers_plain c.args.defined.now c.args.kind c.args.body.now c.args.server.now _ _ c.in-Ok.ensures.answered),
    ))
    (λ e ends. body_ends c.args.defined.now c.args.kind c.args.body.now c.args.server.now _ _ _ _ e
    c.in-Ok.ensures.answered ends)
    c.put_reply-done.ensures

pub returns-in-Err : goal.returns-in-Err
returns-in-Err g c = by_break (body c.args.body.now) endings.Memory tt
