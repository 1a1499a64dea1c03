use Rattle.std.proofs.Common.{string_bytes}
use Rattle.psg_prompt.proofs.RunningLaws.{answer_so, cut_memory, cut_put}
use Rattle.psg_prompt.proofs.running.answer.Goals as goal

pub returns-in-Ok-told-clause-told : goal.returns-in-Ok-told-clause-told
returns-in-Ok-told-clause-told g c =
    answer_so c.args.prompt.now c.args.strokes.now (g.O.Sink.written c.args.out.now) _ c.as_str.result.now
    (string_bytes c.new-text.result) (string_bytes c.tell-told.new.text) c.as_str.ensures.value c.new-text.ensures.bytes
    c.in-Ok-told.ensures.told c.in-Ok.ensures.all

pub returns-in-Ok-clause-cut : goal.returns-in-Ok-clause-cut
returns-in-Ok-clause-cut g c =
    cut_memory c.args.prompt.now c.args.strokes.now (g.O.Sink.written c.args.out.now) (g.O.Sink.written c.put.new.out)
    c.as_str.result.now (string_bytes c.new-text.result) (string_bytes c.tell-told.new.text) c.as_str.ensures.value
    c.new-text.ensures.bytes c.in-Err-told.ensures.memory c.in-Ok.ensures.all

pub returns-clause-cut : goal.returns-clause-cut
returns-clause-cut g c =
    cut_put c.args.prompt.now c.args.strokes.now (g.O.Sink.written c.args.out.now) (g.O.Sink.written c.put.new.out)
    c.as_str.result.now (string_bytes c.new-text.result) (string_bytes c.tell-told.new.text) c.as_str.ensures.value
    c.new-text.ensures.bytes c.tell-told.result c.tell-told.ensures.told c.tell-told.ensures.memory
    c.in-Err.fault c.in-Err.ensures.fault c.in-Err.ensures.front
