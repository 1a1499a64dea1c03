use Rattle.psg_lsp.proofs.TalkLaws.{AreTakenTo}
use Rattle.psg_lsp.proofs.talk.take_frames.Given as goal

abbrev pub invariant-loop-place : goal.invariant-loop-place
invariant-loop-place g l =
    AreTakenTo l.defined l.kind l.fn.server (g.O.Sink.written l.fn.out) l.frames l.place l.server
    (g.O.Sink.written l.out)
