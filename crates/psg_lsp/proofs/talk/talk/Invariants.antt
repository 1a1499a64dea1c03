use Rattle.psg_lsp.specs.Talking.{place_at}
use Rattle.psg_lsp.proofs.TalkLaws.{IsTalking}
use Rattle.psg_lsp.proofs.talk.talk.Given as goal

abbrev pub invariant-loop-turn : goal.invariant-loop-turn
invariant-loop-turn g l =
    IsTalking l.defined l.kind (g.I.Pieces.left l.fn.input) (g.O.Sink.written l.fn.out)
    (place_at (g.I.Pieces.left l.input) l.reader l.server (g.O.Sink.written l.out))
