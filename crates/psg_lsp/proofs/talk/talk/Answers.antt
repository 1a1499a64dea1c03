use Rattle.psg_lsp.proofs.TalkLaws.{begun, talk_on, talk_over, talk_worn}
use Rattle.psg_lsp.proofs.talk.talk.Goals as goal

pub loop-turn-init : goal.loop-turn-init
loop-turn-init g c =
    begun c.args.defined.now c.args.kind (g.I.Pieces.left c.args.input.now) (g.O.Sink.written c.args.out.now) _ _
    c.new-reader.ensures c.new-server.ensures

pub loop-turn-preserved : goal.loop-turn-preserved
loop-turn-preserved g c =
    talk_on c.args.defined.now c.args.kind (g.I.Pieces.left c.args.input.now) (g.O.Sink.written c.args.out.now) _ _
    c.loop-turn.invariant c.in-None.ensures

pub returns-in-Some : goal.returns-in-Some
returns-in-Some g c =
    talk_over c.args.defined.now c.args.kind (g.I.Pieces.left c.args.input.now) (g.O.Sink.written c.args.out.now) _ _ _
    c.in-Some.ending c.loop-turn.invariant c.in-Some.ensures

pub returns : goal.returns
returns g c =
    talk_worn c.args.defined.now c.args.kind (g.I.Pieces.left c.args.input.now) (g.O.Sink.written c.args.out.now) _
    c.loop-turn.invariant
