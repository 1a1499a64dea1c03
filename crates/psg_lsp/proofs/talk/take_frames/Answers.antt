use Rattle.std.proofs.Common.{arith}
use Rattle.psg_lsp.proofs.TalkLaws.{stops_here, taken_all, taken_none, taken_one}
use Rattle.psg_lsp.proofs.talk.take_frames.Goals as goal

pub loop-place-init : goal.loop-place-init
loop-place-init g c = taken_none c.args.defined.now c.args.kind c.args.server.now _ c.args.frames.now

pub loop-place-preserved : goal.loop-place-preserved
loop-place-preserved g c =
    taken_one c.args.defined.now c.args.kind c.args.server.now c.loop-place.server c.take_frame.new.server _ _ _
    c.args.frames.now c.loop-place.place c.index-frames-place.result c.loop-place-test.true c.index-frames-place.is
    c.loop-place.invariant c.in-None.ensures

pub returns-in-Some : goal.returns-in-Some
returns-in-Some g c =
    stops_here c.args.defined.now c.args.kind c.args.server.now c.loop-place.server _ _ _ c.args.frames.now
    c.loop-place.place c.index-frames-place.result c.in-Some.ending c.loop-place-test.true c.index-frames-place.is
    c.loop-place.invariant c.in-Some.ensures

pub returns : goal.returns
returns g c =
    taken_all c.args.defined.now c.args.kind c.args.server.now c.loop-place.server _ _ c.args.frames.now c.loop-place.place
    (omega arith) c.loop-place.invariant
