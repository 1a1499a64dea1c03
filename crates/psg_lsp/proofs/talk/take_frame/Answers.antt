use Rattle.psg_lsp.proofs.TalkLaws.{frame_body, frame_long, frame_lost}
use Rattle.psg_lsp.proofs.talk.take_frame.Goals as goal

pub returns-in-Body : goal.returns-in-Body
returns-in-Body g c =
    frame_body c.args.defined.now c.args.kind c.take_body-done.result c.args.server.now c.take_body-done.new.server _ _
    c.args.frame.now _ _ c.in-Body.is c.as_slice.ensures.value c.take_body-done.ensures

pub returns-in-TooLong : goal.returns-in-TooLong
returns-in-TooLong g c =
    frame_long c.args.defined.now c.args.kind c.put_long-done.result c.args.server.now _ _ c.args.frame.now _
    c.in-TooLong.is c.put_long-done.ensures

pub returns-in-Lost : goal.returns-in-Lost
returns-in-Lost g c =
    frame_lost c.args.defined.now c.args.kind c.put_lost-ending.result c.args.server.now _ _ c.args.frame.now c.in-Lost.is
    (c.put_lost-ending.ensures c.args.defined.now c.args.kind c.args.server.now)
