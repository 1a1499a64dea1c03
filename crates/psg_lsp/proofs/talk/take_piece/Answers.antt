use Rattle.std.proofs.Common.{inl}
use Rattle.psg_lsp.proofs.TalkLaws.{piece_taken}
use Rattle.psg_lsp.proofs.talk.take_piece.Goals as goal

pub returns-in-Ok : goal.returns-in-Ok
returns-in-Ok g c =
    piece_taken c.args.defined.now c.args.kind c.take_frames-done.result c.args.server.now c.take_frames-done.new.server _ _
    c.args.piece.now c.as_slice.result.now c.in-Ok.frames.items _ _ c.as_slice.ensures.value c.in-Ok.ensures.reads
    c.take_frames-done.ensures

pub returns-in-Err : goal.returns-in-Err
returns-in-Err g c = inl tt
