use Rattle.std.proofs.Common.{sym, ◌∙◌}
use Rattle.psg_lsp.proofs.TalkLaws.{vec_empty, next_at_end, next_piece, next_stop}
use Rattle.psg_lsp.proofs.talk.take_next.Goals as goal

pub returns-then-is_empty : goal.returns-then-is_empty
returns-then-is_empty g c =
    next_at_end c.args.defined.now c.args.kind _ _ _ _ _ c.in-Ok.piece.items c.in-Ok.ensures.gives
    (vec_empty c.in-Ok.piece (sym c.is_empty.ensures ∙ c.if-is_empty.true))

pub returns-else-is_empty : goal.returns-else-is_empty
returns-else-is_empty g c =
    next_piece c.args.defined.now c.args.kind c.take_piece-done.result c.args.server.now c.take_piece-done.new.server _ _ _ _
    c.in-Ok.piece.items c.as_slice-bytes.result.now _ _ c.as_slice-bytes.ensures.value c.in-Ok.ensures.gives
    c.take_piece-done.ensures

pub returns-in-Err : goal.returns-in-Err
returns-in-Err g c =
    next_stop c.args.defined.now c.args.kind _ _ _ _ _ _ c.in-Err.ensures.keeps c.read_ending.ensures
