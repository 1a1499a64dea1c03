use Rattle.std.proofs.Common.{ap, ◌∙◌, not, ◌++◌, cond}
use Rattle.std.specs.Prelude.{◌&&◌}
use Rattle.psg_keys.specs.Reading.{Waiting, is_escape}
use Rattle.psg_keys.proofs.ByteLaws.{read_next}
use Rattle.psg_keys.proofs.reader.next_keys.Goals as goal

pub returns : goal.returns
returns c =
    let old : Waiting = record { pasting = c.args.pasting; late = c.args.late; bytes = c.args.kept.now } in
    read_next old c.args.piece.now c.as_slice-bytes.result.now c.is_both-again.result
    c.in_ok-found.found.strokes.items c.in_ok-found.found.pasting c.in_ok-found.found.late c.in_ok-found.found.kept.items
    c.in_ok-strokes.strokes.items c.is_escape-escape.result c.is_either-late.result
    (c.is_both-again.ensures ∙ ap (λ b. c.args.late && b) c.is_continued-continued.ensures)
    (c.as_slice-bytes.ensures.value ∙ c.in_ok-text.ensures
    ∙ ap (λ f. cond f c.args.piece.now (c.args.kept.now ++ c.args.piece.now))
    (c.is_both-fresh.ensures ∙ ap (λ b. c.args.late && not b) c.is_continued-continued.ensures))
    c.in_ok-found.ensures (c.is_escape-escape.ensures ∙ ap (is_escape c.in_ok-found.found.pasting) c.as_slice-rest.ensures.value)
    c.in_ok-strokes.ensures c.is_either-late.ensures
