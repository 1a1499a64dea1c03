use Rattle.std.proofs.Common.{ap, ◌∙◌}
use Rattle.std.specs.Prelude.{option_map, unwrap_or}
use Rattle.psg_keymap.specs.Ranges.{both, bytes_at}
use Rattle.psg_tui.proofs.EditingLaws.{tree_is}
use Rattle.psg_tui.proofs.PictureLaws.{chosen_so, with_marks}
use Rattle.psg_tui.proofs.picture.mark.Goals as goal

pub returns-clause-chosen : goal.returns-clause-chosen
returns-clause-chosen c = λ tree at.
    let e = c.args.editing.now in
    chosen_so e tree c.tree-tree.result.now c.bytes_of-chosen.result at c.requires.settled
    (c.tree-tree.ensures ∙ tree_is e c.note_of.result.now c.note_of.ensures tree at)
    (c.bytes_of-chosen.ensures
    ∙ ap (λ s. unwrap_or (option_map both (bytes_at c.tree-tree.result.now s e.face.chosen)) (0, 0)) c.as_slice.ensures)

pub returns-clause-right : goal.returns-clause-right
returns-clause-right c = c.in_ok-wrong.ensures

pub returns-clause-left : goal.returns-clause-left
returns-clause-left c =
    with_marks c.args.editing.now
    (record c.args.editing.now.shown.marks { chosen = c.bytes_of-chosen.result; wrong = c.in_ok-wrong.wrong })
