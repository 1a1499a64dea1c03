use Rattle.std.proofs.Common.{ap, sym, ◌∙◌}
use Rattle.std.specs.Prelude.{true, false}
use Rattle.psg_modes.specs.Turning.{is_page_key, led}
use Rattle.psg_tui.specs.Pressing.{is_down}
use Rattle.psg_tui.specs.Views.{face_of}
use Rattle.psg_tui.proofs.EditingLaws.{tree_is}
use Rattle.psg_tui.proofs.PagingLaws.{paged_so}
use Rattle.psg_tui.proofs.TurnLaws.{led_other}
use Rattle.psg_tui.proofs.editing.Editing.led.Goals as goal

pub returns-in_ok-path-in-PageDown : goal.returns-in_ok-path-in-PageDown
returns-in_ok-path-in-PageDown c =
    λ tree at.
    paged_so c.args.self.now tree at c.requires.settled c.args.key (ap is_page_key c.in-PageDown.is) true
    (sym (ap is_down c.in-PageDown.is))
    c.in_ok-path-in-PageDown.path c.in_ok-path-in-PageDown.ensures

pub returns-in_ok-path-in-PageUp : goal.returns-in_ok-path-in-PageUp
returns-in_ok-path-in-PageUp c =
    λ tree at.
    paged_so c.args.self.now tree at c.requires.settled c.args.key (ap is_page_key c.in-PageUp.is) false
    (sym (ap is_down c.in-PageUp.is))
    c.in_ok-path-in-PageUp.path c.in_ok-path-in-PageUp.ensures

pub returns-in_ok-path-in_default : goal.returns-in_ok-path-in_default
returns-in_ok-path-in_default c =
    λ tree at.
    led_other c.args.self.now.session.language tree (face_of c.args.self.now.face) c.args.key c.in_ok-path-in_default.path c.in_default.not-PageDown
    c.in_default.not-PageUp (c.in_ok-path-in_default.ensures ∙ ap (λ t. led t c.args.self.now.face.chosen c.args.key)
    (c.tree.ensures ∙ tree_is c.args.self.now c.note_of-note.result.now c.note_of-note.ensures tree at))
