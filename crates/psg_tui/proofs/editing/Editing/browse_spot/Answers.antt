use Rattle.std.proofs.Common.{◌∙◌}
use Rattle.std.proofs.lemmas.Result.{on_ok_weaker, on_err_weaker}
use Rattle.psg_modes.specs.Pages.{key_lines}
use Rattle.psg_tui.specs.Views.{desk}
use Rattle.psg_tui.proofs.EditingLaws.{tree_is}
use Rattle.psg_tui.proofs.TurnLaws.{offered_so, same_outside, spot_is}
use Rattle.psg_tui.proofs.editing.Editing.browse_spot.Goals as goal

pub returns-in-Some-clause-browsed : goal.returns-in-Some-clause-browsed
returns-in-Some-clause-browsed g c =
    on_ok_weaker c.offer.result (λ h tree at not_led.
    let r = h tree at in
    offered_so c.args.self.now.session.language c.args.self.now.kind tree key_lines (desk c.args.self.now) _ _ c.args.stroke.now c.in-Some.spot r.0
    (desk c.offer.new.self)
    (spot_is c.tree.result.now tree c.args.self.now.face.chosen c.key.result c.args.stroke.now.key _ _
    (c.tree.ensures ∙ tree_is c.args.self.now c.note_of-note.result.now c.note_of-note.ensures tree at) c.key.ensures c.in_ok-spot.ensures c.in-Some.is) r.1 (same_outside _ _ _ _ c.offer.ensures.files) r.2)
    c.offer.ensures.offered

pub returns-in-Some-clause-memory : goal.returns-in-Some-clause-memory
returns-in-Some-clause-memory g c =
    on_err_weaker c.offer.result (λ u. (u, c.offer.ensures.files.0)) c.offer.ensures.memory

pub returns-in-None-clause-browsed : goal.returns-in-None-clause-browsed
returns-in-None-clause-browsed g c =
    on_ok_weaker c.browse_own.result (λ h tree at not_led.
    h tree at not_led (spot_is c.tree.result.now tree c.args.self.now.face.chosen c.key.result c.args.stroke.now.key _ _
    (c.tree.ensures ∙ tree_is c.args.self.now c.note_of-note.result.now c.note_of-note.ensures tree at) c.key.ensures c.in_ok-spot.ensures c.in-None.is)) c.browse_own.ensures.browsed
