use Rattle.std.proofs.Common.{refl}
use Rattle.std.proofs.lemmas.Result.{on_ok_weaker}
use Rattle.psg_modes.specs.Pages.{key_lines}
use Rattle.psg_tui.specs.Views.{desk, face_of}
use Rattle.psg_tui.proofs.TurnLaws.{desk_face, led_at, led_so}
use Rattle.psg_tui.proofs.editing.Editing.browse.Goals as goal

pub returns-in-Some-clause-browsed : goal.returns-in-Some-clause-browsed
returns-in-Some-clause-browsed g c =
    λ tree at.
    led_so c.args.self.now.session.language c.args.self.now.kind tree key_lines (desk c.args.self.now) _ _ c.args.stroke.now c.in-Some.path _
    (led_at c.args.self.now.session.language tree (face_of c.args.self.now.face) c.key.result c.args.stroke.now.key _ _ c.key.ensures c.in-Some.is
    (c.in_ok-path.ensures tree at)) refl (desk_face c.args.self.now c.choose_path.new.face _ c.choose_path.ensures)

pub returns-in-None-clause-browsed : goal.returns-in-None-clause-browsed
returns-in-None-clause-browsed g c =
    on_ok_weaker c.browse_spot.result (λ h tree at. h tree at
    (led_at c.args.self.now.session.language tree (face_of c.args.self.now.face) c.key.result c.args.stroke.now.key _ _ c.key.ensures c.in-None.is
    (c.in_ok-path.ensures tree at))) c.browse_spot.ensures.browsed
