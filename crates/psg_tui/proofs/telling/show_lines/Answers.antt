use Rattle.std.proofs.Common.{[], sym, ap, ◌∙◌}
use Rattle.std.specs.Prelude.{Some}
use Rattle.psg_asking.specs.Told.{read_of}
use Rattle.psg_keymap.specs.Faces.{refused}
use Rattle.psg_modes.specs.Turning.{paging, saying}
use Rattle.psg_tui.specs.Pressing.{related}
use Rattle.psg_tui.specs.Views.{face_of}
use Rattle.psg_tui.proofs.telling.show_lines.Goals as goal

pub returns-in_ok-page-in-Ok-clause-shown : goal.returns-in_ok-page-in-Ok-clause-shown
returns-in_ok-page-in-Ok-clause-shown c = (
  c.in_ok-page-in-Ok.ensures.0,
  c.show_page.ensures
      ∙ ap (λ page. paging page (face_of c.args.face.now)) c.in_ok-page-in-Ok.ensures.1
      ∙ ap (λ r. related c.in_ok-page-in-Ok.ensures.0 (face_of c.args.face.now) (Some (read_of r))) (sym c.in-Ok.is),
)

pub returns-in-Err-clause-shown : goal.returns-in-Err-clause-shown
returns-in-Err-clause-shown c = (
  [],
  c.say.ensures ∙ ap (λ n. saying (refused n) (face_of c.args.face.now)) c.number.ensures
      ∙ ap (λ r. related [] (face_of c.args.face.now) (Some (read_of r))) (sym c.in-Err.is),
)
