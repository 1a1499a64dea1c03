use Rattle.std.proofs.Common.{ap, ◌∙◌}
use Rattle.std.specs.Prelude.{option_map}
use Rattle.psg_asking.specs.Asked.{relation_of}
use Rattle.psg_asking.specs.Told.{lines_told, read_of}
use Rattle.psg_tui.specs.Pressing.{related}
use Rattle.psg_tui.proofs.TurnLaws.{at_spot, desk_after, face_known, place_spot, told_so}
use Rattle.psg_tui.proofs.editing.Editing.show_relation.Goals as goal

pub returns-clause-shown : goal.returns-clause-shown
returns-clause-shown g c =
    λ tree at.
    let told = option_map read_of c.in_ok-told.told in (
      c.in_ok-show_rows.ensures.shown.0,
      told,
      at_spot c.args.self.now.session.language c.args.self.now.kind tree _ _ relation_of lines_told told
          (place_spot c.args.self.now c.find_repair.new.self c.in_ok-find_repair.ensures.left c.in_ok-target.target c.in_ok-target.ensures)
          (told_so c.args.self.now c.find_repair.new.self c.in_ok-find_repair.ensures.left c.known.result.program.language.now
          c.known.result.program.kind c.known.result.program.note.now c.known.ensures.language c.known.ensures.kind
          c.known.ensures.tree _ relation_of lines_told told c.in_ok-told.ensures.told tree at),
      desk_after c.args.self.now c.find_repair.new.self c.show_rows.new.face _ c.in_ok-find_repair.ensures.left
          (c.in_ok-show_rows.ensures.shown.1
          ∙ ap (λ f. related c.in_ok-show_rows.ensures.shown.0 f told) (face_known c.args.self.now c.find_repair.new.self c.in_ok-find_repair.ensures.left)),
    )
