use Rattle.std.proofs.Common.{ap, ◌∙◌}
use Rattle.std.specs.Prelude.{option_map}
use Rattle.psg_asking.specs.Asked.{menu_of}
use Rattle.psg_asking.specs.Told.{read_of, words_told}
use Rattle.psg_tui.specs.Pressing.{offered}
use Rattle.psg_tui.proofs.TurnLaws.{desk_after, face_known, told_so}
use Rattle.psg_tui.proofs.editing.Editing.offer.Goals as goal

pub returns-clause-offered : goal.returns-clause-offered
returns-clause-offered g c =
    λ tree at. (
      option_map read_of c.in_ok-told.told,
      told_so c.args.self.now c.find_repair.new.self c.in_ok-find_repair.ensures.left c.known.result.program.language.now
          c.known.result.program.kind c.known.result.program.note.now c.known.ensures.language c.known.ensures.kind
          c.known.ensures.tree c.args.spot menu_of words_told (option_map read_of c.in_ok-told.told) c.in_ok-told.ensures.told
          tree at,
      desk_after c.args.self.now c.find_repair.new.self c.show_menu.new.face _ c.in_ok-find_repair.ensures.left
          (c.in_ok-show_menu.ensures.shown
          ∙ ap (λ f. offered f c.args.spot (option_map read_of c.in_ok-told.told)) (face_known c.args.self.now c.find_repair.new.self c.in_ok-find_repair.ensures.left)),
    )
