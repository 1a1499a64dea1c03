use Rattle.std.proofs.Common.{ap, ◌∙◌}
use Rattle.std.specs.Prelude.{option_map}
use Rattle.psg_asking.specs.Asked.{names_of}
use Rattle.psg_asking.specs.Told.{names_told, read_of}
use Rattle.psg_modes.specs.Turning.{naming}
use Rattle.psg_tui.specs.Pressing.{named_by}
use Rattle.psg_tui.specs.Views.{face_of}
use Rattle.psg_tui.proofs.TurnLaws.{at_spot, face_known, name_at, names_so, target_spot}
use Rattle.psg_tui.proofs.editing.Editing.begin.Goals as goal

pub returns-clause-begun : goal.returns-clause-begun
returns-clause-begun g c =
    λ tree at.
    let told = option_map read_of c.in_ok-told.told in (
      told,
      name_at c.args.self.now.session.language c.args.self.now.kind tree _ c.in_ok-name.name c.args.op told c.in_ok-name.ensures
          (at_spot c.args.self.now.session.language c.args.self.now.kind tree _ _ (names_of c.in_ok-name.name) (names_told tree) told
          (target_spot c.args.self.now c.find_repair.new.self c.in_ok-find_repair.ensures.left c.in_ok-target.target c.in_ok-target.ensures)
          (names_so c.args.self.now c.find_repair.new.self c.in_ok-find_repair.ensures.left c.known.result.program.language.now
          c.known.result.program.kind c.known.result.program.note.now c.known.ensures.language c.known.ensures.kind
          c.known.ensures.tree _ (names_of c.in_ok-name.name) told c.in_ok-told.ensures.told tree at)),
      c.in_ok-begin_names.ensures.begun
          ∙ ap (λ names. naming c.args.op names (face_of c.find_repair.new.self.face)) c.told_names-names.ensures
          ∙ ap (naming c.args.op (named_by told)) (face_known c.args.self.now c.find_repair.new.self c.in_ok-find_repair.ensures.left),
    )
