use Rattle.std.proofs.Common.{refl, sym, ◌∙◌}
use Rattle.std.proofs.lemmas.Result.{on_ok_weaker}
use Rattle.psg_modes.specs.Pages.{key_lines}
use Rattle.psg_tui.specs.Views.{face_of}
use Rattle.psg_tui.proofs.TurnLaws.{picks_so, program_face, takes_none_so, takes_so}
use Rattle.psg_tui.proofs.editing.Editing.pick.Goals as goal

pub returns-in-Some-clause-picked : goal.returns-in-Some-clause-picked
returns-in-Some-clause-picked g c =
    on_ok_weaker c.begin.result (λ h tree at.
    let r = h tree at in
    takes_so c.args.self.now.session.language c.args.self.now.kind tree key_lines (face_of c.args.self.now.face) c.args.key (face_of c.begin.new.self.face)
    c.in-Some.op r.0 c.in-Enter.is (sym c.in_ok-op-in-Enter.ensures ∙ c.in-Some.is) r.1 r.2) c.begin.ensures.begun

pub returns-in-None-clause-picked : goal.returns-in-None-clause-picked
returns-in-None-clause-picked g c =
    λ tree at.
    takes_none_so c.args.self.now.session.language c.args.self.now.kind tree key_lines (face_of c.args.self.now.face) c.args.key (face_of c.args.self.now.face)
    c.in-Enter.is (sym c.in_ok-op-in-Enter.ensures ∙ c.in-None.is) refl

pub returns-in_default : goal.returns-in_default
returns-in_default g c =
    record {
      picked = on_ok_weaker c.choose_key.result (λ h tree at.
          picks_so c.args.self.now.session.language c.args.self.now.kind tree key_lines (face_of c.args.self.now.face) c.args.key (face_of c.choose_key.new.face)
          c.in_default.not-Enter h) c.choose_key.ensures.picked;
      left = (refl, refl);
      program = program_face c.args.self.now c.choose_key.new.face;
      aim = refl;
      memory = c.choose_key.ensures.memory;
      files = (refl, refl);
    }
