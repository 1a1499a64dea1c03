use Rattle.std.proofs.Common.{refl, sym, ◌∙◌}
use Rattle.std.proofs.lemmas.Result.{on_ok_weaker, on_err_weaker}
use Rattle.psg_keys.specs.declared.key.Key.TheVariants as keys
use Rattle.psg_modes.specs.Pages.{key_lines}
use Rattle.psg_tui.specs.Views.{desk}
use Rattle.psg_tui.proofs.TurnLaws.{desk_face, turns_by, turns_so, untouched_face}
use Rattle.psg_tui.proofs.editing.Editing.turn.Goals as goal

pub returns-in-Size-clause-turned : goal.returns-in-Size-clause-turned
returns-in-Size-clause-turned g c =
    λ tree at.
    turns_by c.args.self.now.session.language c.args.self.now.kind tree key_lines (desk c.args.self.now) _ _ c.args.stroke.now _ c.args.stroke.now.key
    (keys.Size c.in-Size.rows c.in-Size.cols) (sym c.key.ensures ∙ c.in-Size.is)
    (desk_face c.args.self.now c.take_size.new.face _ c.take_size.ensures, refl)

pub returns-in-Unknown-clause-turned : goal.returns-in-Unknown-clause-turned
returns-in-Unknown-clause-turned g c =
    on_ok_weaker c.say_unknown.result (λ h tree at.
    turns_by c.args.self.now.session.language c.args.self.now.kind tree key_lines (desk c.args.self.now) _ _ c.args.stroke.now _ c.args.stroke.now.key
    keys.Unknown (sym c.key.ensures ∙ c.in-Unknown.is)
    (desk_face c.args.self.now c.say_unknown.new.face _ h, refl)) c.say_unknown.ensures.said

pub returns-in-Unknown-clause-memory : goal.returns-in-Unknown-clause-memory
returns-in-Unknown-clause-memory g c =
    on_err_weaker c.say_unknown.result
    (λ same. (untouched_face c.args.self.now c.say_unknown.new.face same, refl)) c.say_unknown.ensures.memory

pub returns-in_default : goal.returns-in_default
returns-in_default g c =
    record {
      turned = on_ok_weaker c.turn_mode.result (λ h tree at.
          turns_by c.args.self.now.session.language c.args.self.now.kind tree key_lines (desk c.args.self.now) _ _ c.args.stroke.now (desk c.turn_mode.new.self)
          c.args.stroke.now.key c.key.result (sym c.key.ensures)
          (turns_so c.args.self.now.session.language c.args.self.now.kind tree key_lines (desk c.args.self.now) _ _ c.args.stroke.now (desk c.turn_mode.new.self)
          c.key.result c.in_default.not-Size c.in_default.not-Unknown (h tree at))) c.turn_mode.ensures.turned;
      program = c.turn_mode.ensures.program;
      aim = c.turn_mode.ensures.aim;
      memory = c.turn_mode.ensures.memory;
    }
