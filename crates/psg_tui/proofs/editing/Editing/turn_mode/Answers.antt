use Rattle.std.proofs.Common.{refl, ap, ap₂, ◌∙◌}
use Rattle.std.proofs.lemmas.Result.{on_ok_weaker, on_err_weaker}
use Rattle.psg_keymap.specs.declared.face.Mode.TheVariants as modes
use Rattle.psg_modes.specs.Pages.{key_lines}
use Rattle.psg_modes.specs.Turning.{line_key, named_key, paged_key}
use Rattle.psg_tui.specs.Views.{desk, face_of}
use Rattle.psg_tui.proofs.TurnLaws.{chooses_at, desk_by, desk_face, in_mode_so, leaves_at, replaces_at, same_outside, saves_at, untouched_by, untouched_face}
use Rattle.psg_tui.proofs.editing.Editing.turn_mode.Goals as goal

pub returns-in-Browsing-clause-turned : goal.returns-in-Browsing-clause-turned
returns-in-Browsing-clause-turned g c =
    on_ok_weaker c.browse.result (λ h tree at.
    in_mode_so c.args.self.now.session.language c.args.self.now.kind tree key_lines (desk c.args.self.now) _ _ c.args.stroke.now (desk c.browse.new.self) c.args.self.now.face.mode modes.Browsing c.in-Browsing.is
    (h tree at))
    c.browse.ensures.browsed

pub returns-in-Typing-clause-turned : goal.returns-in-Typing-clause-turned
returns-in-Typing-clause-turned g c =
    on_ok_weaker c.type_key.result (λ h tree at.
    in_mode_so c.args.self.now.session.language c.args.self.now.kind tree key_lines (desk c.args.self.now) _ _ c.args.stroke.now _ c.args.self.now.face.mode modes.Typing c.in-Typing.is
    (desk_face c.args.self.now c.type_key.new.face _ (h ∙ ap (λ k. line_key (face_of c.args.self.now.face) k) c.key-key.ensures), refl))
    c.type_key.ensures.typed

pub returns-in-Typing-clause-memory : goal.returns-in-Typing-clause-memory
returns-in-Typing-clause-memory g c =
    on_err_weaker c.type_key.result (λ same. (untouched_face c.args.self.now c.type_key.new.face same, refl)) c.type_key.ensures.memory

pub returns-in-Choosing-clause-turned : goal.returns-in-Choosing-clause-turned
returns-in-Choosing-clause-turned g c =
    on_ok_weaker c.pick.result (λ h tree at.
    in_mode_so c.args.self.now.session.language c.args.self.now.kind tree key_lines (desk c.args.self.now) _ _ c.args.stroke.now (desk c.pick.new.self) c.args.self.now.face.mode modes.Choosing c.in-Choosing.is (
      face_of c.pick.new.self.face,
      chooses_at c.args.self.now.session.language c.args.self.now.kind tree key_lines (face_of c.args.self.now.face) _ _ _ c.key-key.ensures (h tree at),
      desk_by c.args.self.now c.pick.new.self (face_of c.pick.new.self.face) c.pick.ensures.program c.pick.ensures.left.0 c.pick.ensures.left.1 refl,
      same_outside _ _ _ _ c.pick.ensures.files,
    ))
    c.pick.ensures.picked

pub returns-in-Choosing-clause-memory : goal.returns-in-Choosing-clause-memory
returns-in-Choosing-clause-memory g c =
    on_err_weaker c.pick.result (λ same. (untouched_by c.args.self.now c.pick.new.self c.pick.ensures.left same, c.pick.ensures.files.0)) c.pick.ensures.memory

pub returns-in-Naming-clause-turned : goal.returns-in-Naming-clause-turned
returns-in-Naming-clause-turned g c =
    on_ok_weaker c.name_key.result (λ h tree at.
    in_mode_so c.args.self.now.session.language c.args.self.now.kind tree key_lines (desk c.args.self.now) _ _ c.args.stroke.now _ c.args.self.now.face.mode modes.Naming c.in-Naming.is
    (desk_face c.args.self.now c.name_key.new.face _ (h ∙ ap₂ (λ d k. named_key d (face_of c.args.self.now.face) k) (c.definition-definition.ensures.same ∙ c.language.ensures.same) c.key-key.ensures), refl))
    c.name_key.ensures.named

pub returns-in-Naming-clause-memory : goal.returns-in-Naming-clause-memory
returns-in-Naming-clause-memory g c =
    on_err_weaker c.name_key.result (λ same. (untouched_face c.args.self.now c.name_key.new.face same, refl)) c.name_key.ensures.memory

pub returns-in-Saving-clause-turned : goal.returns-in-Saving-clause-turned
returns-in-Saving-clause-turned g c =
    on_ok_weaker c.save_key.result (λ h tree at.
    in_mode_so c.args.self.now.session.language c.args.self.now.kind tree key_lines (desk c.args.self.now) _ _ c.args.stroke.now (desk c.save_key.new.self) c.args.self.now.face.mode modes.Saving c.in-Saving.is
    (saves_at c.args.self.now.session.language c.args.self.now.kind tree key_lines (desk c.args.self.now) _ _ _ _ _ c.key-key.ensures (h tree at)))
    c.save_key.ensures.saved

pub returns-in-Replacing-clause-turned : goal.returns-in-Replacing-clause-turned
returns-in-Replacing-clause-turned g c =
    on_ok_weaker c.replace_key.result (λ h tree at.
    in_mode_so c.args.self.now.session.language c.args.self.now.kind tree key_lines (desk c.args.self.now) _ _ c.args.stroke.now (desk c.replace_key.new.self) c.args.self.now.face.mode modes.Replacing c.in-Replacing.is
    (replaces_at c.args.self.now.session.language c.args.self.now.kind tree key_lines (desk c.args.self.now) _ _ _ _ _ c.key-key.ensures (h tree at)))
    c.replace_key.ensures.replaced

pub returns-in-Paging-clause-turned : goal.returns-in-Paging-clause-turned
returns-in-Paging-clause-turned g c =
    λ tree at.
    in_mode_so c.args.self.now.session.language c.args.self.now.kind tree key_lines (desk c.args.self.now) _ _ c.args.stroke.now _ c.args.self.now.face.mode modes.Paging c.in-Paging.is
    (desk_face c.args.self.now c.page_key.new.face _ (c.page_key.ensures ∙ ap (λ k. paged_key (face_of c.args.self.now.face) k) c.key-key.ensures), refl)

pub returns-in-Leaving-clause-turned : goal.returns-in-Leaving-clause-turned
returns-in-Leaving-clause-turned g c =
    on_ok_weaker c.leave_key.result (λ h tree at.
    in_mode_so c.args.self.now.session.language c.args.self.now.kind tree key_lines (desk c.args.self.now) _ _ c.args.stroke.now (desk c.leave_key.new.self) c.args.self.now.face.mode modes.Leaving c.in-Leaving.is
    (leaves_at c.args.self.now.session.language c.args.self.now.kind tree key_lines (desk c.args.self.now) _ _ _ _ _ c.key-key.ensures (h tree at)))
    c.leave_key.ensures.left
