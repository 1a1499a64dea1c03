use Rattle.std.proofs.Common.{refl, ap}
use Rattle.std.proofs.lemmas.Result.{on_ok_weaker, on_err_weaker}
use Rattle.psg_modes.specs.Pages.{key_lines}
use Rattle.psg_tui.specs.Views.{desk}
use Rattle.psg_tui.proofs.TurnLaws.{desk_left, letter_at, others_so, program_left, related_so, same_outside, untouched_left, writes_so, wrong_at, wrong_so}
use Rattle.psg_tui.specs.declared.editing.Editing.{Editing}
use Rattle.psg_tui.proofs.editing.Editing.browse_own.Goals as goal

pub returns-then-wrong-clause-browsed : goal.returns-then-wrong-clause-browsed
returns-then-wrong-clause-browsed g c =
    on_ok_weaker c.go_wrong.result (λ h tree at not_led no_spot.
    wrong_so c.args.self.now.session.language c.args.self.now.kind tree key_lines (desk c.args.self.now) _ _ c.args.stroke.now c.key-key.result c.key-key.ensures (desk c.go_wrong.new.self) (wrong_at c.is_wrong_key-wrong.result _ c.key-key.result c.is_wrong_key-wrong.ensures c.if-wrong.true) refl (h tree at))
    c.go_wrong.ensures.gone

pub returns-then-wrong-clause-memory : goal.returns-then-wrong-clause-memory
returns-then-wrong-clause-memory g c =
    on_err_weaker c.go_wrong.result (λ u. (u, refl)) c.go_wrong.ensures.memory

pub returns-then-relation-clause-browsed : goal.returns-then-relation-clause-browsed
returns-then-relation-clause-browsed g c =
    on_ok_weaker c.show_relation.result (λ h tree at not_led no_spot.
    let r = h tree at in
    related_so c.args.self.now.session.language c.args.self.now.kind tree key_lines (desk c.args.self.now) _ _ c.args.stroke.now c.key-key.result c.key-key.ensures r.0 r.1 (desk c.show_relation.new.self) (letter_at c.is_letter-relation.result _ 114 c.key-key.result c.is_letter-relation.ensures c.if-relation.true)
    r.2 (same_outside _ _ _ _ c.show_relation.ensures.files) r.3) c.show_relation.ensures.shown

pub returns-then-relation-clause-memory : goal.returns-then-relation-clause-memory
returns-then-relation-clause-memory g c =
    on_err_weaker c.show_relation.result (λ u. (u, c.show_relation.ensures.files.0)) c.show_relation.ensures.memory

pub returns-then-writes-clause-browsed : goal.returns-then-writes-clause-browsed
returns-then-writes-clause-browsed g c =
    on_ok_weaker c.write.result (λ h tree at not_led no_spot.
    writes_so c.args.self.now.session.language c.args.self.now.kind tree key_lines (desk c.args.self.now) _ _ c.args.stroke.now c.key-key.result c.key-key.ensures (desk c.write.new.self) (letter_at c.is_letter-writes.result _ 119 c.key-key.result c.is_letter-writes.ensures c.if-writes.true) (h tree at))
    c.write.ensures.written

pub returns-clause-browsed : goal.returns-clause-browsed
returns-clause-browsed g c =
    on_ok_weaker c.browse_other.result (λ h tree at not_led no_spot.
    others_so c.args.self.now.session.language c.args.self.now.kind tree key_lines (desk c.args.self.now) _ _ c.args.stroke.now c.key-key.result c.key-key.ensures (desk c.browse_other.new.self) (wrong_at c.is_wrong_key-wrong.result _ c.key-key.result c.is_wrong_key-wrong.ensures c.if-wrong.false)
    (letter_at c.is_letter-relation.result _ 114 c.key-key.result c.is_letter-relation.ensures c.if-relation.false) (letter_at c.is_letter-writes.result _ 119 c.key-key.result c.is_letter-writes.ensures c.if-writes.false)
    not_led no_spot refl
    (desk_left c.args.self.now c.browse_other.new.self _ c.browse_other.ensures.left (h tree at)))
    c.browse_other.ensures.browsed

pub returns-clause-program : goal.returns-clause-program
returns-clause-program g c =
    program_left c.args.self.now c.browse_other.new.self c.browse_other.ensures.left

pub returns-clause-aim : goal.returns-clause-aim
returns-clause-aim g c =
    ap (λ (e : Editing). e.aim) c.browse_other.ensures.left

pub returns-clause-memory : goal.returns-clause-memory
returns-clause-memory g c =
    on_err_weaker c.browse_other.result (λ same.
    (untouched_left c.args.self.now c.browse_other.new.self c.browse_other.ensures.left same, refl))
    c.browse_other.ensures.memory
