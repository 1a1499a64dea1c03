use Rattle.std.proofs.Common.{sym, ◌∙◌}
use Rattle.psg_keymap.specs.Views.{face_of}
use Rattle.psg_modes.specs.Pages.{key_lines}
use Rattle.psg_tui.proofs.DueLaws.{either_keys, either_so, needs_so, no_need, of_table_by}
use Rattle.psg_tui.proofs.ShownLaws.{right_by}
use Rattle.psg_tui.proofs.editing.Editing.due_in.Goals as goal

pub due_text-text-requires-clause-putting : goal.due_text-text-requires-clause-putting
due_text-text-requires-clause-putting g c =
    (needs_so c.needs_text-needs.result _ _ _ c.needs_text-needs.ensures c.if-needs.true c.is_wrong.ensures).0

pub due_text-text-requires-clause-wrong : goal.due_text-text-requires-clause-wrong
due_text-text-requires-clause-wrong g c =
    (needs_so c.needs_text-needs.result _ _ _ c.needs_text-needs.ensures c.if-needs.true c.is_wrong.ensures).1

pub returns-then-needs-clause-due : goal.returns-then-needs-clause-due
returns-then-needs-clause-due g c =
    either_so _ c.due_text-text.result c.text_or.result c.args.due c.text_or.ensures c.due_text-text.ensures.due

pub returns-then-needs-clause-keys : goal.returns-then-needs-clause-keys
returns-then-needs-clause-keys g c =
    λ keys. either_so _ c.due_text-text.result c.text_or.result c.args.due c.text_or.ensures
    (either_keys c.due_text-text.result c.args.due keys c.due_text-text.ensures.keys)

pub returns-clause-due : goal.returns-clause-due
returns-clause-due g c =
    λ tree key at e.
    of_table_by c.args.self.now.session.language c.args.self.now.kind tree key_lines (face_of c.args.self.now.face) key _ e
    (no_need c.args.self.now.session.language c.args.self.now.kind tree key_lines (face_of c.args.self.now.face) key
    c.is_wrong.result (sym c.needs_text-needs.ensures ∙ c.if-needs.false)
    (λ w. right_by c.args.self.now.session.language tree _ (at.shown c.requires.settled).marked (sym c.is_wrong.ensures ∙ w)))
