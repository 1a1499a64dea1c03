use Rattle.std.proofs.Common.{sym, ◌∙◌}
use Rattle.std.proofs.lemmas.Result.{IfOk-weaker}
use Rattle.psg_modes.specs.Pages.{key_lines}
use Rattle.psg_tui.specs.Views.{face_of}
use Rattle.psg_tui.proofs.DueLaws.{no_command, printed_seen, table_is, table_keys}
use Rattle.psg_tui.proofs.EditingLaws.{tree_is}
use Rattle.psg_tui.proofs.editing.Editing.due.Goals as goal

pub command_of-requires : goal.command_of-requires
command_of-requires g c =
    record { printed = printed_seen c.args.self.now c.requires.editing.0 c.requires.editing.1 c.requires.settled c.language.result.now c.tree.result.now c.language.ensures.same (c.tree.ensures ∙ tree_is c.args.self.now c.note_of.result.now c.note_of.ensures c.requires.editing.0 c.requires.editing.1) }

pub returns-in-Some-clause-due : goal.returns-in-Some-clause-due
returns-in-Some-clause-due g c =
    IfOk-weaker c.due_in.result _ _ (λ found h tree at. h tree c.args.key at
    (sym c.in-Some.is ∙ table_is c.args.self.now tree at c.requires.settled c.language.result.now c.tree.result.now c.language.ensures.same (c.tree.ensures ∙ tree_is c.args.self.now c.note_of.result.now c.note_of.ensures tree at) _ c.args.key c.in_ok-due.ensures)) c.due_in.ensures.due

pub returns-in-Some-clause-keys : goal.returns-in-Some-clause-keys
returns-in-Some-clause-keys g c =
    c.due_in.ensures.keys (table_keys c.args.self.now.session.language c.requires.editing.0 (face_of c.args.self.now.face) c.args.key
    c.in-Some.due (sym c.in-Some.is ∙ table_is c.args.self.now c.requires.editing.0 c.requires.editing.1 c.requires.settled c.language.result.now c.tree.result.now c.language.ensures.same (c.tree.ensures ∙ tree_is c.args.self.now c.note_of.result.now c.note_of.ensures c.requires.editing.0 c.requires.editing.1) _ c.args.key c.in_ok-due.ensures))

pub returns-in-None-clause-due : goal.returns-in-None-clause-due
returns-in-None-clause-due g c =
    λ tree at.
    no_command c.args.self.now.session.language c.args.self.now.kind tree key_lines (face_of c.args.self.now.face) c.args.key (sym (table_is c.args.self.now tree at c.requires.settled c.language.result.now c.tree.result.now c.language.ensures.same (c.tree.ensures ∙ tree_is c.args.self.now c.note_of.result.now c.note_of.ensures tree at) _ c.args.key c.in_ok-due.ensures) ∙ c.in-None.is)
