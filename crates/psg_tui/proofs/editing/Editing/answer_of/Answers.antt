use Rattle.std.proofs.Common.{sym, ◌∙◌}
use Rattle.psg_asking.proofs.ProgramLaws.{same_files}
use Rattle.psg_keys.specs.declared.key.Key.TheVariants as keys
use Rattle.psg_session.specs.Views.{reply_of}
use Rattle.psg_tui.specs.Views.{face_of}
use Rattle.psg_tui.proofs.AnswerLaws.{keys_files}
use Rattle.psg_tui.proofs.DueLaws.{printed_seen, table_is, table_keys}
use Rattle.psg_tui.proofs.editing.Editing.answer_of.Goals as goal

pub command_of-requires : goal.command_of-requires
command_of-requires g c =
    record {
      printed = printed_seen c.args.self.now c.requires.editing.0 c.requires.editing.1 c.requires.settled
          c.language.result.now c.tree.result.now c.language.ensures.same
          (c.tree.ensures ∙ c.known-known.ensures.tree c.requires.editing.0 c.requires.editing.1);
    }

pub tried-requires : goal.tried-requires
tried-requires g c =
    c.known-known.ensures.known.program

pub returns-in_ok-reply-in-Some : goal.returns-in_ok-reply-in-Some
returns-in_ok-reply-in-Some g c =
    let tree = c.requires.editing.0 in
    let at = c.requires.editing.1 in
    record {
      files = same_files _ _ _ _
          (keys_files _ _ _ c.in-Some.due.command _ _ c.args.steps.now c.tried.new.steps (reply_of c.in_ok-reply-in-Some.field-0.reply)
          (table_keys c.args.self.now.session.language tree (face_of c.args.self.now.face) keys.Enter c.in-Some.due
          (sym c.in-Some.is
          ∙ table_is c.args.self.now tree at c.requires.settled c.language.result.now c.tree.result.now c.language.ensures.same
          (c.tree.ensures ∙ c.known-known.ensures.tree tree at) _ keys.Enter c.in_ok-due.ensures))
          c.in_ok-reply-in-Some.ensures.applied);
    }
