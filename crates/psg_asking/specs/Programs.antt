-- The plain editor in which a program is opened, and nothing else.
use Rattle.std.specs.Prelude.{Bool, true, false, [], Some}
use Rattle.psg_cache.specs.Annotated.{Annotated, tree_in}
use Rattle.psg_cache.specs.Notes.{IsNoteOf}
use Rattle.psg_grammar.specs.declared.types.Definition.{Definition}
use Rattle.psg_grammar.specs.declared.types.Kind.{Kind}
use Rattle.psg_grammar.specs.Fragments.{Fragment}
use Rattle.psg_grammar.specs.Legal.{IsCompletable}
use Rattle.psg_grammar.specs.Printable.{IsPrintable}
use Rattle.psg_grammar.specs.WellFormed.{WellFormed}
use Rattle.psg_script.specs.declared.command.Command.{Command}
use Rattle.psg_script.specs.declared.command.Command.TheVariants as commands
use Rattle.psg_session.specs.PlainState.{State, not_asked}
use Rattle.psg_session.specs.PlainStep.{Steps}
use Rattle.psg_session.specs.Replies.{Reply}

-- the note of a program of the kind, which can be printed so that it reads back
pub record IsProgram (def : Definition) (kind : Kind) (note : Annotated) : Type 0 where
  pub formed : WellFormed def (tree_in note) kind
  pub noted : IsNoteOf def (tree_in note) note
  pub printable : IsPrintable (tree_in note)

-- the plain editor in which this program is opened, and nothing else
abbrev pub opened_with : Kind → Fragment → State
opened_with kind tree = record {
  opened = Some (record { kind = kind; tree = tree });
  cursor = [];
  earlier = [];
  later = [];
  saved = [];
}

-- the commands that are questions about a place
abbrev pub is_question : Command → Bool
is_question (commands.Menu at place) = true
is_question (commands.Names at place op) = true
is_question (commands.Relation at) = true
is_question _ = false

-- the plain editor's reply to a question about the program
abbrev pub IsReply : Definition → Kind → Fragment → Command → Reply → Type 0
IsReply def kind tree command reply =
    Steps def (IsCompletable def) (opened_with kind tree) not_asked command (opened_with kind tree) reply
