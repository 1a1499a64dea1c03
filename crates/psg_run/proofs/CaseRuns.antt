-- Worked cases: the lines of a script and of an input, calls of files that fail, and a run of one line.
use Rattle.std.proofs.Common.{◌≡◌, inl, true, false, [], ◌∷◌, ◌++◌, None, refl, sym}
use Rattle.std.specs.Prelude.{codes}
use Rattle.psg_grammar.specs.declared.types.Definition.{Definition}
use Rattle.psg_grammar.specs.Legal.{IsCompletable}
use Rattle.psg_script.specs.declared.command.Command.TheVariants.{Show}
use Rattle.psg_script.specs.Forms.{Spells}
use Rattle.psg_session.specs.Exchanges.{nobody}
use Rattle.psg_session.specs.Lines.{to_command}
use Rattle.psg_session.specs.PlainState.{got, lost, not_asked, start, stored}
use Rattle.psg_session.specs.PlainStep.{IsRefused, refuses}
use Rattle.psg_session.specs.Replies.{refused, reply_text}
use Rattle.psg_session.specs.declared.refusal.Refusal.TheVariants.{NothingOpened}
use Rattle.psg_run.specs.declared.status.Status.TheVariants.{Done}
use Rattle.psg_run.specs.Chain.{Point, closes, first_point, goes, is_played, rests, world_at}
use Rattle.psg_run.specs.Editing.{Edits, Editor, IsReplied, new_editor}
use Rattle.psg_run.specs.Outputs.{FailBy, live_lines}
use Rattle.psg_run.specs.Scripts.{script_lines}
use Rattle.psg_run.specs.Worlds.{World, put_whole}
use Rattle.std.specs.Io.KnownBytes.{append_known}
use Rattle.psg_run.proofs.Chains.{append_known-nil}
use Rattle.psg_run.proofs.SomeOutput.{not_counted}

-- carriage returns in front of a line feed go, and empty lines are no lines
lines : script_lines (97 ∷ 13 ∷ 10 ∷ 10 ∷ 13 ∷ 10 ∷ 98 ∷ 13 ∷ []) ≡ codes "a" ∷ codes "b" ∷ []
lines = refl

-- nothing is given for an empty line of an input
heard_of_three : live_lines (codes "show\r" ∷ codes "\r" ∷ codes "free" ∷ []) ≡ codes "show" ∷ codes "free" ∷ []
heard_of_three = refl

module _ (def : Definition) where
  -- the second call fails, and the others do not
  second_fails : FailBy def (false ∷ true ∷ []) (stored ∷ not_asked ∷ lost ∷ got [] ∷ [])
  second_fails = tt

  -- a call after the end of the list does not fail
  later_works : FailBy def (true ∷ []) (lost ∷ lost ∷ []) → ⊥
  later_works h = h

  -- before anything is opened nothing can be shown, and the state stays
  module _ (spells : Spells (codes "show") Show) (old : World) where
    abbrev shown : Point Editor
    shown = record {
      state = record { state = start; reply = refused NothingOpened };
      files = old.files;
      input = old.input;
      ticks = old.ticks;
    }

    refused_first : IsRefused def (IsCompletable def) start not_asked Show NothingOpened
    refused_first = inl (refl, refl)

    is_replied : IsReplied def (first_point Editor new_editor old) (codes "show")
        (reply_text (refused NothingOpened)) shown
    is_replied = (
      record {
        answers = to_command Show spells (record {
          asked = None;
          asks = λ asked never. never;
          answer = not_asked;
          answers = nobody refl;
          steps = refuses refused_first;
          ticked = not_counted def start Show not_asked old.ticks refl;
        });
        input = refl;
      },
      refl,
    )

    one_line : Edits def (codes "show" ∷ []) old
        (world_at Editor old (reply_text (refused NothingOpened) ++ []) shown) Done
    one_line =
        is_played (codes "show" ∷ []) [] (reply_text (refused NothingOpened) ++ []) shown refl
        (goes shown (reply_text (refused NothingOpened)) [] is_replied rests)
        (closes shown [] Done (refl, refl, refl) (put_whole (record {
          files = refl;
          input = refl;
          ticks = refl;
          took = sym (append_known-nil (append_known old.written (reply_text (refused NothingOpened) ++ [])));
        })))
