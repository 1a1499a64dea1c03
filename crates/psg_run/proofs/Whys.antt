-- A run that plays lines in silence, and then puts what is said of what is opened.
use Rattle.std.proofs.Common.{◌≡◌, ℕ, ◌≤◌, ◌+◌, List, [], ◌++◌, refl, sym, ◌∙◌, ap, subst, append-nil}
use Rattle.std.specs.Io.KnownBytes.{append_known}
use Rattle.psg_world.specs.Sinks.{HasRisen, TakesFront}
use Rattle.psg_world.specs.declared.world.WriteStop.{WriteStop}
use Rattle.psg_world.specs.declared.world.WriteStop.TheVariants as stops
use Rattle.psg_grammar.specs.declared.types.Definition.{Definition}
use Rattle.psg_session.specs.PlainState.{State, start}
use Rattle.psg_session.specs.Replies.{Reply, answered}
use Rattle.psg_run.specs.declared.status.Status.TheVariants as ends_with
use Rattle.psg_run.specs.Chain.{Runs, closes, is_played}
use Rattle.psg_run.specs.Editing.{Editor, IsSilent}
use Rattle.psg_run.specs.Endings.{write_status}
use Rattle.psg_run.specs.Explaining.{Explains, IsSaid, most_said, no_room_to_explain, tells_why}
use Rattle.psg_run.specs.Playing.{point}
use Rattle.psg_run.specs.Worlds.{Puts, World, put_whole}
use Rattle.psg_run.proofs.Chains.{append_known-nil}
use Rattle.psg_run.proofs.Onward.{front_put}

-- `mid` is the world after the lines, where nothing was put, and `new` the one at the end.
module _ (def : Definition) (lines : List (List ℕ)) (old mid : World) (s : State) (last : Reply) (runs : Runs Editor (IsSilent def) (point start (answered []) old) lines [] (point s last mid)) where
  all_lines : lines ≡ lines ++ []
  all_lines = sym (append-nil lines)

  module _ (new : World) (files : new.files ≡ mid.files) (input : new.input ≡ mid.input) (few : new.ticks ≤ mid.ticks + most_said s.opened) where
    -- the world after the lines and what was evaluated then
    abbrev told_world : World
    told_world = record { files = mid.files; input = mid.input; ticks = new.ticks; written = append_known old.written []; count = old.count }

    -- there was no memory for what is to be said
    pub end_unsaid : new.written ≡ old.written → Explains def lines old new ends_with.Memory
    end_unsaid same =
        is_played lines [] [] (point s last mid) all_lines runs
        (closes _ [] ends_with.Memory (no_room_to_explain new.ticks few)
        (put_whole (record {
          files = files;
          input = input;
          ticks = refl;
          took = same ∙ sym (append_known-nil old.written) ∙ sym (append_known-nil (append_known old.written []));
        })))

    module _ (text : List ℕ) (says : IsSaid def s.opened text) (bytes : List ℕ) (is : bytes ≡ text) where
      pub end_said : new.written ≡ append_known old.written bytes → Explains def lines old new ends_with.Done
      end_said put =
          is_played lines [] [] (point s last mid) all_lines runs
          (closes _ text ends_with.Done (tells_why text new.ticks says few)
          (put_whole (record {
            files = files;
            input = input;
            ticks = refl;
            took = put ∙ ap (append_known old.written) is ∙ ap (λ w. append_known w text) (sym (append_known-nil old.written));
          })))

      pub end_said_front : TakesFront old.written bytes new.written → (stop : WriteStop) → (stop ≡ stops.Failed → HasRisen old.count new.count)
          → Explains def lines old new (write_status stop)
      end_said_front takes stop risen =
          is_played lines [] [] (point s last mid) all_lines runs
          (closes _ text ends_with.Done (tells_why text new.ticks says few)
          (subst (λ b. Puts b ends_with.Done told_world new (write_status stop)) is
          (front_put bytes ends_with.Done told_world new files input refl
          (subst (λ w. TakesFront w bytes new.written) (sym (append_known-nil old.written)) takes) stop risen)))
