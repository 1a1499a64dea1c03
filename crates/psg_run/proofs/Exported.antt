-- A run that plays lines in silence, then asks the files once, and then puts one text.
use Rattle.std.proofs.Common.{◌≡◌, ℕ, List, [], ◌++◌, refl, sym, ◌∙◌, ap, subst, append-nil}
use Rattle.std.specs.Io.KnownBytes.{append_known}
use Rattle.psg_world.specs.Sinks.{HasRisen, TakesFront}
use Rattle.psg_world.specs.declared.world.WriteStop.{WriteStop}
use Rattle.psg_world.specs.declared.world.WriteStop.TheVariants as stops
use Rattle.psg_grammar.specs.declared.types.Definition.{Definition}
use Rattle.psg_session.specs.PlainState.{State, start}
use Rattle.psg_session.specs.Replies.{Reply, answered}
use Rattle.psg_terms.specs.Names.{Name}
use Rattle.psg_run.specs.declared.status.Status.{Status}
use Rattle.psg_run.specs.declared.status.Status.TheVariants as ends_with
use Rattle.psg_run.specs.Chain.{Runs, closes, is_played}
use Rattle.psg_run.specs.Editing.{Editor, IsSilent}
use Rattle.psg_run.specs.Endings.{write_status}
use Rattle.psg_run.specs.Exporting.{Exports, IsExport, tells_export}
use Rattle.psg_run.specs.Playing.{point}
use Rattle.psg_run.specs.Worlds.{Puts, World, put_whole}
use Rattle.psg_run.proofs.Chains.{append_known-nil}
use Rattle.psg_run.proofs.Onward.{front_put}

-- `mid` is the world after the lines, where nothing was put, and `new` the one at the end.
module _ (def : Definition) (file : Name) (lines : List (List ℕ)) (old mid : World) (s : State) (last : Reply)
    (runs : Runs Editor (IsSilent def) (point start (answered []) old) lines [] (point s last mid)) where
  all_lines : lines ≡ lines ++ []
  all_lines = sym (append-nil lines)

  module _ (new : World) (input : new.input ≡ mid.input) (ticks : new.ticks ≡ mid.ticks) where
    -- the world after the lines and the answer of the files
    abbrev asked_world : World
    asked_world = record {
      files = new.files;
      input = mid.input;
      ticks = mid.ticks;
      written = append_known old.written [];
      count = old.count;
    }

    module _ (text : List ℕ) (says : IsExport def file s.opened mid.files new.files text) (bytes : List ℕ) (is : bytes ≡ text) where
      pub end_exported : new.written ≡ append_known old.written bytes → Exports def file lines old new ends_with.Done
      end_exported put =
          is_played lines [] [] (point s last mid) all_lines runs
          (closes _ text ends_with.Done (tells_export text new.files says)
          (put_whole (record {
            files = refl;
            input = input;
            ticks = ticks;
            took = put ∙ ap (append_known old.written) is ∙ ap (λ w. append_known w text) (sym (append_known-nil old.written));
          })))

      pub end_exported_front : TakesFront old.written bytes new.written → (stop : WriteStop)
          → (stop ≡ stops.Failed → HasRisen old.count new.count) → Exports def file lines old new (write_status stop)
      end_exported_front takes stop risen =
          is_played lines [] [] (point s last mid) all_lines runs
          (closes _ text ends_with.Done (tells_export text new.files says)
          (subst (λ b. Puts b ends_with.Done asked_world new (write_status stop)) is
          (front_put bytes ends_with.Done asked_world new refl input ticks
          (subst (λ w. TakesFront w bytes new.written) (sym (append_known-nil old.written)) takes) stop risen)))
