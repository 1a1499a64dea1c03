-- A run that plays lines in silence, and then puts one text.
use Rattle.std.proofs.Common.{◌≡◌, ℕ, List, [], ◌∷◌, ◌++◌, refl, sym, ◌∙◌, ap, subst, append-nil}
use Rattle.std.specs.Io.KnownBytes.{append_known}
use Rattle.psg_world.specs.Sinks.{HasRisen, TakesFront}
use Rattle.psg_world.specs.declared.world.WriteStop.{WriteStop}
use Rattle.psg_world.specs.declared.world.WriteStop.TheVariants as stops
use Rattle.psg_grammar.specs.declared.types.Definition.{Definition}
use Rattle.psg_session.specs.PlainState.{State, start}
use Rattle.psg_session.specs.Replies.{Reply, answered}
use Rattle.psg_run.specs.declared.status.Status.{Status}
use Rattle.psg_run.specs.declared.status.Status.TheVariants as ends_with
use Rattle.psg_run.specs.Chain.{IsPlayed, Point, Runs, breaks, closes, first_point, is_played}
use Rattle.psg_run.specs.Editing.{BreaksOff, Editor, IsSilent, new_editor}
use Rattle.psg_run.specs.Endings.{write_status}
use Rattle.psg_run.specs.Playing.{BreaksAmong, point}
use Rattle.psg_run.specs.Worlds.{Puts, World, Wrote, put_whole}
use Rattle.psg_run.proofs.Chains.{append_known-nil}
use Rattle.psg_run.proofs.Onward.{front_put}

-- what is told at the end is a parameter
module _ (def : Definition) (Closes : Point Editor → List ℕ → Status → Point Editor → Type 0) (lines : List (List ℕ)) (old new : World) where
  abbrev pub IsTold : Status → Type 0
  IsTold status = IsPlayed Editor (IsSilent def) (BreaksOff def) Closes new_editor lines old new status

  -- the world at the end, where nothing was put so far
  abbrev untold_world : World
  untold_world = record { files = new.files; input = new.input; ticks = new.ticks; written = append_known old.written []; count = old.count }

  wrote_none : new.written ≡ old.written → Wrote [] untold_world new
  wrote_none same = record {
    files = refl;
    input = refl;
    ticks = refl;
    took = same ∙ sym (append_known-nil old.written) ∙ sym (append_known-nil (append_known old.written []));
  }

  -- memory ran out among the lines
  pub end_among : new.written ≡ old.written → BreaksAmong def lines old new → IsTold ends_with.Memory
  end_among same b =
      is_played b.first (b.line ∷ b.rest) [] b.last b.split b.runs
      (breaks (first_point Editor b.after new) b.breaks (wrote_none same))

  module _ (s : State) (last : Reply) (runs : Runs Editor (IsSilent def) (point start (answered []) old) lines [] (point s last new)) where
    all_lines : lines ≡ lines ++ []
    all_lines = sym (append-nil lines)

    -- there was no memory for the text
    pub end_untold : Closes (point s last new) [] ends_with.Memory (point s last new) → new.written ≡ old.written → IsTold ends_with.Memory
    end_untold says same =
        is_played lines [] [] (point s last new) all_lines runs
        (closes (point s last new) [] ends_with.Memory says (put_whole (wrote_none same)))

    module _ (text : List ℕ) (says : Closes (point s last new) text ends_with.Done (point s last new)) (bytes : List ℕ) (is : bytes ≡ text) where
      pub end_told : new.written ≡ append_known old.written bytes → IsTold ends_with.Done
      end_told put =
          is_played lines [] [] (point s last new) all_lines runs
          (closes (point s last new) text ends_with.Done says
          (put_whole (record {
            files = refl;
            input = refl;
            ticks = refl;
            took = put ∙ ap (append_known old.written) is ∙ ap (λ w. append_known w text) (sym (append_known-nil old.written));
          })))

      pub end_front : TakesFront old.written bytes new.written → (stop : WriteStop) → (stop ≡ stops.Failed → HasRisen old.count new.count)
          → IsTold (write_status stop)
      end_front takes stop risen =
          is_played lines [] [] (point s last new) all_lines runs
          (closes (point s last new) text ends_with.Done says
          (subst (λ b. Puts b ends_with.Done untold_world new (write_status stop)) is
          (front_put bytes ends_with.Done untold_world new refl refl refl
          (subst (λ w. TakesFront w bytes new.written) (sym (append_known-nil old.written)) takes) stop risen)))
