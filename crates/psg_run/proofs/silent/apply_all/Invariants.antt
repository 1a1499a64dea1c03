use Rattle.std.proofs.Common.{◌≡◌, ℕ, List, Option, length}
use Rattle.psg_session.specs.Sessions.{state_of}
use Rattle.psg_run.specs.Playing.{last_of}
use Rattle.psg_run.specs.Scripts.{script_lines}
use Rattle.psg_run.specs.Worlds.{Incoming, seen}
use Rattle.psg_run.proofs.Replied.{Silently}
use Rattle.psg_run.proofs.silent.apply_all.Given as goal

abbrev pub invariant-loop-rest : goal.invariant-loop-rest
invariant-loop-rest g l = record {
  so_far : (input : Incoming) (written : Option (List ℕ)) (count : ℕ)
      → Silently l.session.language (script_lines l.script) l.rest (state_of l.session.editor) (last_of l.last)
      (seen (g.F.Files.holds l.initial.files) (g.F.Files.faults l.initial.files) input l.initial.steps written count)
      (seen (g.F.Files.holds l.files) (g.F.Files.faults l.files) input l.steps written count);
  language : l.session.language ≡ l.initial.session.language;
}

abbrev pub decreases-loop-rest : goal.decreases-loop-rest
decreases-loop-rest g l = length l.rest
