use Rattle.std.proofs.Common.{◌≡◌}
use Rattle.std.specs.Prelude.{string_bytes}
use Rattle.psg_stop.specs.Runs.{run}
use Rattle.psg_stop.proofs.naming.run.Given as goal

abbrev pub invariant-loop : goal.invariant-loop
invariant-loop l = string_bytes l.letters ≡ run l.counter
