use Rattle.std.proofs.Common.{◌≡◌}
use Rattle.std.specs.Prelude.{string_bytes}
use Rattle.psg_menu.specs.Trials.{run}
use Rattle.psg_menu.proofs.words.run.Given as goal

abbrev pub invariant-loop : goal.invariant-loop
invariant-loop l = string_bytes l.letters ≡ run l.counter
