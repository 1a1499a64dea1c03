use Rattle.std.proofs.Common.{◌≡◌, ◌+◌}
use Rattle.std.specs.Prelude.{string_bytes}
use Rattle.psg_menu.specs.Trials.{run}
use Rattle.psg_menu.proofs.WordLaws.{AreRuns}
use Rattle.psg_menu.proofs.words.new_words.Given as goal

abbrev pub invariant-loop : goal.invariant-loop
invariant-loop l = record { text : string_bytes l.text ≡ run (l.longest + l.counter); runs : AreRuns l.definition l.used l.longest l.words.items l.counter }
