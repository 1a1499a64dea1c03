use Rattle.std.proofs.Common.{take}
use Rattle.psg_deflines.specs.Entries.{written}
use Rattle.psg_defcheck.proofs.FaultLaws.{HasPassed}
use Rattle.psg_defcheck.proofs.checked_lines.CheckedLines.of.Given as goal

abbrev pub invariant-loop-i : goal.invariant-loop-i
invariant-loop-i l = HasPassed (written l.entries) (written (take l.i l.entries)) l.names
