use Rattle.std.proofs.Common.{take}
use Rattle.std.specs.Prelude.{string_bytes}
use Rattle.psg_lint.proofs.LineLaws.{AreWritten}
use Rattle.psg_lint.proofs.lines.lines_of.Given as goal

abbrev pub invariant-loop-place : goal.invariant-loop-place
invariant-loop-place l = AreWritten l.file l.text (take l.place l.found) (string_bytes l.lines)
