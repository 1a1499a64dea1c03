use Rattle.std.proofs.Common.{◌≡◌, ◌≤◌, take}
use Rattle.psg_places.specs.Blame.{blamed_in}
use Rattle.psg_lint.proofs.suspects.blamed_in.Given as goal

abbrev pub invariant-loop-i : goal.invariant-loop-i
invariant-loop-i l = record { exact : l.total ≡ blamed_in (take l.i l.kept); few : l.total ≤ l.i }
