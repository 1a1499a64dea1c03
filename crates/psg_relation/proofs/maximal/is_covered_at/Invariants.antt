use Rattle.std.proofs.Common.{take}
use Rattle.psg_relation.specs.Choices.{picked}
use Rattle.psg_relation.specs.Sifted.{IsCovered}
use Rattle.psg_relation.proofs.maximal.is_covered_at.Given as goal

abbrev pub invariant-loop-i : goal.invariant-loop-i
invariant-loop-i l = IsCovered (picked l.kept (take l.i l.places)) l.row → ⊥
