use Rattle.std.proofs.Common.{take}
use Rattle.psg_relation.specs.Choices.{picked}
use Rattle.psg_relation.specs.Sifted.{HoldsNone}
use Rattle.psg_relation.proofs.maximal.holds_none_at.Given as goal

abbrev pub invariant-loop-turn : goal.invariant-loop-turn
invariant-loop-turn l = HoldsNone l.row (picked l.kept (take l.turn l.places))
