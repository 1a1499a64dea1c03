use Rattle.std.proofs.Common.{◌≡◌, replicate}
use Rattle.psg_floor.specs.Suffixes.{key_count}
use Rattle.psg_floor.proofs.suffixes.counted.Given as goal

abbrev pub invariant-loop-round : goal.invariant-loop-round
invariant-loop-round l = l.counts.items ≡ replicate l._round (key_count l.elements)
