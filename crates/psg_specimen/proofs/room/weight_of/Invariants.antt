use Rattle.std.proofs.Common.{◌≡◌, ◌-◌, ◌^◌, min, take}
use Rattle.psg_specimen.specs.Work.{terms_work}
use Rattle.psg_specimen.proofs.room.weight_of.Given as goal

abbrev pub invariant-loop-term : goal.invariant-loop-term
invariant-loop-term l = l.weight ≡ min (terms_work (take l.term-index l.terms)) (2 ^ 64 - 1)
