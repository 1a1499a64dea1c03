use Rattle.std.proofs.Common.{◌≡◌, take}
use Rattle.psg_relation.specs.Choices.{picked}
use Rattle.psg_specimen.proofs.showing.columns_of.Given as goal

abbrev pub invariant-loop-number : goal.invariant-loop-number
invariant-loop-number l = l.columns.items ≡ picked l.terms (take l.number l.keep)
