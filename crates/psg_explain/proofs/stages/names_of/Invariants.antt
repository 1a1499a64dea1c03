use Rattle.std.proofs.Common.{◌≡◌, ◌++◌, drop}
use Rattle.psg_explain.specs.Splits.{names_among}
use Rattle.psg_explain.proofs.stages.names_of.Given as goal

abbrev pub invariant-loop-part : goal.invariant-loop-part
invariant-loop-part l = l.found.items ++ names_among (drop l.part-index l.parts) ≡ names_among l.parts
