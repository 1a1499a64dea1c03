use Rattle.std.proofs.Common.{◌≡◌, ◌++◌, drop}
use Rattle.psg_completing.specs.Fillings.{fillings, fillings_from}
use Rattle.psg_completing.proofs.fillings.fillings.Given as goal

abbrev pub invariant-loop-number : goal.invariant-loop-number
invariant-loop-number l =
    l.found.items ++ fillings_from l.definition.lists l.number (drop l.number l.definition.phyla) ≡ fillings l.definition
