use Rattle.psg_class.specs.Grids.{IsStep}
use Rattle.psg_class.proofs.grid.pass_on.Given as goal

abbrev pub invariant-loop : goal.invariant-loop
invariant-loop l = IsStep l.links l.initial.grid l.grid l.more
