use Rattle.std.proofs.Common.{◌≡◌, take}
use Rattle.psg_terms.specs.Declarations.{sort_names}
use Rattle.psg_terms.proofs.declare.names_of.Given as goal

abbrev pub invariant-loop-sort : goal.invariant-loop-sort
invariant-loop-sort l = l.names.items ≡ sort_names (take l.sort-index l.sorts)
