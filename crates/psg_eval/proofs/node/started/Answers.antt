use Rattle.std.proofs.Common.{subst}
use Rattle.psg_eval.specs.Starts.{IsOperatorStart}
use Rattle.psg_eval.proofs.node.started.Goals as goal

pub bare_children-requires-clause-bare : goal.bare_children-requires-clause-bare
bare_children-requires-clause-bare c = subst (IsOperatorStart c.args.definition.now c.args.operator.now) c.in-Bare.is c.requires.start

pub named_children-requires-clause-named : goal.named_children-requires-clause-named
named_children-requires-clause-named c = subst (IsOperatorStart c.args.definition.now c.args.operator.now) c.in-Named.is c.requires.start
