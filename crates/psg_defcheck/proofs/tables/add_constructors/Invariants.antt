use Rattle.std.proofs.Common.{length}
use Rattle.psg_defcheck.proofs.TableLaws.{HasBehind}
use Rattle.psg_defcheck.proofs.tables.add_constructors.Given as goal

abbrev pub invariant-loop-decl : goal.invariant-loop-decl
invariant-loop-decl l = HasBehind l.initial.table l.table l.sort l.decls l.rest

abbrev pub decreases-loop-decl : goal.decreases-loop-decl
decreases-loop-decl l = length l.rest
