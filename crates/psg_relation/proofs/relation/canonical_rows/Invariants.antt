use Rattle.std.proofs.Common.{take}
use Rattle.psg_relation.specs.Sealed.{AreCanonicalOf}
use Rattle.psg_relation.proofs.relation.canonical_rows.Given as goal

abbrev pub invariant-loop-row : goal.invariant-loop-row
invariant-loop-row l = AreCanonicalOf l.sig (take l.row-index l.rows) l.made.items
