use Rattle.std.proofs.Common.{List, take}
use Rattle.psg_terms.specs.Terms.{Term}
use Rattle.psg_terms.specs.Relations.{IsIn}
use Rattle.psg_relation.specs.Sifted.{IsCovered}
use Rattle.psg_relation.proofs.maximal.are_covered.Given as goal

abbrev pub invariant-loop-row : goal.invariant-loop-row
invariant-loop-row l = (r : List Term) → IsIn r (take l.row-index l.rows) → IsCovered l.kept r
