use Rattle.std.proofs.Common.{List, ◌++◌, drop}
use Rattle.psg_scope.specs.Merging.{AreBefore, IsUpTo}
use Rattle.psg_scope.specs.declared.header.NameCol.{NameCol}
use Rattle.psg_scope.proofs.merging.Merging.add_lefts.Given as goal

abbrev pub invariant-loop-key : goal.invariant-loop-key
invariant-loop-key l = (whole others rest right : List NameCol) → AreBefore l.run right
    → IsUpTo whole others (l.run ++ rest) right l.fn.self → IsUpTo whole others (drop l.key-index l.run ++ rest) right l.self
