use Rattle.std.proofs.Common.{List, ◌++◌, drop}
use Rattle.psg_scope.specs.Merging.{AreBefore, IsUpTo}
use Rattle.psg_scope.specs.declared.header.NameCol.{NameCol}
use Rattle.psg_scope.proofs.merging.Merging.add_rights.Given as goal

abbrev pub invariant-loop-key : goal.invariant-loop-key
invariant-loop-key l = (whole others left rest : List NameCol) → AreBefore l.run left
    → IsUpTo whole others left (l.run ++ rest) l.fn.self → IsUpTo whole others left (drop l.key-index l.run ++ rest) l.self
