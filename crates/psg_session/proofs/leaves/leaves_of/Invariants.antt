use Rattle.std.proofs.Common.{◌≡◌, Some, map, take}
use Rattle.psg_session.specs.Leaves.{given}
use Rattle.psg_session.specs.Views.{plain_leaf}
use Rattle.psg_session.proofs.leaves.leaves_of.Given as goal

abbrev pub invariant-loop-spanned : goal.invariant-loop-spanned
invariant-loop-spanned l = map given (take l.spanned-index l.tokens) ≡ map Some (map plain_leaf l.leaves.items)
