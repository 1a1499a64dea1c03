use Rattle.std.proofs.Common.{arith}
use Rattle.psg_scope.proofs.SharedLaws.{used_there}
use Rattle.psg_scope.proofs.sharing.used_at.Goals as goal

pub returns-in-Equal : goal.returns-in-Equal
returns-in-Equal c =
    used_there c.args.cols.now c.index-cols-place.result c.args.key.now c.only_place-place.result (omega arith)
    c.index-cols-place.is c.in-Equal.ensures c.if-key.false
