use Rattle.std.proofs.Common.{take}
use Rattle.psg_lint.specs.Judged.{def_of, fresh_of, tree_in}
use Rattle.psg_lint.proofs.HintLaws.{AreNoOthers}
use Rattle.psg_lint.proofs.hints.last_use.Given as goal

abbrev pub invariant-loop-less : goal.invariant-loop-less
invariant-loop-less g l = AreNoOthers (def_of l.wrong) (fresh_of l.wrong) (tree_in l.wrong) (take l.end l.wrong.kept.now) l.region l.end l.less
