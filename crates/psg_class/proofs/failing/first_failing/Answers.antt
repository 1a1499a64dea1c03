use Rattle.std.proofs.Common.{true≢false, sym, ◌∙◌, arith}
use Rattle.psg_class.specs.Grids.{is_set}
use Rattle.psg_class.specs.Failing.{HasSome}
use Rattle.psg_class.proofs.FormCells.{none_more}
use Rattle.psg_class.proofs.failing.first_failing.Goals as goal

pub loop-row-preserved : goal.loop-row-preserved
loop-row-preserved c = none_more (HasSome (is_set c.args.grid.now) c.args.grid.now.width) c.loop-row.row c.loop-row.invariant (λ (k, lt, e). true≢false (sym e ∙ c.in_default.ensures k lt))

pub returns : goal.returns
returns c = λ r h some. c.loop-row.invariant r (omega arith) some
