use Rattle.std.proofs.Common.{true≢false, sym, ◌∙◌, arith}
use Rattle.psg_class.specs.Failing.{HasSome, ends}
use Rattle.psg_class.proofs.FormCells.{none_more}
use Rattle.psg_class.proofs.failing.first_end.Goals as goal

pub loop-list-preserved : goal.loop-list-preserved
loop-list-preserved c = none_more (HasSome (ends c.args.rows.now c.args.sets.now c.args.separators.now) c.args.sets.now.width) c.loop-list.list c.loop-list.invariant (λ (k, lt, e). true≢false (sym e ∙ c.in_default.ensures k lt))

pub returns : goal.returns
returns c = λ r h some. c.loop-list.invariant r (omega arith) some
