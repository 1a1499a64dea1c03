use Rattle.std.proofs.Common.{arith}
use Rattle.psg_defread.proofs.SortLaws.{sorts-next, sorts-all}
use Rattle.psg_defread.proofs.sorts.push_sorts.Goals as goal

pub loop-i-preserved : goal.loop-i-preserved
loop-i-preserved c =
    sorts-next c.args.definition.now c.loop-i.i c.in_ok-line.line c.args.out.now.items c.loop-i.out.items c.push.new.self.items
    (omega (arith, c.sorts-i-end.ensures, c.loop-i-test.true)) c.in_ok-line.ensures c.in_ok-push.ensures.items
    c.loop-i.invariant

pub returns : goal.returns
returns c =
    sorts-all c.args.definition.now c.loop-i.i c.args.out.now.items c.loop-i.out.items
    (omega (arith, c.sorts-i-end.ensures, c.loop-i-test.false))
    c.loop-i.invariant
