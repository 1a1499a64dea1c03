use Rattle.std.proofs.Common.{arith}
use Rattle.psg_terms.proofs.Lists.{each_at, slice_get_item}
use Rattle.psg_explain.specs.Reached.{IsUnsolved}
use Rattle.psg_explain.proofs.LastLaws.{reasons_end, reasons_next}
use Rattle.psg_explain.proofs.last.reasons_of.Goals as goal

pub reason_of-requires : goal.reason_of-requires
reason_of-requires c =
    each_at IsUnsolved c.args.cases.now c.requires c.loop-i.i c.index-cases-i.result (slice_get_item c.args.cases.now c.loop-i.i c.index-cases-i.result c.loop-i-test.true c.index-cases-i.is)

pub loop-i-preserved : goal.loop-i-preserved
loop-i-preserved c =
    reasons_next c.args.cases.now c.loop-i.i c.index-cases-i.result c.loop-i.told.items c.push.new.self.items c.in_ok-one.one c.loop-i-test.true c.index-cases-i.is c.loop-i.invariant c.in_ok-one.ensures c.in_ok-push.ensures.items

pub returns : goal.returns
returns c = reasons_end c.args.cases.now c.loop-i.i c.loop-i.told.items (omega arith) c.loop-i.invariant
