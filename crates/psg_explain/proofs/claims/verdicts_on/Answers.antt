use Rattle.std.proofs.Common.{arith}
use Rattle.psg_explain.proofs.ClaimingLaws.{case_covered, right_all, right_next, right_none}
use Rattle.psg_explain.proofs.claims.verdicts_on.Goals as goal

pub loop-i-init : goal.loop-i-init
loop-i-init c = right_none c.args.rows.now c.args.cases.now c.new-verdicts.result.items c.new-verdicts.ensures.items

pub verdict-requires-clause-covered : goal.verdict-requires-clause-covered
verdict-requires-clause-covered c = case_covered c.args.rows.now c.args.cases.now c.loop-i.i c.index-cases-i.result c.requires.covered c.loop-i-test.true c.index-cases-i.is

pub loop-i-preserved : goal.loop-i-preserved
loop-i-preserved c =
    right_next c.args.rows.now c.args.cases.now c.loop-i.i c.index-cases-i.result c.loop-i.verdicts.items c.push.new.self.items c.in_ok-told.told c.loop-i-test.true c.index-cases-i.is c.in_ok-push.ensures.items c.in_ok-told.ensures c.loop-i.invariant

pub returns : goal.returns
returns c = right_all c.args.rows.now c.args.cases.now c.loop-i.i c.loop-i.verdicts.items (omega arith) c.loop-i.invariant
