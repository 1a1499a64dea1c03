use Rattle.std.proofs.Common.{refl, arith}
use Rattle.psg_explain.proofs.CheckLaws.{left_end, left_next, left_start, left_wrong, many_right}
use Rattle.psg_explain.proofs.UnderLaws.{told, unmade}
use Rattle.psg_explain.proofs.checking.all_right.Goals as goal

pub returns-then-cases-verdicts : goal.returns-then-cases-verdicts
returns-then-cases-verdicts c = unmade (λ h. c.if-cases-verdicts.true (many_right c.args.rows.now c.args.cases.now c.args.verdicts.now h))

pub loop-i-init : goal.loop-i-init
loop-i-init c = left_start c.args.rows.now c.args.cases.now c.args.verdicts.now

pub returns-then-not-right : goal.returns-then-not-right
returns-then-not-right c =
    unmade (left_wrong c.args.rows.now c.args.cases.now c.args.verdicts.now c.loop-i.i c.index-cases-i.result c.index-verdicts-i.result c.loop-i-test.true (omega (arith, c.loop-i-test.true, c.if-cases-verdicts.false))
    c.index-cases-i.is c.index-verdicts-i.is c.loop-i.invariant (λ h. told c.if-not-right.true (c.in_ok-right.ensures.1 h)))

pub loop-i-preserved : goal.loop-i-preserved
loop-i-preserved c =
    left_next c.args.rows.now c.args.cases.now c.args.verdicts.now c.loop-i.i c.index-cases-i.result c.index-verdicts-i.result c.loop-i-test.true (omega (arith, c.loop-i-test.true, c.if-cases-verdicts.false))
    c.index-cases-i.is c.index-verdicts-i.is c.loop-i.invariant (c.in_ok-right.ensures.0 c.if-not-right.false)

pub returns : goal.returns
returns c =
    let all = left_end c.args.rows.now c.args.cases.now c.args.verdicts.now c.loop-i.i (omega arith) c.if-cases-verdicts.false c.loop-i.invariant in
    ((λ h. all), (λ h. refl))
