use Rattle.std.proofs.Common.{◌++◌, ◌∷◌, [], drop, ap, ◌∙◌, ◌+◌, arith}
use Rattle.psg_terms.proofs.Lists.{drop_item}
use Rattle.psg_explain.specs.Given.{plain_case, plain_cases}
use Rattle.psg_explain.proofs.CasingLaws.{all_dropped, pushed}
use Rattle.psg_explain.proofs.GivenLaws.{all_there}
use Rattle.psg_explain.proofs.casing.plain_cases.Goals as goal

pub loop-i-preserved : goal.loop-i-preserved
loop-i-preserved c =
    let i = c.loop-i.i in
    let rs = c.args.rows.now in
    let row = c.index-rows-i.result in
    pushed c.loop-i.cases.items c.push.new.self.items (plain_cases 0 rs) (plain_cases i (drop i rs)) (plain_cases (i + 1) (drop (i + 1) rs)) (plain_case i row)
    (c.in_ok-push.ensures.items ∙ ap (λ x. c.loop-i.cases.items ++ x ∷ []) (c.in_ok-case.ensures ∙ ap (plain_case i) c.as_slice-row.ensures)) c.loop-i.invariant
    (ap (plain_cases i) (drop_item rs i row c.loop-i-test.true c.index-rows-i.is))

pub returns : goal.returns
returns c =
    all_there c.loop-i.cases.items (plain_cases c.loop-i.i (drop c.loop-i.i c.args.rows.now)) (plain_cases 0 c.args.rows.now) c.loop-i.invariant
    (ap (plain_cases c.loop-i.i) (all_dropped c.args.rows.now c.loop-i.i (omega arith)))
