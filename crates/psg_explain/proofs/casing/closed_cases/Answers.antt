use Rattle.std.proofs.Common.{◌++◌, ◌∷◌, [], drop, map, ap, ◌∙◌, ◌+◌, arith}
use Rattle.psg_terms.proofs.Lists.{drop_item}
use Rattle.psg_scope.specs.Headers.{keys}
use Rattle.psg_explain.specs.Given.{closed_row, plain_case, plain_cases}
use Rattle.psg_explain.proofs.CasingLaws.{all_dropped, pushed}
use Rattle.psg_explain.proofs.GivenLaws.{all_there}
use Rattle.psg_explain.proofs.casing.closed_cases.Goals as goal

pub loop-i-preserved : goal.loop-i-preserved
loop-i-preserved c =
    let close = closed_row (keys c.args.inside.now) (keys c.args.outside.now) in
    let i = c.loop-i.i in
    let rs = c.args.rows.now in
    let row = c.index-rows-i.result in
    pushed c.loop-i.cases.items c.push.new.self.items (plain_cases 0 (map close rs)) (plain_cases i (map close (drop i rs))) (plain_cases (i + 1) (map close (drop (i + 1) rs))) (plain_case i (close row))
    (c.in_ok-push.ensures.items ∙ ap (λ x. c.loop-i.cases.items ++ x ∷ []) (c.in_ok-case.ensures ∙ ap (λ r. plain_case i (close r)) c.as_slice-row.ensures)) c.loop-i.invariant
    (ap (λ l. plain_cases i (map close l)) (drop_item rs i row c.loop-i-test.true c.index-rows-i.is))

pub returns : goal.returns
returns c =
    let close = closed_row (keys c.args.inside.now) (keys c.args.outside.now) in
    let i = c.loop-i.i in
    let rs = c.args.rows.now in
    all_there c.loop-i.cases.items (plain_cases i (map close (drop i rs))) (plain_cases 0 (map close rs)) c.loop-i.invariant (ap (λ l. plain_cases i (map close l)) (all_dropped rs i (omega arith)))
