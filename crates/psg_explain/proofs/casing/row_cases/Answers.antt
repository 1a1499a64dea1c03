use Rattle.std.proofs.Common.{◌++◌, ◌∷◌, [], drop, ap, sym, ◌≡◌, ◌∙◌, ◌+◌, List, length, arith}
use Rattle.psg_terms.proofs.Lists.{drop_item}
use Rattle.psg_grammar.specs.declared.types.Row.{Row}
use Rattle.psg_scope.specs.Headers.{keys}
use Rattle.psg_explain.specs.Splits.{own_case_of, own_cases_of}
use Rattle.psg_explain.proofs.CasingLaws.{all_dropped, pushed}
use Rattle.psg_explain.proofs.GivenLaws.{all_there}
use Rattle.psg_explain.proofs.casing.row_cases.Goals as goal

pub loop-i-preserved : goal.loop-i-preserved
loop-i-preserved c =
    let is = c.args.operator.now.items in
    let at = c.args.own.now in
    let ks = keys c.args.keys.now in
    let i = c.loop-i.i in
    let all = c.as_slice-rows.result.now in
    let rs = c.args.operator.now.rows in
    let row = c.index-rows-i.result in
    let same : all ≡ rs = c.as_slice-rows.ensures in
    pushed c.loop-i.cases.items c.push.new.self.items (own_cases_of is at ks 0 rs) (own_cases_of is at ks i (drop i rs)) (own_cases_of is at ks (i + 1) (drop (i + 1) rs)) (own_case_of is at ks i row)
    (c.in_ok-push.ensures.items ∙ ap (λ x. c.loop-i.cases.items ++ x ∷ []) (c.in_ok-case.ensures ∙ ap (λ l. own_case_of l at ks i row) c.as_slice-items.ensures)) c.loop-i.invariant
    (ap (λ (l : List Row). own_cases_of is at ks i (drop i l)) (sym same) ∙ ap (own_cases_of is at ks i) (drop_item all i row c.loop-i-test.true c.index-rows-i.is) ∙ ap (λ (l : List Row). own_case_of is at ks i row ∷ own_cases_of is at ks (i + 1) (drop (i + 1) l)) same)

pub returns : goal.returns
returns c =
    let is = c.args.operator.now.items in
    let at = c.args.own.now in
    let ks = keys c.args.keys.now in
    let i = c.loop-i.i in
    let rs = c.args.operator.now.rows in
    let many = ap length c.as_slice-rows.ensures in
    all_there c.loop-i.cases.items (own_cases_of is at ks i (drop i rs)) (own_cases_of is at ks 0 rs) c.loop-i.invariant (ap (own_cases_of is at ks i) (all_dropped rs i (omega (arith, many))))
