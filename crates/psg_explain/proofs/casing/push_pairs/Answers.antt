use Rattle.std.proofs.Common.{◌++◌, ◌∷◌, [], drop, ap, ◌∙◌, ◌+◌, arith}
use Rattle.psg_terms.proofs.Lists.{drop_item}
use Rattle.psg_scope.specs.Headers.{keys}
use Rattle.psg_explain.specs.Given.{pair_case, row_pairs}
use Rattle.psg_explain.proofs.CasingLaws.{all_dropped, pushed}
use Rattle.psg_explain.proofs.GivenLaws.{all_there}
use Rattle.psg_explain.proofs.casing.push_pairs.Goals as goal

pub loop-j-preserved : goal.loop-j-preserved
loop-j-preserved c =
    let K = keys c.args.keys.left.now in
    let L = keys c.args.keys.right.now in
    let M = keys c.args.keys.whole.now in
    let j = c.loop-j.j in
    let rs = c.args.rights.now in
    let right = c.index-rights-j.result in
    pushed c.loop-j.cases.items c.push.new.self.items (c.args.cases.now.items ++ row_pairs K L M c.args.number 0 c.args.left.now rs) (row_pairs K L M c.args.number j c.args.left.now (drop j rs))
    (row_pairs K L M c.args.number (j + 1) c.args.left.now (drop (j + 1) rs)) (pair_case K L M c.args.number j c.args.left.now right)
    (c.in_ok-push.ensures.items ∙ ap (λ x. c.loop-j.cases.items ++ x ∷ []) (c.in_ok-case.ensures ∙ ap (pair_case K L M c.args.number j c.args.left.now) c.as_slice-right.ensures)) c.loop-j.invariant
    (ap (row_pairs K L M c.args.number j c.args.left.now) (drop_item rs j right c.loop-j-test.true c.index-rights-j.is))

pub returns : goal.returns
returns c =
    let K = keys c.args.keys.left.now in
    let L = keys c.args.keys.right.now in
    let M = keys c.args.keys.whole.now in
    let j = c.loop-j.j in
    let rs = c.args.rights.now in
    all_there c.loop-j.cases.items (row_pairs K L M c.args.number j c.args.left.now (drop j rs)) (c.args.cases.now.items ++ row_pairs K L M c.args.number 0 c.args.left.now rs) c.loop-j.invariant
    (ap (row_pairs K L M c.args.number j c.args.left.now) (all_dropped rs j (omega arith)))
