use Rattle.std.proofs.Common.{◌++◌, drop, ap, sym, subst, ◌∙◌, ◌+◌, List, arith}
use Rattle.psg_terms.specs.Terms.{Term}
use Rattle.psg_terms.specs.Signature.{Signature}
use Rattle.psg_terms.specs.Canonical.{IsCanonical}
use Rattle.psg_terms.proofs.Lists.{drop_item, each_at, slice_get_item}
use Rattle.psg_scope.specs.Headers.{keys}
use Rattle.psg_explain.specs.Given.{all_pairs, row_pairs}
use Rattle.psg_explain.proofs.CasingLaws.{all_dropped, all_pushed}
use Rattle.psg_explain.proofs.GivenLaws.{all_there}
use Rattle.psg_explain.proofs.casing.pair_cases.Goals as goal

pub push_pairs-requires : goal.push_pairs-requires
push_pairs-requires c =
    subst (λ (row : List Term). (sig : Signature) × IsCanonical sig row) (sym c.as_slice-left.ensures)
    (each_at (λ (row : List Term). (sig : Signature) × IsCanonical sig row) c.args.lefts.now c.requires c.loop-i.i c.index-lefts-i.result (slice_get_item c.args.lefts.now c.loop-i.i c.index-lefts-i.result c.loop-i-test.true c.index-lefts-i.is))

pub loop-i-preserved : goal.loop-i-preserved
loop-i-preserved c =
    let K = keys c.args.keys.left.now in
    let L = keys c.args.keys.right.now in
    let M = keys c.args.keys.whole.now in
    let i = c.loop-i.i in
    let ls = c.args.lefts.now in
    let rs = c.args.rights.now in
    let left = c.index-lefts-i.result in
    all_pushed c.loop-i.cases.items c.push_pairs.new.cases.items (all_pairs K L M 0 ls rs) (all_pairs K L M i (drop i ls) rs) (row_pairs K L M i 0 left rs) (all_pairs K L M (i + 1) (drop (i + 1) ls) rs)
    (c.in_ok-push_pairs.ensures ∙ ap (λ row. c.loop-i.cases.items ++ row_pairs K L M i 0 row rs) c.as_slice-left.ensures) c.loop-i.invariant
    (ap (λ l. all_pairs K L M i l rs) (drop_item ls i left c.loop-i-test.true c.index-lefts-i.is))

pub returns : goal.returns
returns c =
    let K = keys c.args.keys.left.now in
    let L = keys c.args.keys.right.now in
    let M = keys c.args.keys.whole.now in
    let i = c.loop-i.i in
    let ls = c.args.lefts.now in
    let rs = c.args.rights.now in
    all_there c.loop-i.cases.items (all_pairs K L M i (drop i ls) rs) (all_pairs K L M 0 ls rs) c.loop-i.invariant (ap (λ l. all_pairs K L M i l rs) (all_dropped ls i (omega arith)))
