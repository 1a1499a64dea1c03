use Rattle.std.proofs.Common.{◌+◌, ◌<◌, ℕ, List, All, length, sym, subst}
use Rattle.psg_terms.specs.Terms.{Term}
use Rattle.psg_unify.specs.Pairs.{AreJoinable}
use Rattle.psg_relation.specs.Joining.{IsMore}
use Rattle.psg_relation.proofs.Members.{in-at}
use Rattle.psg_relation.proofs.Selected.{twins_step}
use Rattle.psg_relation.proofs.selecting.self_joins.Goals as goal

pub with_join_in-requires-clause-joinable : goal.with_join_in-requires-clause-joinable
with_join_in-requires-clause-joinable c =
    let sig = c.args.sig.now in
    let pairs = c.args.pairs.now in
    let row : List Term = c.row-item.result in
    subst (λ r. AreJoinable sig c.terms.result.now r pairs) (sym c.terms-in-loop-row.ensures)
    (subst (λ r. AreJoinable sig r row pairs) (sym c.terms.ensures) (c.requires row (in-at row c.args.rows.now c.loop-row.row-index c.loop-row-test.true c.row-item.is)).joinable)

pub with_join_in-requires-clause-keep : goal.with_join_in-requires-clause-keep
with_join_in-requires-clause-keep c =
    let keep = c.args.keep.now in
    let row : List Term = c.row-item.result in
    subst (λ r. All (λ (k : ℕ). k < length c.terms.result.now + length r) keep) (sym c.terms-in-loop-row.ensures)
    (subst (λ r. All (λ (k : ℕ). k < length r + length row) keep) (sym c.terms.ensures) (c.requires row (in-at row c.args.rows.now c.loop-row.row-index c.loop-row-test.true c.row-item.is)).within)

pub loop-row-preserved : goal.loop-row-preserved
loop-row-preserved c =
    let sig = c.args.sig.now in
    let pairs = c.args.pairs.now in
    let keep = c.args.keep.now in
    let now = c.loop-row.made.items in
    let more = c.in_ok-made.made.items in
    let row : List Term = c.row-item.result in
    let m : IsMore sig pairs keep c.terms.result.now c.terms-in-loop-row.result.now now more = c.in_ok-made.ensures in
    let l : IsMore sig pairs keep row c.terms-in-loop-row.result.now now more = subst (λ r. IsMore sig pairs keep r c.terms-in-loop-row.result.now now more) c.terms.ensures m in
    twins_step sig pairs keep c.args.rows.now now more c.loop-row.row-index row c.loop-row-test.true c.row-item.is c.loop-row.invariant
    (subst (λ r. IsMore sig pairs keep row r now more) c.terms-in-loop-row.ensures l)
