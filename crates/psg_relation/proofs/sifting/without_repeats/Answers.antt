use Rattle.std.proofs.Common.{◌≡◌, ◌∷◌, ◌++◌, [], ◌∙◌, map-id, rules, sym, subst}
use Rattle.std.proofs.lemmas.Iterator.Consumers.{YieldsList-end}
use Rattle.std.proofs.lemmas.Iterator.Adapters.{YieldsList-from_vec}
use Rattle.psg_terms.specs.Relations.{IsIn}
use Rattle.psg_relation.specs.Ordered.{KeepsOrder}
use Rattle.psg_relation.specs.Sifted.{HasSameRows}
use Rattle.psg_relation.proofs.Ordered.{order_push, order_skip}
use Rattle.psg_relation.proofs.Splitting.{same_push, same_repeat}
use Rattle.psg_relation.proofs.sifting.without_repeats.Goals as goal

pub loop-row-preserved-in-Continue-branch-2 : goal.loop-row-preserved-in-Continue-branch-2
loop-row-preserved-in-Continue-branch-2 c =
    let done = c.loop-row.yielded in
    let once = c.loop-row.once.items in
    let row = c.in-Some.row in (
      subst (HasSameRows (done ++ row ∷ [])) (sym c.in_ok-push.ensures.items) (same_push done once row c.loop-row.invariant.0),
      subst (KeepsOrder (done ++ row ∷ [])) (sym c.in_ok-push.ensures.items) (order_push done once row c.loop-row.invariant.0.back c.loop-row.invariant.1),
    )

pub loop-row-preserved : goal.loop-row-preserved
loop-row-preserved c =
    let done = c.loop-row.yielded in
    let once = c.loop-row.once.items in
    let row = c.in-Some.row in
    let there : IsIn row once = subst (IsIn row) c.as_slice.ensures.value (c.repeats.ensures c.if-not-repeats.false) in
    (same_repeat done once row c.loop-row.invariant.0 (c.loop-row.invariant.0.back row there), order_skip done once row c.loop-row.invariant.1)

pub returns-clause-same : goal.returns-clause-same
returns-clause-same c =
    let end = YieldsList-end (YieldsList-from_vec {s = c.into_iter-row-iterator.result} c.args.rows.items (search rules) (search rules))
    c.loop-row.yielded c.loop-row.row-iterator c.loop-row.yielded_by c.next.result c.next.new.self c.in-None.is c.next.ensures.steps in
    let all : c.loop-row.yielded ≡ c.args.rows.items = sym (map-id c.loop-row.yielded) ∙ end.0 in
    subst (λ xs. HasSameRows xs c.loop-row.once.items) all c.loop-row.invariant.0

pub returns-clause-order : goal.returns-clause-order
returns-clause-order c =
    let end = YieldsList-end (YieldsList-from_vec {s = c.into_iter-row-iterator.result} c.args.rows.items (search rules) (search rules))
    c.loop-row.yielded c.loop-row.row-iterator c.loop-row.yielded_by c.next.result c.next.new.self c.in-None.is c.next.ensures.steps in
    let all : c.loop-row.yielded ≡ c.args.rows.items = sym (map-id c.loop-row.yielded) ∙ end.0 in
    subst (λ xs. KeepsOrder xs c.loop-row.once.items) all c.loop-row.invariant.1
