use Rattle.std.proofs.Common.{◌≡◌, ◌∷◌, ◌++◌, [], ◌∙◌, map-id, rules, sym, subst}
use Rattle.std.proofs.lemmas.Bool.{false≢true}
use Rattle.std.proofs.lemmas.Iterator.Consumers.{YieldsList-end}
use Rattle.std.proofs.lemmas.Iterator.Adapters.{YieldsList-from_vec}
use Rattle.psg_terms.specs.Instances.{IsInstance}
use Rattle.psg_relation.specs.Sifted.{LeavesOut}
use Rattle.psg_relation.proofs.Growing.{out_keep, out_drop}
use Rattle.psg_relation.proofs.maximal.without_instances.Goals as goal

pub loop-other-preserved-in_ok-push : goal.loop-other-preserved-in_ok-push
loop-other-preserved-in_ok-push c =
    let row = c.args.row.now in
    let done = c.loop-other.yielded in
    let rest = c.loop-other.rest.items in
    let other = c.in-Some.other in
    subst (LeavesOut row (done ++ other ∷ [])) (sym c.in_ok-push.ensures.items)
    (out_keep row done rest other c.loop-other.invariant
    (λ i. absurd (false≢true (sym c.if-not-branch.true ∙ c.in_ok-is_instance.ensures.instance.1 (subst (λ r. IsInstance r row) (sym c.terms.ensures) i)))))

pub loop-other-preserved : goal.loop-other-preserved
loop-other-preserved c =
    let row = c.args.row.now in
    let done = c.loop-other.yielded in
    let rest = c.loop-other.rest.items in
    let other = c.in-Some.other in
    out_drop row done rest other c.loop-other.invariant (subst (λ r. IsInstance r row) c.terms.ensures (c.in_ok-is_instance.ensures.instance.0 c.if-not-branch.false))

pub returns : goal.returns
returns c =
    let end = YieldsList-end (YieldsList-from_vec {s = c.into_iter-other-iterator.result} c.args.kept.items (search rules) (search rules))
    c.loop-other.yielded c.loop-other.other-iterator c.loop-other.yielded_by c.next.result c.next.new.self c.in-None.is c.next.ensures.steps in
    let all : c.loop-other.yielded ≡ c.args.kept.items = sym (map-id c.loop-other.yielded) ∙ end.0 in
    subst (λ xs. LeavesOut c.args.row.now xs c.loop-other.rest.items) all c.loop-other.invariant
