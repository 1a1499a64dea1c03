use Rattle.std.proofs.Common.{◌≡◌, ◌∙◌, map-id, rules, sym, subst}
use Rattle.std.proofs.lemmas.Iterator.Consumers.{YieldsList-end}
use Rattle.std.proofs.lemmas.Iterator.Adapters.{YieldsList-from_vec}
use Rattle.psg_relation.specs.Ordered.{KeepsOrder}
use Rattle.psg_relation.specs.Sifted.{IsSifted}
use Rattle.psg_relation.proofs.Growing.{sifted_more}
use Rattle.psg_relation.proofs.Ordered.{grown}
use Rattle.psg_relation.proofs.maximal.maximal.Goals as goal

pub loop-row-preserved : goal.loop-row-preserved
loop-row-preserved c =
    let now = c.loop-row.kept.rows.items in
    let more = c.in_ok-more.more.rows.items in
    let i = c.loop-row.invariant in record {
      sifted = sifted_more c.loop-row.yielded now c.in-Some.row more i.sifted c.in_ok-more.ensures.grown;
      order = grown c.loop-row.yielded now c.in-Some.row more i.sifted i.order c.in_ok-more.ensures.grown;
      indexed = c.in_ok-more.ensures.indexed;
    }

pub returns-clause-sifted : goal.returns-clause-sifted
returns-clause-sifted c =
    let end = YieldsList-end (YieldsList-from_vec {s = c.into_iter-row-iterator.result} c.args.rows.items (search rules) (search rules))
    c.loop-row.yielded c.loop-row.row-iterator c.loop-row.yielded_by c.next.result c.next.new.self c.in-None.is c.next.ensures.steps in
    let all : c.loop-row.yielded ≡ c.args.rows.items = sym (map-id c.loop-row.yielded) ∙ end.0 in
    subst (λ xs. IsSifted xs c.loop-row.kept.rows.items) all c.loop-row.invariant.sifted

pub returns-clause-order : goal.returns-clause-order
returns-clause-order c =
    let end = YieldsList-end (YieldsList-from_vec {s = c.into_iter-row-iterator.result} c.args.rows.items (search rules) (search rules))
    c.loop-row.yielded c.loop-row.row-iterator c.loop-row.yielded_by c.next.result c.next.new.self c.in-None.is c.next.ensures.steps in
    let all : c.loop-row.yielded ≡ c.args.rows.items = sym (map-id c.loop-row.yielded) ∙ end.0 in
    subst (λ xs. KeepsOrder xs c.loop-row.kept.rows.items) all c.loop-row.invariant.order
