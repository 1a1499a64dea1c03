use Rattle.std.proofs.Common.{◌+◌, drop, map, sym, subst, true≢false}
use Rattle.std.proofs.lemmas.List.{drop_all}
use Rattle.psg_terms.proofs.Lists.{drop_item}
use Rattle.psg_grammar.specs.Insertion.{AreLeaves}
use Rattle.psg_grammar.specs.Lookups.{part_items}
use Rattle.psg_session.specs.Views.{plain_leaf}
use Rattle.psg_session.proofs.LeafLaws.{leaves_end}
use Rattle.psg_session.proofs.leaves.are_leaves.Goals as goal

pub returns-in-None : goal.returns-in-None
returns-in-None c =
    let i = c.loop-item.invariant in
    let d = drop_item c.args.items.now c.loop-item.item-index c.item-item.result c.loop-item-test.true c.item-item.is
    in (
      λ h. absurd (true≢false (sym h)),
      λ f. absurd (c.in-None.ensures (drop (c.loop-item.item-index + 1) c.args.items.now)
          (subst (λ xs. AreLeaves c.args.language.now.definition (part_items xs)
          (map plain_leaf (drop c.loop-item.at c.args.leaves.now))) d (i.1.0 f))),
    )

pub loop-item-preserved : goal.loop-item-preserved
loop-item-preserved c =
    let i = c.loop-item.invariant in
    let d = drop_item c.args.items.now c.loop-item.item-index c.item-item.result c.loop-item-test.true
    c.item-item.is in
    let next = c.in-Some.ensures.1 (drop (c.loop-item.item-index + 1) c.args.items.now) in (
      c.in-Some.ensures.0,
      (
        λ f. next.0
            (subst (λ xs. AreLeaves c.args.language.now.definition (part_items xs)
            (map plain_leaf (drop c.loop-item.at c.args.leaves.now))) d (i.1.0 f)),
        λ h. i.1.1
            (subst (λ xs. AreLeaves c.args.language.now.definition (part_items xs)
            (map plain_leaf (drop c.loop-item.at c.args.leaves.now))) (sym d) (next.1 h)),
      ),
    )

pub returns : goal.returns
returns c =
    let i = c.loop-item.invariant in
    let d = drop_all c.loop-item.item-index c.args.items.now c.loop-item-test.false in
    let e = leaves_end c.args.language.now.definition c.args.leaves.now c.loop-item.at i.0 in (
      λ h. i.1.1
          (subst (λ xs. AreLeaves c.args.language.now.definition (part_items xs)
          (map plain_leaf (drop c.loop-item.at c.args.leaves.now))) (sym d) (e.0 h)),
      λ f. e.1 (subst
          (λ xs. AreLeaves c.args.language.now.definition (part_items xs)
          (map plain_leaf (drop c.loop-item.at c.args.leaves.now))) d (i.1.0 f)),
    )
