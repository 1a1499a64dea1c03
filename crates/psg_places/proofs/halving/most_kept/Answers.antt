use Rattle.std.proofs.Common.{◌≡◌, cond, refl, sym, subst, arith}
use Rattle.psg_grammar.specs.Open.{IsOpen}
use Rattle.psg_grammar.specs.Work.{work_of}
use Rattle.psg_cache.specs.Annotated.{tree_in}
use Rattle.psg_places.specs.Answers.{IsBlameFault, IsNextTree, next_tree}
use Rattle.psg_places.proofs.AnswerLaws.{passed}
use Rattle.psg_places.proofs.SearchLaws.{IsHalved, bad_at, fewer_more, good_at, halved_end, halved_fault, halved_first, halved_more, halved_trees, most_at, narrowed, not_wide}
use Rattle.psg_places.proofs.halving.most_kept.Goals as goal

pub halves-init : goal.halves-init
halves-init g c = record {
  between = c.requires.more.some;
  inside = omega arith;
  good = c.requires.good;
  bad = c.requires.bad;
  halved = λ h le. halved_first (IsNextTree c.args.definition.now c.args.front.now c.args.tree.now c.args.kept.now) (tree_in c.args.old.now) h
      c.args.left c.args.steps.now (work_of c.args.tree.now) le;
}

pub is_wide-requires : goal.is_wide-requires
is_wide-requires g c = c.halves.invariant.between

pub between-middle-requires : goal.between-middle-requires
between-middle-requires g c = c.is_wide.ensures.0 c.halves-test.true

pub keeps_next-requires-clause-more : goal.keeps_next-requires-clause-more
keeps_next-requires-clause-more g c =
    fewer_more c.args.definition.now c.args.front.now c.args.tree.now c.args.kept.now c.args.left c.between-middle.result c.requires.more
    (omega (arith, c.between-middle.ensures.above)) (omega (arith, c.between-middle.ensures.below, c.halves.invariant.inside))

pub returns-in_err-good-clause-fault : goal.returns-in_err-good-clause-fault
returns-in_err-good-clause-fault g c =
    passed (IsBlameFault c.args.definition.now c.args.tree.now) _ c.in_err-good.field-0.0 c.from_residual.ensures.1
    c.in_err-good.ensures.fault

pub returns-in_err-good-clause-ticks : goal.returns-in_err-good-clause-ticks
returns-in_err-good-clause-ticks g c h le =
    halved_fault (IsNextTree c.args.definition.now c.args.front.now c.args.tree.now c.args.kept.now) (tree_in c.args.old.now) h
    c.halves.low c.halves.high c.args.steps.now c.halves.steps c.keeps_next.new.steps (work_of c.args.tree.now) (c.halves.invariant.halved h le)
    (c.is_wide.ensures.0 c.halves-test.true) c.keeps_next.ensures.ticks

pub halves-preserved : goal.halves-preserved
halves-preserved g c =
    let def = c.args.definition.now in
    let front = c.args.front.now in
    let f = c.args.tree.now in
    let kept = c.args.kept.now in
    let T = IsNextTree def front f kept in
    let o = tree_in c.args.old.now in
    let b = c.in_ok-good.good in
    let low = c.halves.low in
    let high = c.halves.high in
    let middle = c.between-middle.result in
    let down : c.either-next_low.result ≡ cond b middle low = c.either-next_low.ensures in
    let up : c.either-next_high.result ≡ cond b high middle = c.either-next_high.ensures in
    let near = narrowed b low high middle c.between-middle.ensures.above c.between-middle.ensures.below in
    record {
      between = omega (arith, near.0, down, up);
      inside = omega (arith, near.1, up, c.halves.invariant.inside);
      good = subst (λ n. IsOpen def (next_tree def front kept n f)) (sym down) (good_at def front f b kept low middle c.in_ok-good.ensures.open c.halves.invariant.good);
      bad = subst (λ n. IsOpen def (next_tree def front kept n f) → ⊥) (sym up) (bad_at def front f b kept high middle c.in_ok-good.ensures.open c.halves.invariant.bad);
      halved = λ h le.
          subst (λ n. IsHalved T o h n c.either-next_high.result c.args.steps.now c.keeps_next.new.steps (work_of f)) (sym down)
          (subst (λ n. IsHalved T o h (cond b middle low) n c.args.steps.now c.keeps_next.new.steps (work_of f)) (sym up)
          (halved_more T o (next_tree def front kept middle f) h low high middle c.args.steps.now c.halves.steps c.keeps_next.new.steps (work_of f) b (c.halves.invariant.halved h le)
          (c.is_wide.ensures.0 c.halves-test.true) c.between-middle.ensures.half c.keeps_next.ensures.ticks
          (middle, refl) c.keeps_next.ensures.climb));
    }

pub returns-clause-most : goal.returns-clause-most
returns-clause-most g c =
    most_at c.args.definition.now c.args.front.now c.args.tree.now c.args.kept.now c.args.left c.halves.low c.halves.high c.halves.invariant.between
    c.halves.invariant.inside (not_wide c.halves.low c.halves.high c.is_wide.result c.is_wide.ensures c.halves-test.false) c.halves.invariant.good
    c.halves.invariant.bad

pub returns-clause-ticks : goal.returns-clause-ticks
returns-clause-ticks g c h le =
    halved_end (IsNextTree c.args.definition.now c.args.front.now c.args.tree.now c.args.kept.now) (tree_in c.args.old.now) h
    c.halves.low c.halves.high c.args.steps.now c.halves.steps (work_of c.args.tree.now) (c.halves.invariant.halved h le)

pub returns-clause-climbs : goal.returns-clause-climbs
returns-clause-climbs g c h le =
    halved_trees (IsNextTree c.args.definition.now c.args.front.now c.args.tree.now c.args.kept.now) (tree_in c.args.old.now) h
    c.halves.low c.halves.high c.args.steps.now c.halves.steps (work_of c.args.tree.now) (c.halves.invariant.halved h le)
