use Rattle.std.proofs.Common.{reverse, refl, subst, arith}
use Rattle.std.proofs.lemmas.List.{nil_from_length}
use Rattle.psg_unify.specs.declared.circles.Progress.TheVariants.{Left}
use Rattle.psg_unify.specs.declared.walking.Item.TheVariants.{Visit, Leave}
use Rattle.psg_unify.specs.Circles.{StaysWalking}
use Rattle.psg_unify.proofs.Rounds.{popped, meets_left, leaves_cell, top_within, set_at, unseen_left}
use Rattle.psg_unify.proofs.circles.next_visit.Goals as goal

pub loop-item-init : goal.loop-item-init
loop-item-init c = (λ kept w. w, omega arith)

pub set_progress-requires : goal.set_progress-requires
set_progress-requires c =
    let own = top_within c.requires.0 c.args.base c.loop-item.marks.items (Leave c.in-Leave.id) (reverse c.pop.new.self.items)
    (popped c.requires.0 c.args.base c.loop-item.marks.items c.loop-item.stack.items c.pop.new.self.items c.in-Some.item (Leave c.in-Leave.id) c.in-Some.ensures.items c.in-Leave.is (c.loop-item.invariant.0 c.requires.0 c.requires.1)) in
    record { from = own.0; within = own.1 }

pub was_left-requires : goal.was_left-requires
was_left-requires c =
    let own = top_within c.requires.0 c.args.base c.loop-item.marks.items (Visit c.in-Visit.id) (reverse c.pop.new.self.items)
    (popped c.requires.0 c.args.base c.loop-item.marks.items c.loop-item.stack.items c.pop.new.self.items c.in-Some.item (Visit c.in-Visit.id) c.in-Some.ensures.items c.in-Visit.is (c.loop-item.invariant.0 c.requires.0 c.requires.1)) in
    record { from = own.0; within = own.1 }

pub loop-item-preserved-in-Leave : goal.loop-item-preserved-in-Leave
loop-item-preserved-in-Leave c =
    let u = unseen_left c.args.base c.loop-item.marks.items c.set_progress.new.marks.items c.in-Leave.id Left refl c.set_progress.ensures in (
      λ kept before.
          let w = popped kept c.args.base c.loop-item.marks.items c.loop-item.stack.items c.pop.new.self.items c.in-Some.item (Leave c.in-Leave.id) c.in-Some.ensures.items c.in-Leave.is (c.loop-item.invariant.0 kept before) in
          let own = top_within kept c.args.base c.loop-item.marks.items (Leave c.in-Leave.id) (reverse c.pop.new.self.items) w in
          leaves_cell kept c.args.base c.loop-item.marks.items c.set_progress.new.marks.items c.in-Leave.id (reverse c.pop.new.self.items)
          (set_at c.args.base c.loop-item.marks.items c.set_progress.new.marks.items c.in-Leave.id Left own.0 own.1 c.set_progress.ensures) w,
      (let k = c.loop-item.invariant.1 in omega (arith, u, k)),
    )

pub returns-then-not-was_left-clause-some : goal.returns-then-not-was_left-clause-some
returns-then-not-was_left-clause-some c = λ kept before.
    popped kept c.args.base c.loop-item.marks.items c.loop-item.stack.items c.pop.new.self.items c.in-Some.item (Visit c.in-Visit.id) c.in-Some.ensures.items c.in-Visit.is (c.loop-item.invariant.0 kept before)

pub returns-then-not-was_left-clause-other : goal.returns-then-not-was_left-clause-other
returns-then-not-was_left-clause-other c = λ l. (let e = c.was_left.ensures.1 l in cc)

pub loop-item-preserved : goal.loop-item-preserved
loop-item-preserved c = (
  λ kept before. meets_left kept c.args.base c.loop-item.marks.items c.in-Visit.id (reverse c.pop.new.self.items) (c.was_left.ensures.0 c.if-not-was_left.false)
      (popped kept c.args.base c.loop-item.marks.items c.loop-item.stack.items c.pop.new.self.items c.in-Some.item (Visit c.in-Visit.id) c.in-Some.ensures.items c.in-Visit.is (c.loop-item.invariant.0 kept before)),
  c.loop-item.invariant.1,
)

pub returns-clause-none : goal.returns-clause-none
returns-clause-none c =
    subst (λ l. StaysWalking c.args.base c.args.marks.now.items c.loop-item.marks.items (reverse c.args.stack.now.items) (reverse l)) (nil_from_length c.loop-item.stack.items (omega (arith, c.in_default.ensures.cases)))
    c.loop-item.invariant.0
