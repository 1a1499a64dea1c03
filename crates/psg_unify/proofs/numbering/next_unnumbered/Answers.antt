use Rattle.std.proofs.Common.{reverse, sym, subst, arith}
use Rattle.std.proofs.lemmas.List.{nil_from_length}
use Rattle.psg_unify.specs.declared.walking.Item.TheVariants.{Visit, Leave}
use Rattle.psg_unify.specs.Filling.{IsFilled, StaysFilling}
use Rattle.psg_unify.proofs.NumberSteps.{stays_none, stays_both}
use Rattle.psg_unify.proofs.ReadWalk.{filling_known, filling_left, filling_top, taken, taken_fresh, fresh_left}
use Rattle.psg_unify.proofs.numbering.next_unnumbered.Goals as goal

pub loop-item-init : goal.loop-item-init
loop-item-init c = (stays_none c.args.sig.now c.args.pool.now c.args.numbers.now, λ cells r. r, omega arith)

pub leave-requires : goal.leave-requires
leave-requires c = (
  c.requires.0,
  reverse c.pop.new.self.items,
  taken c.args.pool.now c.requires.0 c.loop-item.numbers.cells.items c.loop-item.stack.items c.pop.new.self.items c.in-Some.item (Leave c.in-Leave.id) c.in-Some.ensures.items c.in-Leave.is
      (c.loop-item.invariant.1 c.requires.0 c.requires.1),
)

pub loop-item-preserved-in-Continue-1 : goal.loop-item-preserved-in-Continue-1
loop-item-preserved-in-Continue-1 c = (
  stays_both c.args.sig.now c.args.pool.now c.args.numbers.now c.loop-item.numbers c.leave.new.numbers c.loop-item.invariant.0 c.in_ok-leave-in-Leave.ensures.numbered,
  λ cells r.
      filling_left c.args.pool.now cells c.loop-item.numbers.cells.items c.leave.new.numbers.cells.items c.in-Leave.id (reverse c.pop.new.self.items) c.in_ok-leave-in-Leave.ensures.kept
      (taken c.args.pool.now cells c.loop-item.numbers.cells.items c.loop-item.stack.items c.pop.new.self.items c.in-Some.item (Leave c.in-Leave.id) c.in-Some.ensures.items c.in-Leave.is (c.loop-item.invariant.1 cells r)),
  (
      let top = filling_top c.args.pool.now c.requires.0 c.loop-item.numbers.cells.items (Leave c.in-Leave.id) (reverse c.pop.new.self.items)
      (taken c.args.pool.now c.requires.0 c.loop-item.numbers.cells.items c.loop-item.stack.items c.pop.new.self.items c.in-Some.item (Leave c.in-Leave.id) c.in-Some.ensures.items c.in-Leave.is
      (c.loop-item.invariant.1 c.requires.0 c.requires.1)) in
      let less = fresh_left c.loop-item.numbers.cells.items c.leave.new.numbers.cells.items c.in-Leave.id (reverse c.pop.new.self.items) c.in_ok-leave-in-Leave.ensures.kept top.1 in
      let same = taken_fresh c.loop-item.numbers.cells.items c.loop-item.stack.items c.pop.new.self.items c.in-Some.item (Leave c.in-Leave.id) c.in-Some.ensures.items c.in-Leave.is in
      let before = c.loop-item.invariant.2 in
      omega (arith, less, same, before)
      ),
)

pub returns-then-not-is_numbered-clause-some : goal.returns-then-not-is_numbered-clause-some
returns-then-not-is_numbered-clause-some c = record {
  stays = λ cells r. taken c.args.pool.now cells c.loop-item.numbers.cells.items c.loop-item.stack.items c.pop.new.self.items c.in-Some.item (Visit c.in-Visit.id) c.in-Some.ensures.items c.in-Visit.is (c.loop-item.invariant.1 cells r);
  other = λ h. (let t = c.is_numbered.ensures.1 (subst (λ w. IsFilled w c.in-Visit.id) (sym c.as_slice.ensures.value) h) in (cc));
  fewer = (
      let same = taken_fresh c.loop-item.numbers.cells.items c.loop-item.stack.items c.pop.new.self.items c.in-Some.item (Visit c.in-Visit.id) c.in-Some.ensures.items c.in-Visit.is in
      let before = c.loop-item.invariant.2 in
      omega (arith, same, before)
      );
}

pub loop-item-preserved : goal.loop-item-preserved
loop-item-preserved c = (
  c.loop-item.invariant.0,
  λ cells r.
      filling_known c.args.pool.now cells c.loop-item.numbers.cells.items c.in-Visit.id (reverse c.pop.new.self.items) (subst (λ w. IsFilled w c.in-Visit.id) c.as_slice.ensures.value (c.is_numbered.ensures.0 c.if-not-is_numbered.false))
      (taken c.args.pool.now cells c.loop-item.numbers.cells.items c.loop-item.stack.items c.pop.new.self.items c.in-Some.item (Visit c.in-Visit.id) c.in-Some.ensures.items c.in-Visit.is (c.loop-item.invariant.1 cells r)),
  (
      let same = taken_fresh c.loop-item.numbers.cells.items c.loop-item.stack.items c.pop.new.self.items c.in-Some.item (Visit c.in-Visit.id) c.in-Some.ensures.items c.in-Visit.is in
      let before = c.loop-item.invariant.2 in
      omega (arith, same, before)
      ),
)

pub returns-clause-stays : goal.returns-clause-stays
returns-clause-stays c =
    subst (λ l. StaysFilling c.args.pool.now c.args.numbers.now.cells.items c.loop-item.numbers.cells.items (reverse c.args.stack.now.items) (reverse l)) (nil_from_length c.loop-item.stack.items (omega (arith, c.in_default.ensures.cases))) c.loop-item.invariant.1
