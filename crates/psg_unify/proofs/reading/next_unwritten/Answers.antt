use Rattle.std.proofs.Common.{◌∷◌, reverse, sym, subst, arith}
use Rattle.std.proofs.lemmas.List.{nil_from_length}
use Rattle.psg_unify.specs.declared.walking.Item.{Item}
use Rattle.psg_unify.specs.declared.walking.Item.TheVariants.{Visit, Leave}
use Rattle.psg_unify.specs.ReadOut.{ReadsOn}
use Rattle.psg_unify.specs.Filling.{IsFilled, StaysFilling}
use Rattle.psg_unify.proofs.Rounds.{on_top}
use Rattle.psg_unify.proofs.ReadSteps.{reads_begin, reads_both, reads_known}
use Rattle.psg_unify.proofs.ReadWalk.{filling_known, filling_left, filling_top, taken, taken_fresh, fresh_left}
use Rattle.psg_unify.proofs.reading.next_unwritten.Goals as goal

pub loop-item-init : goal.loop-item-init
loop-item-init c = (λ s known. reads_begin s c.args.pool.now known known c.args.written.now.items (reverse c.args.stack.now.items), λ cells r. r, omega arith)

pub leave-requires : goal.leave-requires
leave-requires c = (
  c.requires.0,
  reverse c.pop.new.self.items,
  taken c.args.pool.now c.requires.0 c.loop-item.written.items c.loop-item.stack.items c.pop.new.self.items c.in-Some.item (Leave c.in-Leave.id) c.in-Some.ensures.items c.in-Leave.is
      (c.loop-item.invariant.1 c.requires.0 c.requires.1),
)

pub loop-item-preserved-in-Continue-1 : goal.loop-item-preserved-in-Continue-1
loop-item-preserved-in-Continue-1 c = (
  λ s known.
      reads_both s c.args.pool.now known known known c.args.written.now.items c.loop-item.written.items c.leave.new.written.items (reverse c.args.stack.now.items) (Leave c.in-Leave.id ∷ reverse c.pop.new.self.items) (reverse c.pop.new.self.items)
      (subst (λ (i : Item). ReadsOn s c.args.pool.now known known c.args.written.now.items c.loop-item.written.items (reverse c.args.stack.now.items) (i ∷ reverse c.pop.new.self.items)) c.in-Leave.is (subst (λ l. ReadsOn s c.args.pool.now known known c.args.written.now.items c.loop-item.written.items (reverse c.args.stack.now.items) l) (on_top c.pop.new.self.items c.loop-item.stack.items c.in-Some.item c.in-Some.ensures.items) (c.loop-item.invariant.0 s known)))
      (c.in_ok-leave-in-Leave.ensures.reads s known (reverse c.pop.new.self.items)),
  λ cells r.
      filling_left c.args.pool.now cells c.loop-item.written.items c.leave.new.written.items c.in-Leave.id (reverse c.pop.new.self.items) c.in_ok-leave-in-Leave.ensures.kept
      (taken c.args.pool.now cells c.loop-item.written.items c.loop-item.stack.items c.pop.new.self.items c.in-Some.item (Leave c.in-Leave.id) c.in-Some.ensures.items c.in-Leave.is (c.loop-item.invariant.1 cells r)),
  (
      let top = filling_top c.args.pool.now c.requires.0 c.loop-item.written.items (Leave c.in-Leave.id) (reverse c.pop.new.self.items)
      (taken c.args.pool.now c.requires.0 c.loop-item.written.items c.loop-item.stack.items c.pop.new.self.items c.in-Some.item (Leave c.in-Leave.id) c.in-Some.ensures.items c.in-Leave.is
      (c.loop-item.invariant.1 c.requires.0 c.requires.1)) in
      let less = fresh_left c.loop-item.written.items c.leave.new.written.items c.in-Leave.id (reverse c.pop.new.self.items) c.in_ok-leave-in-Leave.ensures.kept top.1 in
      let same = taken_fresh c.loop-item.written.items c.loop-item.stack.items c.pop.new.self.items c.in-Some.item (Leave c.in-Leave.id) c.in-Some.ensures.items c.in-Leave.is in
      let before = c.loop-item.invariant.2 in
      omega (arith, less, same, before)
      ),
)

pub returns-then-not-is_written-clause-some : goal.returns-then-not-is_written-clause-some
returns-then-not-is_written-clause-some c = record {
  reads = λ s known. (subst (λ (i : Item). ReadsOn s c.args.pool.now known known c.args.written.now.items c.loop-item.written.items (reverse c.args.stack.now.items) (i ∷ reverse c.pop.new.self.items)) c.in-Visit.is (subst (λ l. ReadsOn s c.args.pool.now known known c.args.written.now.items c.loop-item.written.items (reverse c.args.stack.now.items) l) (on_top c.pop.new.self.items c.loop-item.stack.items c.in-Some.item c.in-Some.ensures.items) (c.loop-item.invariant.0 s known)));
  stays = λ cells r. taken c.args.pool.now cells c.loop-item.written.items c.loop-item.stack.items c.pop.new.self.items c.in-Some.item (Visit c.in-Visit.id) c.in-Some.ensures.items c.in-Visit.is (c.loop-item.invariant.1 cells r);
  other = λ h. (let t = c.is_written.ensures.1 (subst (λ w. IsFilled w c.in-Visit.id) (sym c.as_slice.ensures.value) h) in (cc));
  fewer = (
      let same = taken_fresh c.loop-item.written.items c.loop-item.stack.items c.pop.new.self.items c.in-Some.item (Visit c.in-Visit.id) c.in-Some.ensures.items c.in-Visit.is in
      let before = c.loop-item.invariant.2 in
      omega (arith, same, before)
      );
}

pub loop-item-preserved : goal.loop-item-preserved
loop-item-preserved c = (
  λ s known.
      reads_both s c.args.pool.now known known known c.args.written.now.items c.loop-item.written.items c.loop-item.written.items (reverse c.args.stack.now.items) (Visit c.in-Visit.id ∷ reverse c.pop.new.self.items) (reverse c.pop.new.self.items)
      (subst (λ (i : Item). ReadsOn s c.args.pool.now known known c.args.written.now.items c.loop-item.written.items (reverse c.args.stack.now.items) (i ∷ reverse c.pop.new.self.items)) c.in-Visit.is (subst (λ l. ReadsOn s c.args.pool.now known known c.args.written.now.items c.loop-item.written.items (reverse c.args.stack.now.items) l) (on_top c.pop.new.self.items c.loop-item.stack.items c.in-Some.item c.in-Some.ensures.items) (c.loop-item.invariant.0 s known)))
      (reads_known s c.args.pool.now known c.loop-item.written.items c.in-Visit.id (reverse c.pop.new.self.items)
      (subst (λ w. IsFilled w c.in-Visit.id) c.as_slice.ensures.value (c.is_written.ensures.0 c.if-not-is_written.false))),
  λ cells r.
      filling_known c.args.pool.now cells c.loop-item.written.items c.in-Visit.id (reverse c.pop.new.self.items) (subst (λ w. IsFilled w c.in-Visit.id) c.as_slice.ensures.value (c.is_written.ensures.0 c.if-not-is_written.false))
      (taken c.args.pool.now cells c.loop-item.written.items c.loop-item.stack.items c.pop.new.self.items c.in-Some.item (Visit c.in-Visit.id) c.in-Some.ensures.items c.in-Visit.is (c.loop-item.invariant.1 cells r)),
  (
      let same = taken_fresh c.loop-item.written.items c.loop-item.stack.items c.pop.new.self.items c.in-Some.item (Visit c.in-Visit.id) c.in-Some.ensures.items c.in-Visit.is in
      let before = c.loop-item.invariant.2 in
      omega (arith, same, before)
      ),
)

pub returns-clause-reads : goal.returns-clause-reads
returns-clause-reads c = λ s known.
    subst (λ l. ReadsOn s c.args.pool.now known known c.args.written.now.items c.loop-item.written.items (reverse c.args.stack.now.items) (reverse l)) (nil_from_length c.loop-item.stack.items (omega (arith, c.in_default.ensures.cases))) (c.loop-item.invariant.0 s known)

pub returns-clause-stays : goal.returns-clause-stays
returns-clause-stays c =
    subst (λ l. StaysFilling c.args.pool.now c.args.written.now.items c.loop-item.written.items (reverse c.args.stack.now.items) (reverse l)) (nil_from_length c.loop-item.stack.items (omega (arith, c.in_default.ensures.cases))) c.loop-item.invariant.1
