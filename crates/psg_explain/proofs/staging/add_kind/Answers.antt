use Rattle.std.proofs.Common.{arith}
use Rattle.psg_explain.proofs.KindLaws.{no_slot, slot_passed, slot_taken}
use Rattle.psg_explain.proofs.staging.add_kind.Goals as goal

pub returns-then-skip-gt0 : goal.returns-then-skip-gt0
returns-then-skip-gt0 c = λ def rest. slot_passed def c.args.kinds.now.items c.in-Slot.kind rest c.args.item.now c.args.skip c.in-Slot.is c.if-skip-gt0.true

pub returns-in_ok-push-in-Slot : goal.returns-in_ok-push-in-Slot
returns-in_ok-push-in-Slot c = λ def rest.
    let none = c.if-skip-gt0.false in
    slot_taken def c.args.kinds.now.items c.push.new.self.items c.in-Slot.kind rest c.args.item.now c.args.skip c.in-Slot.is (omega (arith, none)) c.in_ok-push-in-Slot.ensures.items

pub returns-in_default : goal.returns-in_default
returns-in_default c = λ def rest. no_slot def c.args.kinds.now.items rest c.args.item.now c.args.skip c.in_default.not-Slot
