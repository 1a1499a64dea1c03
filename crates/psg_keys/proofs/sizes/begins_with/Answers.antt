use Rattle.std.proofs.Common.{sym, ◌∙◌}
use Rattle.psg_keys.proofs.NameLaws.{begins_same, begins_other, begins_short, begins_end}
use Rattle.psg_keys.proofs.sizes.begins_with.Goals as goal

pub loop-place-preserved : goal.loop-place-preserved
loop-place-preserved c =
    c.loop-place.invariant
    ∙ begins_same c.args.mark.now c.args.bytes.now c.loop-place.place c.in_ok-byte.byte c.loop-place-test.true
    (sym c.in_ok-byte.ensures) c.if-byte-mark.false

pub returns-in_err-byte : goal.returns-in_err-byte
returns-in_err-byte c =
    c.from_residual.ensures
    ∙ sym (c.loop-place.invariant
    ∙ begins_short c.args.mark.now c.args.bytes.now c.loop-place.place c.loop-place-test.true (sym c.in_err-byte.ensures))

pub returns-then-byte-mark : goal.returns-then-byte-mark
returns-then-byte-mark c =
    sym (c.loop-place.invariant
    ∙ begins_other c.args.mark.now c.args.bytes.now c.loop-place.place c.in_ok-byte.byte c.loop-place-test.true
    (sym c.in_ok-byte.ensures) c.if-byte-mark.true)

pub returns : goal.returns
returns c =
    sym (c.loop-place.invariant ∙ begins_end c.args.mark.now c.args.bytes.now c.loop-place.place c.loop-place-test.false)
