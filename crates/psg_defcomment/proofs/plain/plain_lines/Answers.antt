use Rattle.std.proofs.Common.{arith, subst}
use Rattle.psg_defcomment.specs.Writing.{AddsLine}
use Rattle.psg_defcomment.proofs.LineLaws.{line_next}
use Rattle.psg_defcomment.proofs.plain.plain_lines.Goals as goal

pub loop-line-preserved : goal.loop-line-preserved
loop-line-preserved c = (
  omega (arith, c.loop-line.invariant.0),
  line_next c.args.lines.now c.loop-line.line-index _ c.loop-line.number c.loop-line.bytes.items c.push.new.bytes.items
      c.loop-line.named.items c.push.new.named.items c.loop-line-test.true c.loop-line.invariant.0 c.loop-line.invariant.1
      (subst (λ l. AddsLine l c.loop-line.number c.loop-line.bytes.items c.loop-line.named.items c.push.new.bytes.items c.push.new.named.items)
      c.as_bytes.ensures.value c.in_ok-push.ensures),
)
