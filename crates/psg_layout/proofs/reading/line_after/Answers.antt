use Rattle.std.proofs.Common.{◌+◌, ap, ◌∙◌}
use Rattle.std.proofs.lemmas.List.{take_all}
use Rattle.psg_deflines.specs.Refusals.{line_feeds}
use Rattle.psg_layout.proofs.LastLaws.{line_next}
use Rattle.psg_layout.proofs.reading.line_after.Goals as goal

pub loop-byte-preserved : goal.loop-byte-preserved
loop-byte-preserved c = line_next c.args.bytes.now c.loop-byte.byte-index c.loop-byte.line c.in_ok-line.line c.loop-byte-test.true c.loop-byte.invariant c.in_ok-line.ensures

pub returns : goal.returns
returns c = c.loop-byte.invariant ∙ ap (λ xs. line_feeds xs + 1) (take_all c.loop-byte.byte-index c.args.bytes.now c.loop-byte-test.false)
