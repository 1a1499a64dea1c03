use Rattle.std.proofs.Common.{string_bytes, arith}
use Rattle.psg_self.specs.SelfLines.{row_of}
use Rattle.psg_self.specs.Export.{exported_line}
use Rattle.psg_self.proofs.Writes.{piece-more, piece-end}
use Rattle.psg_self.proofs.lines.write_rows.Goals as goal

pub loop-i-preserved : goal.loop-i-preserved
loop-i-preserved c =
    piece-more (λ x. exported_line (row_of x)) c.args.rows.now c.loop-i.i c.index-rows-i.result _ (string_bytes c.loop-i.out)
    (string_bytes c.write_row.new.out) c.loop-i-test.true c.index-rows-i.is c.loop-i.invariant
    c.in_ok-write_row.ensures

pub returns : goal.returns
returns c =
    piece-end (λ x. exported_line (row_of x)) c.args.rows.now c.loop-i.i _ (string_bytes c.loop-i.out) (omega (arith, c.loop-i-test.false))
    c.loop-i.invariant
