use Rattle.std.proofs.Common.{string_bytes, arith}
use Rattle.std.specs.List.{flat_map}
use Rattle.psg_self.specs.SelfLines.{lines_of}
use Rattle.psg_self.specs.Export.{exported_line}
use Rattle.psg_self.proofs.Writes.{piece-more, piece-end}
use Rattle.psg_self.proofs.lines.write_all.Goals as goal

pub loop-i-preserved : goal.loop-i-preserved
loop-i-preserved c =
    piece-more (λ x. flat_map exported_line (lines_of x)) c.args.nodes.now c.loop-i.i c.index-nodes-i.result _ (string_bytes c.loop-i.out)
    (string_bytes c.write_lines.new.out) c.loop-i-test.true c.index-nodes-i.is c.loop-i.invariant
    c.in_ok-write_lines.ensures

pub returns : goal.returns
returns c =
    piece-end (λ x. flat_map exported_line (lines_of x)) c.args.nodes.now c.loop-i.i _ (string_bytes c.loop-i.out) (omega (arith, c.loop-i-test.false))
    c.loop-i.invariant
