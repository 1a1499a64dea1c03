use Rattle.std.proofs.Common.{string_bytes, arith}
use Rattle.psg_self.specs.NodeParts.{name_at}
use Rattle.psg_self.proofs.Writes.{marked-more, marked-end, on-ok}
use Rattle.psg_self.proofs.terms.write_names.Goals as goal

pub loop-i-preserved : goal.loop-i-preserved
loop-i-preserved c =
    marked-more (λ n. name_at n 0) c.args.nodes.now c.loop-i.i c.index-nodes-i.result _ (string_bytes c.loop-i.out)
    (string_bytes c.write_mark.new.out) (string_bytes c.write_name.new.out) c.loop-i-test.true c.index-nodes-i.is
    c.loop-i.invariant c.in_ok-write_mark.ensures c.in_ok-write_name.ensures

pub returns : goal.returns
returns c =
    on-ok c.write_closing.result c.write_closing.ensures (λ h.
    marked-end (λ n. name_at n 0) c.args.nodes.now c.loop-i.i (string_bytes c.args.out.now) (string_bytes c.loop-i.out)
    (string_bytes c.write_closing.new.out) (omega (arith, c.loop-i-test.false)) c.loop-i.invariant h)
