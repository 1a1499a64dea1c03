use Rattle.std.proofs.Common.{string_bytes}
use Rattle.psg_self.proofs.Writes.{on-ok}
use Rattle.psg_self.proofs.Applied.{constructor-written}
use Rattle.psg_self.proofs.terms.write_constructor.Goals as goal

pub returns : goal.returns
returns c =
    on-ok c.write_names.result c.write_names.ensures (λ h.
    constructor-written c.args.node.now c.elements_at.result.now (string_bytes c.args.out.now) (string_bytes c.write_name.new.out)
    (string_bytes c.write_names.new.out) c.in_ok-write_name.ensures c.elements_at.ensures h)
