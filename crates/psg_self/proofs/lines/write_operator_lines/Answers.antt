use Rattle.std.proofs.Common.{string_bytes}
use Rattle.std.specs.List.{flat_map}
use Rattle.psg_self.specs.SelfLines.{row_of}
use Rattle.psg_self.specs.Export.{exported_line}
use Rattle.psg_self.proofs.Writes.{on-ok}
use Rattle.psg_self.proofs.LineWrites.{operator-lines, moved}
use Rattle.psg_self.proofs.lines.write_operator_lines.Goals as goal

pub returns : goal.returns
returns c =
    on-ok c.write_rows.result c.write_rows.ensures (λ h.
    operator-lines c.args.line.now (string_bytes c.args.out.now) (string_bytes c.write_operator.new.out) (string_bytes c.write_rows.new.out) c.in_ok-write_operator.ensures
    (moved (flat_map (λ r. exported_line (row_of r))) _ _ (string_bytes c.write_operator.new.out) (string_bytes c.write_rows.new.out) c.elements_at.ensures h))
