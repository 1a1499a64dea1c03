use Rattle.std.proofs.Common.{◌≡◌, ◌++◌, drop, string_bytes}
use Rattle.std.specs.List.{flat_map}
use Rattle.psg_self.specs.SelfLines.{row_of}
use Rattle.psg_self.specs.Export.{exported_line}
use Rattle.psg_self.proofs.lines.write_rows.Given as goal

abbrev pub invariant-loop-i : goal.invariant-loop-i
invariant-loop-i l =
    string_bytes l.out ++ flat_map (λ x. exported_line (row_of x)) (drop l.i l.rows)
    ≡ string_bytes l.initial.out ++ flat_map (λ x. exported_line (row_of x)) l.rows
