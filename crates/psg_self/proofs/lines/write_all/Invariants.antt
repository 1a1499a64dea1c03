use Rattle.std.proofs.Common.{◌≡◌, ◌++◌, drop, string_bytes}
use Rattle.std.specs.List.{flat_map}
use Rattle.psg_self.specs.SelfLines.{lines_of}
use Rattle.psg_self.specs.Export.{exported_line}
use Rattle.psg_self.proofs.lines.write_all.Given as goal

abbrev pub invariant-loop-i : goal.invariant-loop-i
invariant-loop-i l =
    string_bytes l.out ++ flat_map (λ x. flat_map exported_line (lines_of x)) (drop l.i l.nodes)
    ≡ string_bytes l.initial.out ++ flat_map (λ x. flat_map exported_line (lines_of x)) l.nodes
