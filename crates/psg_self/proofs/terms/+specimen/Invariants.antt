use Rattle.std.proofs.Common.{◌≡◌, ◌+◌, ◌*◌, ◌++◌, drop, string_bytes}
use Rattle.psg_tree.specs.Shapes.{height}
use Rattle.psg_self.specs.SelfLines.{specimen_of}
use Rattle.psg_self.specs.Export.{specimen_text}
use Rattle.psg_self.specs.Brackets.{marked}
use Rattle.psg_self.proofs.terms.+specimen.Given as goal

abbrev pub decreases-write_specimens : goal.decreases-write_specimens
decreases-write_specimens l = 2 * height l.list.now + 1

abbrev pub decreases-write_specimen : goal.decreases-write_specimen
decreases-write_specimen l = 2 * height l.specimen.now

abbrev pub invariant-write_specimens-loop-i : goal.invariant-write_specimens-loop-i
invariant-write_specimens-loop-i l =
    string_bytes l.out ++ marked (λ t. specimen_text (specimen_of t)) l.i (drop l.i l.specimens)
    ≡ string_bytes l.initial.out ++ marked (λ t. specimen_text (specimen_of t)) 0 l.specimens
