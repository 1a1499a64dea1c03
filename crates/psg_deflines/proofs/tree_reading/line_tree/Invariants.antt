use Rattle.std.proofs.Common.{◌-◌, ◌≤◌, length}
use Rattle.psg_deflines.specs.Parts.{texts}
use Rattle.psg_deflines.proofs.TreeFound.{IsTreeWalked}
use Rattle.psg_deflines.proofs.tree_reading.line_tree.Given as goal

abbrev pub invariant-steps : goal.invariant-steps
invariant-steps l = (l.taken ≤ length l.parts) × IsTreeWalked (texts l.parts) l.walk l.taken

abbrev pub decreases-steps : goal.decreases-steps
decreases-steps l = length l.parts - l.taken
