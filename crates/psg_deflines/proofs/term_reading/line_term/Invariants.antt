use Rattle.std.proofs.Common.{◌-◌, ◌≤◌, length}
use Rattle.psg_deflines.specs.Parts.{texts}
use Rattle.psg_deflines.proofs.TermFound.{IsWalked}
use Rattle.psg_deflines.proofs.term_reading.line_term.Given as goal

abbrev pub invariant-steps : goal.invariant-steps
invariant-steps l = (l.taken ≤ length l.parts) × IsWalked (texts l.parts) l.walk l.taken

abbrev pub decreases-steps : goal.decreases-steps
decreases-steps l = length l.parts - l.taken
