use Rattle.std.proofs.Common.{ℕ, ◌≤◌, length}
use Rattle.psg_documents.specs.Positions.{IsStop}
use Rattle.psg_documents.proofs.counting.last_stop.Given as goal

abbrev pub invariant-back : goal.invariant-back
invariant-back l = record {
  inside : l.place ≤ length l.text;
  up_to : l.place ≤ l.byte;
  last : (other : ℕ) → IsStop l.text other → other ≤ l.byte → other ≤ l.place;
}

abbrev pub decreases-back : goal.decreases-back
decreases-back l = l.place
