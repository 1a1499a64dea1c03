use Rattle.std.proofs.Common.{◌≡◌, ◌+◌, ◌-◌, ◌≤◌, take}
use Rattle.psg_documents.specs.Positions.{units}
use Rattle.psg_documents.proofs.counting.reached.Given as goal

abbrev pub invariant-bytes : goal.invariant-bytes
invariant-bytes l = record {
  low : l.start ≤ l.place;
  high : l.place ≤ l.end;
  sum : units l.encoding (take l.place l.text) + l.left ≡ units l.encoding (take l.start l.text) + l.column;
}

abbrev pub decreases-bytes : goal.decreases-bytes
decreases-bytes l = l.end - l.place
