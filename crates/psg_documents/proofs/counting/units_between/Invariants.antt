use Rattle.std.proofs.Common.{◌≡◌, ◌+◌, ◌-◌, ◌*◌, ◌≤◌, take}
use Rattle.psg_documents.specs.Positions.{units}
use Rattle.psg_documents.proofs.counting.units_between.Given as goal

abbrev pub invariant-bytes : goal.invariant-bytes
invariant-bytes l = record {
  low : l.start ≤ l.place;
  high : l.place ≤ l.end;
  small : l.sum ≤ 2 * l.place;
  total : units l.encoding (take l.start l.text) + l.sum ≡ units l.encoding (take l.place l.text);
}

abbrev pub decreases-bytes : goal.decreases-bytes
decreases-bytes l = l.end - l.place
