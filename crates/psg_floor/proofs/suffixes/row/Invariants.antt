use Rattle.std.proofs.Common.{◌≡◌, ◌<◌, ℕ, get_or, length}
use Rattle.psg_floor.proofs.suffixes.row.Given as goal

abbrev pub invariant-loop-k : goal.invariant-loop-k
invariant-loop-k l = record {
  count : length l.row.items ≡ l.k;
  shared : (k : ℕ) → k < l.k → get_or l.row.items k l.term ≡ get_or l.rest k l.term;
}
