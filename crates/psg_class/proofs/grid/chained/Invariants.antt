use Rattle.std.proofs.Common.{◌≡◌, length}
use Rattle.psg_class.proofs.ChainLaws.{AllLead}
use Rattle.psg_class.proofs.grid.chained.Given as goal

abbrev pub invariant-loop-place : goal.invariant-loop-place
invariant-loop-place l = record {
  one_each : length l.first.items ≡ l.height;
  each_next : length l.next.items ≡ l.place;
  ways : AllLead l.links (length l.links) l.place l.first.items l.next.items;
}
