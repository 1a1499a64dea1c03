use Rattle.std.proofs.Common.{length}
use Rattle.psg_relation.specs.Heads.{places_at, IsIndexed}
use Rattle.psg_relation.specs.Ordered.{KeepsOrder}
use Rattle.psg_relation.specs.Sifted.{IsSifted}
use Rattle.psg_relation.proofs.maximal.maximal.Given as goal

abbrev pub invariant-loop-row : goal.invariant-loop-row
invariant-loop-row l = record {
  sifted : IsSifted l.yielded l.kept.rows.items;
  order : KeepsOrder l.yielded l.kept.rows.items;
  indexed : IsIndexed l.kept.rows.items l.column (length l.kept.rows.items) l.kept.heads.free.items (places_at l.kept.heads.places);
}
