use Rattle.std.proofs.Common.{drop}
use Rattle.std.specs.Prelude.{map, string_bytes}
use Rattle.psg_cache.specs.Annotated.{tree_in}
use Rattle.psg_completing.proofs.Offers.{AreSoFar}
use Rattle.psg_completing.proofs.offering.offers_among.Given as goal

abbrev pub invariant-loop-op : goal.invariant-loop-op
invariant-loop-op g l =
    AreSoFar l.open.known.program.language.now l.open.known.program.kind (tree_in l.open.known.program.note.now)
    l.open.spot.now l.open.least l.open.sample.now l.open.prefix.now (map string_bytes l.ops) (map string_bytes (drop l.op-index l.ops))
    l.offers
