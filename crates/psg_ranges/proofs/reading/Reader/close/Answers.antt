use Rattle.std.proofs.Common.{refl, ap, ◌∷◌, length, length-append, arith}
use Rattle.psg_ranges.proofs.Nodes.{range_closed}
use Rattle.psg_ranges.proofs.reading.Reader.close.Goals as goal

pub returns-then-place-count : goal.returns-then-place-count
returns-then-place-count c = record {
  at = refl;
  ranges = λ front below kept row place.
      range_closed c.args.self.now.ranges.items front below kept c.args.place c.args.start c.args.self.now.at c.len-count.result _ c.args.names.items _ c.len-count.ensures c.args.self.now.ranges.ok.0 c.of-names.ensures row place;
}

pub returns-else-place-count : goal.returns-else-place-count
returns-else-place-count c = record {
  at = refl;
  ranges = λ front below kept row place.
      absurd (omega (arith, c.if-place-count.false, c.len-count.ensures, c.args.self.now.ranges.ok.0, ap length row, length-append front (kept ∷ below), place));
}
