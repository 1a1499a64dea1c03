use Rattle.std.proofs.Common.{◌≡◌, drop}
use Rattle.psg_ranges.specs.Forests.{Forest, ranges_in}
use Rattle.psg_links.specs.Spots.{link_at}
use Rattle.psg_links.proofs.linked.first_covering.Given as goal

abbrev pub invariant-loop-place : goal.invariant-loop-place
invariant-loop-place l = (f : Forest) → ranges_in f ≡ l.sheet.ranges.now.nodes
    → link_at l.sheet.tokens.now f l.byte l.links ≡ link_at l.sheet.tokens.now f l.byte (drop l.place l.links)
