use Rattle.std.proofs.Common.{◌≡◌, ◌++◌, drop}
use Rattle.psg_ranges.specs.Forests.{Forest, ranges_in}
use Rattle.psg_links.specs.Spots.{spots_of}
use Rattle.psg_links.proofs.linked.spots_of.Given as goal

abbrev pub invariant-loop-place : goal.invariant-loop-place
invariant-loop-place l = (f : Forest) → ranges_in f ≡ l.sheet.ranges.now.nodes
    → l.found.items ++ spots_of l.sheet.tokens.now f l.own (drop l.place l.links)
    ≡ spots_of l.sheet.tokens.now f l.own l.links
