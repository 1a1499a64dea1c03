-- What the program keeps of a program and its text.
use Rattle.std.specs.Prelude.{◌≡◌}
use Rattle.psg_ranges.specs.Forests.{Forest, ranges_in}
use Rattle.psg_recover.specs.declared.spots.Spots.{Spots}
use Rattle.psg_known.specs.Knowns.{IsKnown}
use Rattle.psg_recover.specs.TextPlaces.{Read}

-- what there is of the text, where these are the nodes
abbrev pub read_by : Spots → Forest → Read
read_by s nodes = record { tokens = s.tokens.now; whole = s.whole.now; nodes = nodes }

-- the ranges are those of these nodes
abbrev pub AreNodesOf : Spots → Forest → Type 0
AreNodesOf s nodes = ranges_in nodes ≡ s.ranges.now.nodes

-- what is kept is that of the text that was read
pub record IsSpotsOf (s : Spots) (r : Read) : Type 0 where
  pub known : IsKnown s.known
  pub tokens : s.tokens.now ≡ r.tokens
  pub whole : s.whole.now ≡ r.whole
  pub nodes : ranges_in r.nodes ≡ s.ranges.now.nodes
