-- The walk over nodes side by side.
use Rattle.std.specs.Prelude.{ℕ, ◌≡◌, ◌<◌, true, false, List, [], ◌∷◌, Option, Some, None}
use Rattle.psg_lexis.specs.declared.token.Spanned.{Spanned}
use Rattle.psg_ranges.specs.declared.ranges.Range.{Range}
use Rattle.psg_ranges.specs.Forests.{Forest, from_nth, ranges_in}
use Rattle.psg_pointing.specs.declared.pointing.Child.{Child}
use Rattle.psg_pointing.specs.Pointing.{is_on}

-- how many nodes the first one's tree has, and the ranges after the first one
abbrev pub first_nodes : List Range → ℕ
first_nodes [] = 0
first_nodes (r ∷ rs) = r.nodes

abbrev pub behind_first : List Range → List Range
behind_first [] = []
behind_first (r ∷ rs) = rs

-- among that many of the first nodes this is the last one that covers the byte
pub data IsSoFar (tokens : List Spanned) (byte : ℕ) (f : Forest) (count : ℕ) : Option Child → Type 0 where
  none_yet : ((n : ℕ) → n < count → is_on tokens byte (from_nth f n) ≡ false) → IsSoFar tokens byte f count None
  last_yet : (child : Child) → is_on tokens byte (from_nth f child.number) ≡ true
      → ((n : ℕ) → child.number < n → n < count → is_on tokens byte (from_nth f n) ≡ false)
      → ranges_in (from_nth f child.number) ≡ child.ranges.now → IsSoFar tokens byte f count (Some child)
