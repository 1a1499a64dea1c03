-- The place of a node among the spans of its tree.
use Rattle.std.specs.Prelude.{ℕ, ◌<◌, ◌≤◌, ◌-◌, List}
use Rattle.psg_grammar.specs.Paths.{Path}
use Rattle.psg_unparse.specs.Splicing.{IsPlaceOf}
use Rattle.psg_unparse.specs.declared.spans.Span.{Span}

-- what has the path is at one of the places from `low` to `high`
abbrev pub IsBetween : List Span → Path → ℕ → ℕ → Type 0
IsBetween spans path low high = (place : ℕ) → IsPlaceOf spans path place → (low ≤ place) × (place ≤ high)

-- it is among fewer places than before
pub record Halves (spans : List Span) (path : Path) (low high least most : ℕ) : Type 0 where
  pub kept : IsBetween spans path low high → IsBetween spans path least most
  pub fewer : most - least < high - low
  pub within : most ≤ high
