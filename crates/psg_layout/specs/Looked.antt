-- A layout that is looked up.
use Rattle.std.specs.Prelude.{ℕ, ◌≡◌, ◌==◌, ◌&&◌, Bool, Some}
use Rattle.std.specs.HashSet as sets
use Rattle.psg_layout.specs.declared.layout.Layout.{Layout}
use Rattle.psg_layout.specs.declared.rules.Rules.{Rules}
use Rattle.psg_layout.specs.Arranged.{is_break, is_group}

abbrev pub has_group : Rules → ℕ → Bool
has_group r o = sets.contains (λ a b. a == b) r.groups o

abbrev pub has_break : Rules → ℕ → ℕ → Bool
has_break r o k = sets.contains (λ a b. (a.0 == b.0) && (a.1 == b.1)) r.breaks (o, k)

-- what is looked up is what the layout says
pub record AreRulesOf (layout : Layout) (r : Rules) : Type 0 where
  pub groups : (o : ℕ) → has_group r o ≡ is_group layout (Some o)
  pub breaks : (o k : ℕ) → has_break r o k ≡ is_break layout (Some o) k
