-- Changes that add nothing, and the limits that their trees cannot pass.
use Rattle.std.specs.Prelude.{◌≤◌}
use Rattle.psg_grammar.specs.declared.types.Definition.{Definition}
use Rattle.psg_grammar.specs.Fragments.{Fragment}
use Rattle.psg_grammar.specs.Sizes.{depth_of, longest_of, nodes_of, IsBig, IsDeep}
use Rattle.psg_grammar.specs.Steps.{IsHeavy, IsWide}
use Rattle.psg_session.specs.declared.judging.Trial.{Trial}
use Rattle.psg_session.specs.declared.judging.Trial.TheVariants.{Opens, Grows, Types, Closes, Loosens}

-- the new tree is no deeper than the old one, has no more nodes, and its longest list is no longer
pub record IsNoLarger (old new : Fragment) : Type 0 where
  pub depth : depth_of new ≤ depth_of old
  pub nodes : nodes_of new ≤ nodes_of old
  pub longest : longest_of new ≤ longest_of old

-- The new tree is one that such a change may make of the old one: if the change adds nothing, it is no larger. A new
-- fragment is no change of an old one.
abbrev pub IsSizedBy : Trial → Fragment → Fragment → Type 0
IsSizedBy Opens old new = ⊥
IsSizedBy Grows old new = Unit {0}
IsSizedBy Types old new = Unit {0}
IsSizedBy Closes old new = IsNoLarger old new
IsSizedBy Loosens old new = IsNoLarger old new

-- The tree passes none of the limits that are not tested when such a change makes it.
abbrev pub IsSmallFor : Definition → Trial → Fragment → Type 0
IsSmallFor def Opens f = (IsDeep f → ⊥) × (IsBig f → ⊥) × (IsHeavy def f → IsWide def f)
IsSmallFor def Grows f = Unit {0}
IsSmallFor def Types f = Unit {0}
IsSmallFor def Closes f = (IsDeep f → ⊥) × (IsBig f → ⊥)
IsSmallFor def Loosens f = (IsDeep f → ⊥) × (IsBig f → ⊥)
