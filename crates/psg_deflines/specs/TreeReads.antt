-- Specimens from the parts of a line.
use Rattle.std.specs.Prelude.{◌≡◌, ◌≤◌, Option, MatchOption, ◌++◌, length, drop}
use Rattle.psg_deflines.specs.WrittenTrees.{WrittenTree, tree_parts, HasTreeForm, IsShallowTree}
use Rattle.psg_deflines.specs.TermWalks.{Parts, IsNotOpened}
use Rattle.psg_deflines.specs.declared.tree_reading.TreeRead.{TreeRead}

-- The parts are the specimen and then the rest. A bracket after a specimen belongs to it.
pub record IsTreeRead (parts : Parts) (w : WrittenTree) (rest : Parts) : Type 0 where
  pub form : HasTreeForm w
  pub written : parts ≡ tree_parts w ++ rest
  pub only : (other : WrittenTree) (behind : Parts) → HasTreeForm other → parts ≡ tree_parts other ++ behind
      → IsNotOpened behind → (other ≡ w) × (behind ≡ rest)

-- the parts begin with no specimen
abbrev pub HasNoTree : Parts → Type 0
HasNoTree parts = (w : WrittenTree) (rest : Parts) → HasTreeForm w → parts ≡ tree_parts w ++ rest → IsNotOpened rest → ⊥

-- the specimen as it is kept: not where it is nested too deep
abbrev pub IsTreeKept : Option WrittenTree → WrittenTree → Type 0
IsTreeKept kept w = MatchOption kept (IsShallowTree w → ⊥) (λ x. (x ≡ w) × IsShallowTree w)

-- the specimen with which the parts begin, as it is kept
pub record IsTreeFound (parts : Parts) (found : TreeRead) : Type 0 where
  pub tree : WrittenTree
  pub fits : found.taken ≤ length parts
  pub read : IsTreeRead parts tree (drop found.taken parts)
  pub kept : IsTreeKept found.tree tree
