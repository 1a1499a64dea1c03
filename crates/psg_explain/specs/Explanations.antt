-- What is said of a tree: that it has a completion, how much there is to say of why not, or why not.
use Rattle.std.specs.Prelude.{ℕ, ◌≡◌, ◌<◌, ◌≤◌, ◌+◌, ◌⊎◌, true, false, List, [], ◌∷◌, Some}
use Rattle.std.specs.declared.cmp.Ordering.TheVariants.{Less}
use Rattle.psg_terms.specs.Names.{has_twice}
use Rattle.psg_terms.specs.Terms.{Term}
use Rattle.psg_grammar.specs.declared.types.Definition.{Definition}
use Rattle.psg_grammar.specs.Fragments.{Fragment}
use Rattle.psg_grammar.specs.Keys.{Key, key_cmp}
use Rattle.psg_grammar.specs.Legal.{IsCompletable}
use Rattle.psg_grammar.specs.Marks.{IsMarkBy, wrong}
use Rattle.psg_grammar.specs.Paths.{Path, node_at}
use Rattle.psg_grammar.specs.Regions.{declared_inside}
use Rattle.psg_grammar.specs.Steps.{IsStepRelation}
use Rattle.psg_explain.specs.declared.refutation.Claim.{Claim}
use Rattle.psg_explain.specs.declared.refutation.Refutation.{Refutation}
use Rattle.psg_explain.specs.declared.refutation.Refutation.TheVariants as refutations
use Rattle.psg_explain.specs.declared.explaining.Explained.{Explained}
use Rattle.psg_explain.specs.declared.explaining.Explained.TheVariants as explained
use Rattle.psg_explain.specs.Refutations.{Refutes, is_twice_among, rows_claimed}
use Rattle.psg_explain.specs.Walks.{At, ended, Walks}

-- the rows of a step's own relation, and how many pairs of rows it is made of
pub record Made : Type 0 where
  pub rows : List (List Term)
  pub pairs : ℕ

abbrev pub rows_made : Made → List (List Term)
rows_made m = m.rows

-- the pairs of all steps
abbrev pub all_pairs_in : List Made → ℕ
all_pairs_in [] = 0
all_pairs_in (m ∷ steps) = m.pairs + all_pairs_in steps

-- the most pairs of rows that are looked at
abbrev pub most_pairs : ℕ
most_pairs = 65536

-- the first key, in the order of keys, that is at two places of the list
pub record IsFirstTwice (ks : List Key) (k : Key) : Type 0 where
  pub twice : is_twice_among ks k ≡ true
  pub first : (other : Key) → is_twice_among ks other ≡ true → (other ≡ k) ⊎ (key_cmp k other ≡ Less)

module _ (def : Definition) where
  -- the rows are those of the step's relation
  abbrev pub IsMadeAt : At → Made → Type 0
  IsMadeAt at m = IsStepRelation def at.part at.step m.rows × (m.pairs ≡ at.pairs)

  -- the steps of the tree up to the first without rows take this many pairs of rows
  pub record HasPairs (path : Path) (f : Fragment) (pairs : ℕ) : Type 0 where
    pub steps : List Made
    pub last : At
    pub walk : Walks def rows_made IsMadeAt path f steps (ended last)
    pub sum : pairs ≡ all_pairs_in steps

  -- the claimed rows are those of the step's relation
  abbrev pub IsTrueAt : At → Claim → Type 0
  IsTrueAt at claim = IsStepRelation def at.part at.step claim.rows

  -- the tree has no completion, and its first culprit is this node
  pub record IsFirstCulprit (f : Fragment) (path : Path) (node : Fragment) : Type 0 where
    pub others : List Path
    pub mark : IsMarkBy (IsCompletable def) f (wrong (path ∷ others))
    pub there : node_at f path ≡ Some node

  -- a key that is declared twice goes before all else; otherwise the claimed rows are those of the steps
  abbrev pub IsAbout : Path → Fragment → Refutation → Type 0
  IsAbout path node (refutations.Twice at space name) =
      (at ≡ path) × IsFirstTwice (declared_inside def node) (space ∷ name)
  IsAbout path node (refutations.Empty at claims) =
      (at ≡ path) × (has_twice (declared_inside def node) ≡ false)
      × ((last : At) × Walks def rows_claimed IsTrueAt path node claims (ended last))

  abbrev pub IsExplained : Fragment → Explained → Type 0
  IsExplained f explained.Fine = IsCompletable def f
  IsExplained f explained.Long =
      (path : Path) × (node : Fragment) × IsFirstCulprit f path node
      × (pairs : ℕ) × HasPairs path node pairs × (most_pairs < pairs)
  IsExplained f (explained.Wrong refutation) =
      (path : Path) × (node : Fragment) × IsFirstCulprit f path node
      × (pairs : ℕ) × HasPairs path node pairs × (pairs ≤ most_pairs)
      × Refutes def f refutation × IsAbout path node refutation
