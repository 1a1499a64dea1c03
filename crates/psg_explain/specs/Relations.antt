-- The relations of a tree's steps, one after the other.
use Rattle.std.specs.Prelude.{false, ℕ, ◌≡◌, ◌+◌, ◌*◌, ◌⊎◌, length, List, [], ◌∷◌, Option, Some}
use Rattle.std.specs.List.{AllByRecursion}
use Rattle.psg_terms.specs.Names.{has_twice}
use Rattle.psg_terms.specs.Terms.{Term}
use Rattle.psg_grammar.specs.declared.types.Definition.{Definition}
use Rattle.psg_grammar.specs.Fragments.{Fragment, cell, ending}
use Rattle.psg_grammar.specs.Paths.{Path, node_at}
use Rattle.psg_grammar.specs.Regions.{declared_inside}
use Rattle.psg_grammar.specs.Steps.{IsStepRelation, last_step}
use Rattle.psg_eval.specs.declared.steps.StepRows.{StepRows}
use Rattle.psg_eval.specs.declared.summary.SummaryParts.{SummaryParts}
use Rattle.psg_eval.specs.Summaries.{IsSummary, IsSummaryOf, StaysWithin}
use Rattle.psg_cache.specs.AllSummaries.{suffix_of}
use Rattle.psg_explain.specs.declared.stages.Source.{Source}
use Rattle.psg_explain.specs.declared.stages.Source.TheVariants as sources
use Rattle.psg_explain.specs.declared.stages.Stage.{Stage}
use Rattle.psg_explain.specs.Plans.{Flows, Step, halted, planned, rows_at, through}
use Rattle.psg_explain.specs.Sources.{AreStages, IsStage, IsStepNode}
use Rattle.psg_explain.specs.Walks.{At}

-- rows as they are
abbrev pub same_rows : List (List Term) → List (List Term)
same_rows rows = rows

abbrev pub rel_of : StepRows → List (List Term)
rel_of s = s.rel

-- the last of the relations has no rows
abbrev pub EndsEmpty : List (List (List Term)) → Type 0
EndsEmpty [] = ⊥
EndsEmpty (r ∷ rs) = ((r ≡ []) × (rs ≡ [])) ⊎ EndsEmpty rs

-- the pairs of rows that a step looks at, where these are the rows of the steps, and those of all of these steps
abbrev pub pairs_of_source : List (List (List Term)) → Source → ℕ
pairs_of_source rows (sources.Pair before child left right) = length (rows_at rows before) * length (rows_at rows child)
pairs_of_source rows _ = 0

abbrev pub pairs_of_stages : List (List (List Term)) → List Stage → ℕ
pairs_of_stages rows [] = 0
pairs_of_stages rows (s ∷ stages) = pairs_of_source rows s.source + pairs_of_stages rows stages

module _ (def : Definition) where
  -- the rows are those of the step's relation
  abbrev pub IsRelationAt : At → List (List Term) → Type 0
  IsRelationAt at rows = IsStepRelation def at.part at.step rows

  -- the relations of the steps of a tree, up to the first without rows
  abbrev pub AreRelations : Path → Fragment → List (List (List Term)) → Type 0
  AreRelations path f all = (last : At) × Flows def same_rows IsRelationAt [] (planned def 0 path f) all (halted last)

  -- the relations of a node's own steps from this one on, up to the last or to the first without rows
  abbrev pub AreOwnFrom : Fragment → ℕ → List (List (List Term)) → Type 0
  AreOwnFrom f n [] = n ≡ last_step def f + 1
  AreOwnFrom f n (rows ∷ more) =
      IsStepRelation def f n rows × (((rows ≡ []) × (more ≡ [])) ⊎ ((rows ≡ [] → ⊥) × AreOwnFrom f (n + 1) more))

  -- ---- where a step's node is, and what is known there

  module _ (root : Fragment) where
    -- the part of the list that begins with the element of the number
    abbrev pub IsSuffixAt : Path → Option ℕ → Fragment → Type 0
    IsSuffixAt path c f =
        (k : ℕ) × (list : Fragment) × (c ≡ Some k) × (node_at root path ≡ Some list) × (suffix_of list k ≡ Some f)

    -- the part of the tree at the path: a node, or a part of the list there
    abbrev pub IsPlaced : Path → Option ℕ → Fragment → Type 0
    IsPlaced path c (cell l e r) = IsSuffixAt path c (cell l e r)
    IsPlaced path c (ending l u) = IsSuffixAt path c (ending l u)
    IsPlaced path c f = node_at root path ≡ Some f

  -- of a list's end or cell what is known of the list from there on
  abbrev pub IsWholeOf : Fragment → Option SummaryParts → Type 0
  IsWholeOf (cell l e r) o = (s : SummaryParts) × (o ≡ Some s) × IsSummaryOf def (cell l e r) s × IsSummary def s
  IsWholeOf (ending l u) o = (s : SummaryParts) × (o ≡ Some s) × IsSummaryOf def (ending l u) s × IsSummary def s
  IsWholeOf _ o = Unit {0}

  -- before a cell what is known of the list after its element
  abbrev pub IsRestOf : Fragment → Option SummaryParts → Type 0
  IsRestOf (cell l e r) o = (s : SummaryParts) × (o ≡ Some s) × IsSummaryOf def r s × IsSummary def s
  IsRestOf _ o = Unit {0}

  -- the step is the first of a node of the tree whose relations are not too large
  pub record IsNodeStep (root : Fragment) (kept : Stage) (known : Option SummaryParts) (s : Step) : Type 0 where
    pub stage : IsStage def kept s
    pub placed : IsPlaced root s.path s.cell s.part
    pub light : StaysWithin def s.part
    pub rest : IsRestOf s.part known

  -- the node at the path, none of whose steps' relations is too large, and what the program keeps of its steps
  pub record IsRelated (root : Fragment) (path : Path) (node : Fragment) (stages : List Stage) : Type 0 where
    pub there : node_at root path ≡ Some node
    pub formed : IsStepNode def node
    pub stages_are : AreStages def stages (planned def 0 path node)
    pub light : AllByRecursion (λ (s : Step). StaysWithin def s.part) (planned def 0 path node)

  -- the rows are those of the node's steps, up to the first without rows or of all
  abbrev pub HasRows : Path → Fragment → List (List (List Term)) → Type 0
  HasRows path f all = (EndsEmpty all × AreRelations path f all)
      ⊎ ((EndsEmpty all → ⊥) × Flows def same_rows IsRelationAt [] (planned def 0 path f) all (through all []))

  -- the relations of the steps of a node, where no part of the plan declares a key twice
  pub record AreClaimable (path : Path) (node : Fragment) (stages : List Stage)
      (rows : List (List (List Term))) : Type 0 where
    pub formed : IsStepNode def node
    pub stages_are : AreStages def stages (planned def 0 path node)
    pub distinct : AllByRecursion (λ (s : Step). has_twice (declared_inside def s.part) ≡ false)
        (planned def 0 path node)
    pub relations : AreRelations path node rows
