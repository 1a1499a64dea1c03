-- What the program keeps of a step.
use Rattle.std.specs.Prelude.{ℕ, ◌≡◌, ◌≤◌, ◌⊎◌, ◌+◌, ◌++◌, List, [], ◌∷◌, Some, slice_get}
use Rattle.std.specs.List.{AllByRecursion}
use Rattle.psg_terms.specs.Terms.{Term}
use Rattle.psg_terms.specs.Canonical.{IsCanonical}
use Rattle.psg_terms.specs.Signature.{HaveSorts}
use Rattle.psg_grammar.specs.declared.types.Kind.{Kind}
use Rattle.psg_grammar.specs.declared.types.Operator.{Operator}
use Rattle.psg_grammar.specs.declared.types.Definition.{Definition}
use Rattle.psg_grammar.specs.Fragments.{Fragment, hole, ending, cell, top_operator}
use Rattle.psg_grammar.specs.Keys.{Key, in_order}
use Rattle.psg_grammar.specs.Lookups.{operator_at}
use Rattle.psg_grammar.specs.Regions.{names_inside, names_of}
use Rattle.psg_grammar.specs.Steps.{children_count}
use Rattle.psg_grammar.specs.WellFormed.{WellFormed}
use Rattle.psg_scope.specs.Headers.{IsOrdered, keys}
use Rattle.psg_eval.specs.OwnRows.{positions}
use Rattle.psg_eval.specs.Partials.{AreKindSorts}
use Rattle.psg_eval.specs.Summaries.{IsHeaderOf}
use Rattle.psg_eval.specs.Trees.{own_names}
use Rattle.psg_explain.specs.declared.stages.Site.{Site}
use Rattle.psg_explain.specs.declared.stages.Site.TheVariants as sites
use Rattle.psg_explain.specs.declared.stages.Source.{Source}
use Rattle.psg_explain.specs.declared.stages.Source.TheVariants as sources
use Rattle.psg_explain.specs.declared.stages.Stage.{Stage}
use Rattle.psg_explain.specs.Given.{keys_at}
use Rattle.psg_explain.specs.Refutations.{AreSortsOfKeys}
use Rattle.psg_explain.specs.Plans.{Done, Origin, from_itself, from_pair, from_before, Step}

-- a placeholder or an operator's node
abbrev pub IsNodeSite : Fragment → Type 0
IsNodeSite f = ((p : ℕ) × (f ≡ hole p)) ⊎ ((o : ℕ) × (top_operator f ≡ Some o))

-- the node of the step is this part of the tree
abbrev pub IsSite : Site → Fragment → Type 0
IsSite (sites.Node t) f = (f ≡ t) × IsNodeSite t
IsSite (sites.End l u) f = f ≡ ending l u
IsSite (sites.Cell l) f = (e r : Fragment) × (f ≡ cell l e r)

module _ (def : Definition) where
  -- the node is one of a kind, with its children
  abbrev pub IsStepNode : Fragment → Type 0
  IsStepNode f = (kind : Kind) × WellFormed def f kind

  -- of an operator's node the keys are those of its own name positions
  abbrev pub HasOwnKeys : Fragment → List Key → Type 0
  HasOwnKeys f ks = (o : ℕ) (op : Operator) → top_operator f ≡ Some o → operator_at def o ≡ Some op
      → ks ≡ in_order (keys (positions op.items (own_names f)))

  -- the rows are made of these, and the step has these keys
  abbrev pub IsSource : Fragment → Source → List Key → Origin → Type 0
  IsSource f sources.Own ks from_itself = (ks ≡ keys_at def f 0) × HasOwnKeys f ks
  IsSource f (sources.Pair before child left right) ks (from_pair n b c t) =
      (before ≡ b) × (child ≡ c) × (keys left ≡ keys_at def f n) × (keys right ≡ names_of def t)
      × (ks ≡ keys_at def f (n + 1))
  IsSource f (sources.Closed before inside) ks (from_before b) =
      (before ≡ b) × (keys inside ≡ in_order (names_inside def f)) × (ks ≡ names_of def f)
  IsSource f _ ks o = ⊥

  -- a step of the node itself is before the last child, and the last step of a scope operator after it
  abbrev pub IsNumbered : Fragment → ℕ → Origin → Type 0
  IsNumbered f number from_itself = number ≡ 0
  IsNumbered f number (from_pair n b c t) = (number ≡ n + 1) × (number ≤ children_count f)
  IsNumbered f number (from_before b) = number ≡ children_count f + 1

  -- the program keeps this step
  pub record IsStage (stage : Stage) (s : Step) : Type 0 where
    pub path : stage.path ≡ s.path
    pub cell : stage.cell ≡ s.cell
    pub number : stage.step ≡ s.number
    pub site : IsSite stage.site s.part
    pub source : IsSource s.part stage.source (keys stage.header.names) s.origin
    pub numbered : IsNumbered s.part s.number s.origin
    pub formed : IsStepNode s.part

  -- the program keeps these steps, in order
  abbrev pub AreStages : List Stage → List Step → Type 0
  AreStages [] steps = steps ≡ []
  AreStages (stage ∷ stages) [] = ⊥
  AreStages (stage ∷ stages) (s ∷ steps) = IsStage stage s × AreStages stages steps

  -- the tree's last step is at the place, with the header of the tree
  pub record IsEnd (stages : List Stage) (d : Done) : Type 0 where
    pub stage : Stage
    pub there : slice_get stages d.place ≡ Some stage
    pub header : IsHeaderOf def d.tree stage.header
    pub ordered : IsOrdered stage.header

  abbrev pub AreEnds : List Stage → List Done → Type 0
  AreEnds stages ds = AllByRecursion (IsEnd stages) ds

  -- these steps were added
  abbrev pub AddsStages : List Stage → List Stage → List Step → Type 0
  AddsStages old new steps = (more : List Stage) × (new ≡ old ++ more) × AreStages more steps

  -- the sorts of the columns of these kinds and of these keys
  abbrev pub AreSortsAt : List Kind → List Key → List ℕ → Type 0
  AreSortsAt kinds ks sorts =
      (values entities : List ℕ) × AreKindSorts def kinds values × AreSortsOfKeys def ks entities
      × (sorts ≡ values ++ entities)

  -- the row is canonical and has these sorts
  abbrev pub IsClaimable : List ℕ → List Term → Type 0
  IsClaimable sorts row = IsCanonical def.signature row × HaveSorts def.signature row sorts
