-- What is added to the steps of a tree: those of its children, one after the other, and then its own.
use Rattle.std.specs.Prelude.{ℕ, ◌≡◌, ◌+◌, ◌-◌, ◌||◌, Bool, false, List, [], ◌∷◌, ◌++◌, drop, length, Option, Some}
use Rattle.std.specs.Prelude.{slice_get}
use Rattle.psg_grammar.specs.declared.types.Kind.{Kind}
use Rattle.psg_grammar.specs.declared.types.Definition.{Definition}
use Rattle.psg_grammar.specs.Fragments.{Fragment}
use Rattle.psg_grammar.specs.Keys.{Key, outward}
use Rattle.psg_grammar.specs.Kinds.{IsOfKind}
use Rattle.psg_grammar.specs.Paths.{Path}
use Rattle.psg_scope.specs.declared.header.Header.{Header}
use Rattle.psg_scope.specs.Headers.{IsHeader, IsOrdered}
use Rattle.psg_explain.specs.declared.stages.Site.{Site}
use Rattle.psg_explain.specs.declared.stages.Site.TheVariants as sites
use Rattle.psg_explain.specs.declared.stages.Source.TheVariants as sources
use Rattle.psg_explain.specs.declared.stages.Stage.{Stage}
use Rattle.psg_explain.specs.declared.adding.Content.{Content}
use Rattle.psg_explain.specs.Plans.{Below, Done, planned, with_first}
use Rattle.psg_explain.specs.Refutations.{kinds_below}
use Rattle.psg_explain.specs.Sources.{AreEnds, AreStages}

-- the trees, each with the place of its last step
abbrev pub ends_of : List Fragment → List ℕ → List Done
ends_of [] places = []
ends_of (t ∷ ts) [] = []
ends_of (t ∷ ts) (p ∷ places) = record { tree = t; place = p } ∷ ends_of ts places

-- there is a step at the place, and its header is in order
abbrev pub HasStage : List Stage → ℕ → Type 0
HasStage stages n = (stage : Stage) × (slice_get stages n ≡ Some stage) × IsOrdered stage.header

-- the header of two regions made one
abbrev pub JoinsHeaders : Header → Header → Header → Type 0
JoinsHeaders left right joint =
    (names others declared others_declared : List Key) (unfinished others_unfinished : ℕ → Bool)
    → IsHeader names declared unfinished left → IsHeader others others_declared others_unfinished right
    → IsHeader (names ++ others) (declared ++ others_declared) (λ s. unfinished s || others_unfinished s) joint

-- the header of what passes outward
abbrev pub ClosesHeader : Header → Header → Type 0
ClosesHeader inside outside = (names declared : List Key) (unfinished : ℕ → Bool)
    → IsHeader names declared unfinished inside
    → IsHeader (outward unfinished declared names) [] (λ _. false) outside

-- the regions of the two steps are made one
pub record IsPairContent (stages : List Stage) (before child : ℕ) (c : Content) : Type 0 where
  pub left : Stage
  pub right : Stage
  pub last : slice_get stages before ≡ Some left
  pub there : slice_get stages child ≡ Some right
  pub region : JoinsHeaders left.header right.header c.header
  pub ordered : IsOrdered c.header
  pub source : c.source ≡ sources.Pair before child left.header.names right.header.names

-- the region of the step is closed
pub record IsClosedContent (stages : List Stage) (before : ℕ) (c : Content) : Type 0 where
  pub inside : Stage
  pub last : slice_get stages before ≡ Some inside
  pub region : ClosesHeader inside.header c.header
  pub ordered : IsOrdered c.header
  pub source : c.source ≡ sources.Closed before inside.header.names

abbrev pub stage_of : Path → Option ℕ → ℕ → Site → Content → Stage
stage_of path cell step site c = record {
  path = path;
  cell = cell;
  step = step;
  site = site;
  header = c.header;
  source = c.source;
}

-- the header of a region without keys, which may still declare in these spaces
abbrev pub no_keys_in : List ℕ → Header
no_keys_in spaces = record { names = []; unfinished = spaces; twice = false }

-- one step was added, whose rows are those of the last step and of the child
abbrev pub AddsPair : Path → Option ℕ → Site → ℕ → List Stage → List Stage → ℕ → Type 0
AddsPair path cell site step old new child =
    (c : Content) × IsPairContent old (length old - 1) child c × (new ≡ old ++ stage_of path cell step site c ∷ [])

-- a step was added for each of the children, after the step n
abbrev pub AddsPairs : Path → Option ℕ → Site → ℕ → List Stage → List Stage → List ℕ → Type 0
AddsPairs path cell site n old new [] = new ≡ old
AddsPairs path cell site n old new (child ∷ children) =
    (between : List Stage) × AddsPair path cell site (n + 1) old between child
    × AddsPairs path cell site (n + 1) between new children

-- one step was added, which closes the region of the last one
abbrev pub AddsClosed : Path → Option ℕ → Site → ℕ → List Stage → List Stage → Type 0
AddsClosed path cell site step old new =
    (c : Content) × IsClosedContent old (length old - 1) c × (new ≡ old ++ stage_of path cell step site c ∷ [])

-- the steps of a cell were added: its own, that of its element and that of the rest, whose last step was the last one
pub record AddsCell (path : Path) (cell : Option ℕ) (list : ℕ) (old new : List Stage) (element : ℕ) : Type 0 where
  pub one : List Stage
  pub two : List Stage
  pub own : one ≡ old ++ record {
    path = path;
    cell = cell;
    step = 0;
    site = sites.Cell list;
    header = no_keys_in [];
    source = sources.Own;
  } ∷ []
  pub first : AddsPair path cell (sites.Cell list) 1 one two element
  pub second : AddsPair path cell (sites.Cell list) 2 two new (length old - 1)

module _ (def : Definition) where
  -- the steps of trees that are the children of a node, the first of which has the number n
  abbrev pub planned_all : ℕ → Path → ℕ → List Fragment → Below
  planned_all base path n [] = record { steps = []; children = [] }
  planned_all base path n (t ∷ ts) =
      with_first def base t (planned def base (path ++ n ∷ []) t) (λ k. planned_all k path (n + 1) ts)

  -- the steps of the trees were added, and their last steps are at the places
  pub record AddsBelow (path : Path) (trees : List Fragment) (old new : List Stage) (places : List ℕ) : Type 0 where
    pub more : List Stage
    pub added : new ≡ old ++ more
    pub stages : AreStages def more (planned_all (length old) path 0 trees).steps
    pub children : (planned_all (length old) path 0 trees).children ≡ ends_of trees places
    pub count : length places ≡ length trees
    pub ends : AreEnds def new (ends_of trees places)

  -- the kind of the node, and the kinds of its children that are added after the step
  abbrev pub HasKindsAt : Fragment → ℕ → List Kind → Type 0
  HasKindsAt f step kinds = (kind : Kind) × IsOfKind def f kind × (kinds ≡ kind ∷ drop step (kinds_below def f))
