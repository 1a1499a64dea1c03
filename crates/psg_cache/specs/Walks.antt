-- What a walk over a tree finds: the first step that passes the limit, the weight, and where the tree goes wrong.
use Rattle.std.specs.Prelude.{ℕ, ◌≡◌, ◌⊎◌, ◌+◌, Bool, true, List, [], ◌∷◌, ◌++◌, map, slice_get, Some, Result, Ok, Err}
use Rattle.std.specs.List.{AllByRecursion}
use Rattle.psg_grammar.specs.declared.types.Kind.TheVariants as kinds
use Rattle.psg_grammar.specs.declared.types.ListKind.{ListKind}
use Rattle.psg_grammar.specs.declared.types.Definition.{Definition}
use Rattle.psg_grammar.specs.Fragments.{Fragment, hole, ending, cell, operator, with_child, with_name}
use Rattle.psg_grammar.specs.Fragments.{with_number, with_text, anything, observed}
use Rattle.psg_grammar.specs.Marks.{Located, nodes_from}
use Rattle.psg_grammar.specs.Paths.{Path}
use Rattle.psg_grammar.specs.Sizes.{IsBig, IsDeep}
use Rattle.psg_grammar.specs.Sound.{IsSound}
use Rattle.psg_grammar.specs.Steps.{IsFirstOf, Place, own_steps, list_steps, steps_of, HasWeights}
use Rattle.psg_tree.specs.Shapes.{list_of}
use Rattle.psg_terms.specs.Names.{Name}
use Rattle.psg_tree.specs.declared.tree.Part.{Part}
use Rattle.psg_tree.specs.declared.tree.Part.TheVariants.{Sub, Name as Named, Number, Text}
use Rattle.psg_eval.specs.declared.summary.SummaryParts.{SummaryParts}
use Rattle.psg_eval.specs.declared.summary.EvalFault.{EvalFault}
use Rattle.psg_eval.specs.declared.summary.EvalFault.TheVariants as evals
use Rattle.psg_eval.specs.Starts.{AreTables}
use Rattle.psg_eval.specs.Summaries.{AllSummaries, Answers, IsSummary}
use Rattle.psg_cache.specs.declared.parts.Language.{Language}
use Rattle.psg_cache.specs.Annotated.{Annotated, topped, tree_in, weight_in, with_below}
use Rattle.psg_cache.specs.Noted.{IsAnswered, IsNoted, IsOfCells, own_weight, summed}
use Rattle.psg_cache.specs.declared.note.NoteFault.{NoteFault}
use Rattle.psg_cache.specs.declared.note.NoteFault.TheVariants as faults

-- a sound definition with its tables
pub record IsKnown (language : Language) : Type 0 where
  pub sound : IsSound language.definition.now
  pub tables : AreTables language.definition.now language.tables.now

-- the names among the parts, in order
abbrev pub names_in : List Part → List Name
names_in [] = []
names_in (Sub t ∷ rest) = names_in rest
names_in (Named n ∷ rest) = n ∷ names_in rest
names_in (Number n ∷ rest) = names_in rest
names_in (Text t ∷ rest) = names_in rest

-- none of the limits of sizes is passed
abbrev pub IsSmall : Fragment → Type 0
IsSmall f = (IsDeep f → ⊥) × (IsBig f → ⊥)

abbrev pub IsSizeFault : Fragment → NoteFault → Type 0
IsSizeFault f fault = ((fault ≡ faults.Deep) × IsDeep f) ⊎ ((fault ≡ faults.Big) × (IsDeep f → ⊥) × IsBig f)

-- the note is made of the tree, its summaries and the notes of its children
abbrev pub IsMadeOf : Fragment → SummaryParts → List SummaryParts → List Annotated → Annotated → Type 0
IsMadeOf f s rests below n =
    n ≡ with_below (topped f s rests (summed weight_in below + summed own_weight (s ∷ rests))) below

-- the fault of the step that the answer names, for the part at the path, or that memory ran out
abbrev pub IsAnswerFault : Path → Result SummaryParts EvalFault → NoteFault → Type 0
IsAnswerFault path answer fault =
    (fault ≡ faults.Memory) ⊎ ((step : ℕ) × (answer ≡ Err (evals.Wide step)) × (fault ≡ faults.Wide path step))

-- the evaluations at the top of a tree: one of a node, and of a list one of its end and one of each cell
abbrev pub top_evaluations : Fragment → ℕ
top_evaluations (hole p) = 1
top_evaluations (ending l u) = 1
top_evaluations (cell l e r) = top_evaluations r + 1
top_evaluations (operator o) = 1
top_evaluations (with_child f t) = top_evaluations f
top_evaluations (with_name f n) = top_evaluations f
top_evaluations (with_number f n) = top_evaluations f
top_evaluations (with_text f t) = top_evaluations f
top_evaluations anything = 1
top_evaluations (observed f) = top_evaluations f

-- a list of the number
abbrev pub IsNumbered : ℕ → Fragment → Type 0
IsNumbered l f = (es : List Fragment) × (u : Bool) × (f ≡ list_of l es u)

-- each of the relations has a row
abbrev pub HaveRows : List SummaryParts → Type 0
HaveRows summaries = AllByRecursion (λ (s : SummaryParts). s.rel ≡ [] → ⊥) summaries

-- a tree goes wrong by itself: its relation has no row, and those of its children have
abbrev pub GoesWrong : SummaryParts → List SummaryParts → Type 0
GoesWrong s below = (s.rel ≡ []) × HaveRows below

-- the path where the tree goes wrong by itself, and no path otherwise
abbrev pub IsBlame : SummaryParts → List SummaryParts → Path → List Path → Type 0
IsBlame s below path pushed = (GoesWrong s below × (pushed ≡ path ∷ [])) ⊎ ((GoesWrong s below → ⊥) × (pushed ≡ []))

-- the nodes of trees that follow one another, the first of which has the number n
abbrev pub each_nodes : Path → ℕ → List Fragment → List Located
each_nodes path n [] = []
each_nodes path n (c ∷ cs) = nodes_from (path ++ n ∷ []) c ++ each_nodes path (n + 1) cs

module _ (def : Definition) where
  -- their steps
  abbrev pub each_steps : Path → ℕ → List Fragment → List Place
  each_steps path n [] = []
  each_steps path n (c ∷ cs) = steps_of def (path ++ n ∷ []) c ++ each_steps path (n + 1) cs

  -- the steps of the tree after those of its children; of a list those of its end and cells
  abbrev pub top_steps : Path → Fragment → List Place
  top_steps path (hole p) = own_steps def path (hole p)
  top_steps path (ending l u) = list_steps def path (ending l u)
  top_steps path (cell l e r) = list_steps def path (cell l e r)
  top_steps path (operator o) = own_steps def path (operator o)
  top_steps path (with_child f t) = own_steps def path (with_child f t)
  top_steps path (with_name f n) = own_steps def path (with_name f n)
  top_steps path (with_number f n) = own_steps def path (with_number f n)
  top_steps path (with_text f t) = own_steps def path (with_text f t)
  top_steps path anything = []
  top_steps path (observed f) = []

  abbrev pub IsStepFault : List Place → NoteFault → Type 0
  IsStepFault places (faults.Wide path step) =
      (part : Fragment) × IsFirstOf def places (record { path = path; part = part; step = step })
  IsStepFault places faults.Memory = Unit {0}
  IsStepFault places faults.Deep = ⊥
  IsStepFault places faults.Big = ⊥
  IsStepFault places faults.Heavy = ⊥

  -- the weights of the trees add up to n
  abbrev pub WeighTogether : List Fragment → ℕ → Type 0
  WeighTogether [] n = n ≡ 0
  WeighTogether (c ∷ cs) n = (m : ℕ) × (k : ℕ) × HasWeights def c m × WeighTogether cs k × (n ≡ m + k)

  -- a list takes these elements, which are those of some trees
  pub record TakesElements (l : ℕ) (unfinished : Bool) (elements : List SummaryParts) : Type 0 where
    pub list : ListKind
    pub found : slice_get def.lists l ≡ Some list
    pub may_end : unfinished ≡ true → list.unfinished ≡ true
    pub trees : List Fragment
    pub summaries_of : AllSummaries def trees elements
    pub element_kinds : AllByRecursion (λ (s : SummaryParts). s.kind ≡ kinds.Phylum list.element) elements
    pub usual : AllByRecursion (IsSummary def) elements

  abbrev pub IsListFault : Path → ℕ → Bool → List SummaryParts → NoteFault → Type 0
  IsListFault path l u elements fault =
      (es : List Fragment) → AllSummaries def es elements → IsStepFault (list_steps def path (list_of l es u)) fault

  -- these are the notes of the trees
  abbrev pub AreNotesOf : List Fragment → List Annotated → Type 0
  AreNotesOf cs notes = (map tree_in notes ≡ cs) × AllByRecursion (IsNoted def) notes

  -- the answers for a list and for its suffixes, by those of its elements
  abbrev pub AreListed : ℕ → Bool → List SummaryParts → SummaryParts → List SummaryParts → Type 0
  AreListed l u [] s [] = Answers def (ending l u) (Ok s)
  AreListed l u (b ∷ bs) s (t ∷ ts) = IsOfCells def l b t s × AreListed l u bs t ts
  AreListed _ _ _ _ _ = ⊥

  abbrev pub IsListTopped : ℕ → Bool → List SummaryParts → SummaryParts → List SummaryParts → Type 0
  IsListTopped l u elements s rests =
      AreListed l u elements s rests × AllByRecursion (IsSummary def) (s ∷ rests)

  -- the answers for a tree whose children have these summaries, and of a list those for its suffixes
  abbrev pub IsTop : Fragment → List SummaryParts → SummaryParts → List SummaryParts → Type 0
  IsTop f below s rests = IsAnswered def f below s rests × AllByRecursion (IsSummary def) (s ∷ rests)
