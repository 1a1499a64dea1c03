-- When the annotations of a tree are the evaluator's answers.
use Rattle.std.specs.Prelude.{ℕ, ◌≡◌, ◌+◌, List, [], ◌∷◌, map, Some, Ok}
use Rattle.std.specs.List.{AllByRecursion}
use Rattle.psg_terms.specs.Weight.{weight_of}
use Rattle.psg_grammar.specs.declared.types.Definition.{Definition}
use Rattle.psg_grammar.specs.Fragments.{Fragment, hole, ending, cell, top_operator, children_of}
use Rattle.psg_eval.specs.declared.summary.SummaryParts.{SummaryParts}
use Rattle.psg_eval.specs.Trees.{IsNode, own_names}
use Rattle.psg_eval.specs.Summaries.{Answers, AreSummariesOf, IsSummary, IsSummaryOf}
use Rattle.psg_cache.specs.Annotated.{Annotated, topped, above, tree_in, whole_in, weight_in}

-- the sum over a list
abbrev pub summed : {X : Type 0} → (X → ℕ) → List X → ℕ
summed f [] = 0
summed f (x ∷ xs) = f x + summed f xs

-- how many variables and constructors the relation of the summary has
abbrev pub own_weight : SummaryParts → ℕ
own_weight s = weight_of s.rel

module _ (def : Definition) where
  -- the answer for every node of the operator with its names whose children have these summaries, whatever they are
  abbrev pub IsOfNodes : Fragment → List SummaryParts → SummaryParts → Type 0
  IsOfNodes f below s =
      (o : ℕ) (g : Fragment) → top_operator f ≡ Some o → IsNode def o (own_names f) g → AreSummariesOf def g below
      → Answers def g (Ok s)

  -- the answer for every cell whose element and rest have these summaries
  abbrev pub IsOfCells : ℕ → SummaryParts → SummaryParts → SummaryParts → Type 0
  IsOfCells l element rest s =
      (e r : Fragment) → IsSummaryOf def e element → IsSummaryOf def r rest → Answers def (cell l e r) (Ok s)

  -- the answers for a list and for its suffixes, by those of the elements
  abbrev pub AreOfSuffixes : Fragment → List SummaryParts → SummaryParts → List SummaryParts → Type 0
  AreOfSuffixes (ending l u) [] s [] = Answers def (ending l u) (Ok s)
  AreOfSuffixes (cell l e r) (element ∷ elements) s (rest ∷ rests) =
      IsOfCells l element rest s × AreOfSuffixes r elements rest rests
  AreOfSuffixes _ _ _ _ = ⊥

  -- The evaluator's own answers at the top of a tree. They speak of the children's summaries and not of the children,
  -- so they hold for each tree with the same top whose children have the same summaries.
  abbrev pub IsAnswered : Fragment → List SummaryParts → SummaryParts → List SummaryParts → Type 0
  IsAnswered (hole p) below s rests = Answers def (hole p) (Ok s) × (rests ≡ [])
  IsAnswered (ending l u) below s rests = AreOfSuffixes (ending l u) below s rests
  IsAnswered (cell l e r) below s rests = AreOfSuffixes (cell l e r) below s rests
  IsAnswered f below s rests = IsOfNodes f below s × (rests ≡ [])

  -- the top of a note
  pub record IsTopped (tree : Fragment) (whole : SummaryParts) (rests : List SummaryParts) (weight : ℕ)
      (below : List Annotated) : Type 0 where
    pub children : map tree_in below ≡ children_of tree
    pub answered : IsAnswered tree (map whole_in below) whole rests
    pub usual : AllByRecursion (IsSummary def) (whole ∷ rests)
    pub sum : weight ≡ summed weight_in below + summed own_weight (whole ∷ rests)

  -- a note to which these children are still to be added
  abbrev pub IsNotedWith : Annotated → List Annotated → Type 0
  IsNotedWith (topped tree whole rests weight) below = IsTopped tree whole rests weight below
  IsNotedWith (above n c) below = IsNotedWith n (c ∷ below) × IsNotedWith c []

  -- at each node and list suffix the evaluator's answer
  abbrev pub IsNoted : Annotated → Type 0
  IsNoted n = IsNotedWith n []

  -- the note of a tree, which may pass the limits of whole trees
  abbrev pub IsNotedAs : Fragment → Annotated → Type 0
  IsNotedAs f n = (tree_in n ≡ f) × IsNoted n
