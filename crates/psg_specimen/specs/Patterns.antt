-- The steps of a specimen's tree, and what is known of the tree by its pattern.
use Rattle.std.specs.Prelude.{ℕ, ◌≡◌, ◌⊎◌, List, [], ◌∷◌, ◌++◌, Option, Some, None, Result, Ok, Err, slice_get}
use Rattle.psg_terms.specs.Names.{Name as Word}
use Rattle.psg_terms.specs.Relations.{IsIn}
use Rattle.psg_grammar.specs.declared.types.Kind.{Kind}
use Rattle.psg_grammar.specs.declared.types.Kind.TheVariants as kinds
use Rattle.psg_grammar.specs.declared.types.ListKind.{ListKind}
use Rattle.psg_grammar.specs.declared.types.Specimen.{Specimen}
use Rattle.psg_grammar.specs.declared.types.SpecimenPart.{SpecimenPart, Sub, Name, Number, Text}
use Rattle.psg_grammar.specs.declared.types.Definition.{Definition}
use Rattle.psg_grammar.specs.Fragments.{Fragment, cell}
use Rattle.psg_grammar.specs.Paths.{Path}
use Rattle.psg_grammar.specs.Placed.{FitsPlaces}
use Rattle.psg_grammar.specs.Specimens.{tree_of, part_of}
use Rattle.psg_grammar.specs.Steps.{Place, PassesAt, list_steps, steps_of, steps_below}
use Rattle.psg_eval.specs.declared.summary.SummaryParts.{SummaryParts}
use Rattle.psg_eval.specs.declared.summary.EvalFault.{EvalFault}
use Rattle.psg_eval.specs.declared.summary.EvalFault.TheVariants as faults
use Rattle.psg_eval.specs.Patterns.{IsChildOf, SuitsKind}
use Rattle.psg_eval.specs.Summaries.{IsSummary}

-- an operator with more parts
abbrev pub parts_on : Fragment → List SpecimenPart → Fragment
parts_on f [] = f
parts_on f (p ∷ ps) = parts_on (part_of p f) ps

-- the list of these elements, with this end
abbrev pub cells_on : ℕ → Fragment → List Specimen → Fragment
cells_on l end [] = end
cells_on l end (s ∷ ss) = cell l (tree_of s) (cells_on l end ss)

module _ (def : Definition) where
  -- a tree of the kind, with places for any value
  abbrev pub IsTreeOf : Kind → Fragment → Type 0
  IsTreeOf kind f = (places : List Kind) × (left : List Kind) × FitsPlaces def ⊥ f [] kind places left

  -- a tree of some kind
  abbrev pub IsSomeTree : Fragment → Type 0
  IsSomeTree f = (kind : Kind) × IsTreeOf kind f

  -- a part that is a specimen is a tree of some kind
  abbrev pub IsTreePart : SpecimenPart → Type 0
  IsTreePart (Sub s) = IsSomeTree (tree_of s)
  IsTreePart (Name n) = Unit {0}
  IsTreePart (Number n) = Unit {0}
  IsTreePart (Text t) = Unit {0}

  -- ---- steps; the path of a tree only names them

  -- none of the steps passes the limit
  abbrev pub AreLight : List Place → Type 0
  AreLight steps = (place : Place) → IsIn place steps → PassesAt def place.part place.step → ⊥

  -- one of the steps passes the limit
  abbrev pub HasWide : List Place → Type 0
  HasWide steps = (place : Place) × IsIn place steps × PassesAt def place.part place.step

  abbrev pub IsLight : Fragment → Type 0
  IsLight f = (path : Path) → AreLight (steps_of def path f)

  abbrev pub IsWideTree : Fragment → Type 0
  IsWideTree f = (path : Path) → HasWide (steps_of def path f)

  -- the steps of the children of an operator are within the limit, or one passes it
  abbrev pub IsLightBelow : Fragment → Type 0
  IsLightBelow f = (path : Path) → AreLight (steps_below def path 0 f)

  abbrev pub IsWideBelow : Fragment → Type 0
  IsWideBelow f = (path : Path) → HasWide (steps_below def path 0 f)

  -- the steps of a list are within the limit: those of its elements, and those of its cells
  pub record IsLightList (f : Fragment) : Type 0 where
    pub elements : (path : Path) (n : ℕ) → AreLight (steps_below def path n f)
    pub cells : (path : Path) → AreLight (list_steps def path f)

  abbrev pub IsWideList : Fragment → Type 0
  IsWideList f = ((path : Path) (n : ℕ) → HasWide (steps_below def path n f))
      ⊎ ((path : Path) → HasWide (list_steps def path f))

  -- ---- patterns: what is known of a tree by its steps, or that it is a place alone

  -- what every pattern is, whatever its tree
  abbrev pub IsUsual : Option SummaryParts → Type 0
  IsUsual (Some s) = IsSummary def s
  IsUsual None = Unit {0}

  -- the pattern is that of the tree, and no step of the tree passes the limit
  pub record IsPatternOf (f : Fragment) (c : Option SummaryParts) : Type 0 where
    pub child : IsChildOf def f c
    pub usual : IsUsual c
    pub light : IsLight f

  -- the tree's pattern; or some step of the tree passes the limit; or out of memory
  abbrev pub IsPatternFor : Fragment → Result (Option SummaryParts) EvalFault → Type 0
  IsPatternFor f (Ok c) = IsPatternOf f c
  IsPatternFor f (Err (faults.Wide step)) = IsWideTree f
  IsPatternFor f (Err faults.Memory) = Unit {0}

  -- the patterns of these specimens, in order
  abbrev pub ArePatternsOf : List Specimen → List (Option SummaryParts) → Type 0
  ArePatternsOf [] [] = Unit {0}
  ArePatternsOf [] (c ∷ cs) = ⊥
  ArePatternsOf (s ∷ ss) [] = ⊥
  ArePatternsOf (s ∷ ss) (c ∷ cs) = IsPatternOf (tree_of s) c × ArePatternsOf ss cs

  -- ---- the parts of an operator

  -- a specimen as a part adds its pattern to those of the children, and another part adds none
  abbrev pub AddsPart : SpecimenPart → List (Option SummaryParts) → List (Option SummaryParts) → Type 0
  AddsPart (Sub s) before after = (c : Option SummaryParts) × (after ≡ before ++ c ∷ []) × IsPatternOf (tree_of s) c
  AddsPart (Name n) before after = after ≡ before
  AddsPart (Number n) before after = after ≡ before
  AddsPart (Text t) before after = after ≡ before

  -- some step of the part passes the limit; or out of memory
  abbrev pub IsPartFault : SpecimenPart → EvalFault → Type 0
  IsPartFault (Sub s) (faults.Wide step) = IsWideTree (tree_of s)
  IsPartFault (Name n) (faults.Wide step) = ⊥
  IsPartFault (Number n) (faults.Wide step) = ⊥
  IsPartFault (Text t) (faults.Wide step) = ⊥
  IsPartFault p faults.Memory = Unit {0}

  -- ---- lists

  -- the pattern is that of the list, or of its end
  pub record IsListPattern (f : Fragment) (c : Option SummaryParts) : Type 0 where
    pub child : IsChildOf def f c
    pub light : IsLightList f

  abbrev pub IsListFor : Fragment → Result (Option SummaryParts) EvalFault → Type 0
  IsListFor f (Ok c) = IsListPattern f c
  IsListFor f (Err (faults.Wide step)) = IsWideList f
  IsListFor f (Err faults.Memory) = Unit {0}

  -- the child may be an element of the list, which is there
  abbrev pub SuitsElement : ℕ → Option SummaryParts → Type 0
  SuitsElement l c = (list : ListKind) × (slice_get def.lists l ≡ Some list)
      × SuitsKind def c (kinds.Phylum list.element)

  -- the child may be what follows an element of the list
  abbrev pub SuitsRest : ℕ → Option SummaryParts → Type 0
  SuitsRest l (Some s) = (s.kind ≡ kinds.List l) × IsSummary def s
  SuitsRest l None = Unit {0}

-- the names among the parts, in order
abbrev pub part_names : List SpecimenPart → List Word
part_names [] = []
part_names (Name n ∷ ps) = n ∷ part_names ps
part_names (Sub s ∷ ps) = part_names ps
part_names (Number n ∷ ps) = part_names ps
part_names (Text t ∷ ps) = part_names ps
