-- What true rows are good for: hole rows are exactly the values of trees, and what is open has a completion.
use Rattle.std.specs.Prelude.{ℕ, ◌≡◌, ◌↔◌, List, [], ◌∷◌, Some}
use Rattle.psg_terms.specs.Terms.{Term}
use Rattle.psg_terms.specs.Instances.{IsGroundInstance}
use Rattle.psg_terms.specs.Relations.{IsIn}
use Rattle.psg_grammar.specs.declared.types.Kind.{Kind}
use Rattle.psg_grammar.specs.declared.types.Definition.{Definition}
use Rattle.psg_grammar.specs.Fragments.{Fragment}
use Rattle.psg_grammar.specs.Paths.{Path, node_at, observe}
use Rattle.psg_grammar.specs.Legal.{Entities, AreEntities, IsLegal, IsCompletable, IsCompletableAs, IsPossibleAt}
use Rattle.psg_grammar.specs.Open.{Choice, IsOpen, IsOfHoleRow}
use Rattle.psg_grammar.specs.Regions.{IsDistinct}
use Rattle.psg_grammar.specs.Relations.{IsSeen, IsRelationOf, IsShownRelation}
use Rattle.psg_grammar.specs.Marks.{Mark, IsMark, IsMarkBy}
use Rattle.psg_grammar.specs.WellFormed.{Fits, WellFormed, IsComplete}

module _ (def : Definition) where
  -- some complete tree of the kind is legal with the value under some entities
  pub record IsTaken (kind : Kind) (v : Term) : Type 0 where
    pub tree : Fragment
    pub formed : WellFormed def tree kind
    pub complete : IsComplete tree
    pub distinct : IsDistinct def tree
    pub outside : Entities
    pub entities : AreEntities def outside
    pub legal : IsLegal def outside tree v []

  -- A value is one of a hole row of the kind exactly where some complete legal tree of the kind has it.
  abbrev pub RowOrTree : Type 0
  RowOrTree = (kind : Kind) (v : Term) → ((r : ℕ) × IsOfHoleRow def kind r v) ↔ IsTaken kind v

  -- A tree is open exactly where it has a legal completion.
  abbrev pub OpenOrCompletable : Type 0
  OpenOrCompletable = (f : Fragment) (kind : Kind) → WellFormed def f kind → IsOpen def f ↔ IsCompletable def f

  -- The values that observed nodes may have by the hole rows are those that they have in legal completions.
  abbrev pub SeenOrPossible : Type 0
  SeenOrPossible = (f : Fragment) (kind : Kind) → Fits def f [] kind → (values : List Term)
      → ((c : Choice f) × IsSeen def f c values) ↔ IsCompletableAs def f values

  -- The values that a node of a tree may have by the hole rows are those that it has in legal completions of the tree.
  abbrev pub ShownOrPossible : Type 0
  ShownOrPossible = (f : Fragment) (kind : Kind) → WellFormed def f kind → (path : Path) (node : Fragment)
      → node_at f path ≡ Some node
      → (u : Term) → ((c : Choice (observe path f)) × IsSeen def (observe path f) c (u ∷ [])) ↔ IsPossibleAt def f path
      u

  -- The relation of a tree has a row exactly where the tree has a legal completion.
  abbrev pub RelatedOrCompletable : Type 0
  RelatedOrCompletable = (f : Fragment) (kind : Kind) → WellFormed def f kind → (rows : List (List Term))
      → IsRelationOf def f rows
      → ((row : List Term) × IsIn row rows) ↔ IsCompletable def f

  -- The rows that show a node of a tree have exactly the values that it has in legal completions of the tree.
  abbrev pub ShownByRows : Type 0
  ShownByRows = (f : Fragment) (kind : Kind) → WellFormed def f kind → (path : Path) (node : Fragment)
      → node_at f path ≡ Some node
      → (rows : List (List Term)) → IsShownRelation def f path rows
      → (u : Term) → ((row : List Term) × IsIn row rows × IsGroundInstance def.signature row (u ∷ [])) ↔ IsPossibleAt
      def f path u

  -- The mark of a tree is the one that legal completions give: good where the tree has one, and otherwise wrong at the
  -- nodes that have none while each of their children has one.
  abbrev pub MarkedByCompletions : Type 0
  MarkedByCompletions = (f : Fragment) (kind : Kind) → WellFormed def f kind → (mark : Mark)
      → IsMark def f mark ↔ IsMarkBy (IsCompletable def) f mark
