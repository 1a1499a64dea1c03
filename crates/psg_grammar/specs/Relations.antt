-- The relation of a fragment: its most general possible rows.
use Rattle.std.specs.Prelude.{ℕ, ◌≡◌, List, [], ◌∷◌, ◌++◌, map}
use Rattle.psg_terms.specs.Terms.{Term}
use Rattle.psg_terms.specs.Relations.{IsRelation}
use Rattle.psg_grammar.specs.declared.types.Definition.{Definition}
use Rattle.psg_grammar.specs.Fragments.{Fragment}
use Rattle.psg_grammar.specs.Keys.{in_order}
use Rattle.psg_grammar.specs.Paths.{Path, observe}
use Rattle.psg_grammar.specs.Regions.{names_of, names_inside, IsDistinct}
use Rattle.psg_grammar.specs.Legal.{Entities, AreEntities}
use Rattle.psg_grammar.specs.Open.{Choice, Holds, Judged}

module _ (def : Definition) where
  -- The columns, for one choice: the value, the values of the observed nodes, and the entities of the keys. Where a
  -- region declares a key twice there are none.
  pub record IsPossible (f : Fragment) (choice : Choice f) (columns : List Term) : Type 0 where
    pub distinct : IsDistinct def f
    pub outside : Entities
    pub entities : AreEntities def outside
    pub value : Term
    pub seen : List Term
    pub judged : Judged def outside f choice value seen
    pub columns_are : columns ≡ (value ∷ seen) ++ map outside (names_of def f)

  -- the columns are possible for the choice, with columns for the keys inside a scope operator
  pub record IsPossibleInside (f : Fragment) (choice : Choice f) (columns : List Term) : Type 0 where
    pub distinct : IsDistinct def f
    pub inside : Entities
    pub entities : AreEntities def inside
    pub value : Term
    pub seen : List Term
    pub holds : Holds def inside f choice [] value seen []
    pub columns_are : columns ≡ (value ∷ seen) ++ map inside (in_order (names_inside def f))

  -- the values of the observed nodes alone
  pub record IsSeen (f : Fragment) (choice : Choice f) (columns : List Term) : Type 0 where
    pub distinct : IsDistinct def f
    pub outside : Entities
    pub entities : AreEntities def outside
    pub value : Term
    pub judged : Judged def outside f choice value columns

  abbrev pub IsRelationOf : Fragment → List (List Term) → Type 0
  IsRelationOf f rows = (sorts : List ℕ) × IsRelation def.signature sorts (IsPossible f) rows

  abbrev pub IsInsideRelationOf : Fragment → List (List Term) → Type 0
  IsInsideRelationOf f rows = (sorts : List ℕ) × IsRelation def.signature sorts (IsPossibleInside f) rows

  abbrev pub IsSeenRelationOf : Fragment → List (List Term) → Type 0
  IsSeenRelationOf f rows = (sorts : List ℕ) × IsRelation def.signature sorts (IsSeen f) rows

  -- the rows whose second column is the value of the node at the path
  abbrev pub IsReportedRelation : Fragment → Path → List (List Term) → Type 0
  IsReportedRelation f path rows = IsRelationOf (observe path f) rows

  -- the rows of which that value is the only column
  abbrev pub IsShownRelation : Fragment → Path → List (List Term) → Type 0
  IsShownRelation f path rows = IsSeenRelationOf (observe path f) rows
