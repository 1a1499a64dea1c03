-- Specimens at places of their own kinds.
use Rattle.std.specs.Prelude.{ℕ, List, [], ◌∷◌, Option, Some, None}
use Rattle.std.specs.List.{AllByRecursion}
use Rattle.psg_terms.specs.Names.{Name}
use Rattle.psg_grammar.specs.declared.types.Kind.{Kind}
use Rattle.psg_grammar.specs.declared.types.Item.{Item}
use Rattle.psg_grammar.specs.declared.types.Item.TheVariants as items
use Rattle.psg_deflines.specs.WrittenTerms.{WrittenTerm}
use Rattle.psg_deflines.specs.WrittenTrees.{WrittenTree, HasTreeForm}
use Rattle.psg_deflines.specs.TreeWalks.{IsLiteral}
use Rattle.psg_deflines.specs.declared.trees.LinePlace.{LinePlace}
use Rattle.psg_deflines.specs.declared.trees.LinePart.{LinePart}
use Rattle.psg_deflines.specs.declared.trees.LinePart.TheVariants as parts
use Rattle.psg_deflines.specs.declared.lines.Line.{Line}
use Rattle.psg_deflines.specs.declared.lines.Line.TheVariants as lines
use Rattle.psg_defcheck.specs.Scopes.{Place}
use Rattle.psg_defcheck.specs.Meanings.{PartPlace, for_tree, for_name, for_number, for_text, SortsTree}
use Rattle.psg_defcheck.specs.Checks.{IsKindAt}
use Rattle.psg_defcheck.specs.Sorting.{PartStands, PartsStand, EndStands}
use Rattle.psg_defnumber.specs.Sorts.{TermStands}

-- what is written in the part has its form
abbrev pub HasPartForm : LinePart → Type 0
HasPartForm (parts.Tree t) = HasTreeForm t
HasPartForm p = IsLiteral p

module _ (file : List Line) where
  -- the place is that of the kind
  abbrev pub IsPlaceOf : Place → Kind → Type 0
  IsPlaceOf None k = ⊥
  IsPlaceOf (Some n) k = IsKindAt file n k

  -- the place is that of the item's part
  abbrev pub IsPartOf : PartPlace → Item → Type 0
  IsPartOf (for_tree at) (items.Slot k) = IsPlaceOf at k
  IsPartOf for_name (items.Refers n) = Unit {0}
  IsPartOf for_name (items.Declares n) = Unit {0}
  IsPartOf for_number items.Number = Unit {0}
  IsPartOf for_text items.Text = Unit {0}
  IsPartOf _ _ = ⊥

  -- item by item
  abbrev pub ArePartsOf : List PartPlace → List Item → Type 0
  ArePartsOf [] [] = Unit {0}
  ArePartsOf [] (i ∷ rest) = ⊥
  ArePartsOf (q ∷ places) [] = ⊥
  ArePartsOf (q ∷ places) (i ∷ rest) = IsPartOf q i × ArePartsOf places rest

  module _ (sorts : Name → Name) where
    -- the specimen has its form and may be at the place of the kind
    pub record TreeFits (kind : Kind) (w : WrittenTree) : Type 0 where
      pub spot : Place
      pub place : IsPlaceOf spot kind
      pub sorted : SortsTree file sorts [] spot w
      pub form : HasTreeForm w

    -- the part has its form and may be at the place of the item
    pub record IsPartAt (i : Item) (p : LinePart) : Type 0 where
      pub spot : PartPlace
      pub place : IsPartOf spot i
      pub sorted : PartStands file sorts spot p
      pub form : HasPartForm p

    -- the parts have their forms and may be at the places of the items, one by one
    pub record ArePartsAt (all : List Item) (ps : List LinePart) : Type 0 where
      pub spots : List PartPlace
      pub place : ArePartsOf spots all
      pub sorted : PartsStand file sorts spots ps
      pub form : AllByRecursion HasPartForm ps

    -- each of the specimens has its form and may be at the place of the kind
    pub record AreElementsAt (kind : Kind) (ws : List WrittenTree) : Type 0 where
      pub spot : Place
      pub place : IsPlaceOf spot kind
      pub sorted : AllByRecursion (SortsTree file sorts [] spot) ws
      pub form : AllByRecursion HasTreeForm ws

    -- the rest of a list, where there is one, may be at the place of the kind
    pub record IsRestAt (kind : Kind) (rest : Option LinePlace) : Type 0 where
      pub spot : Place
      pub place : IsPlaceOf spot kind
      pub sorted : EndStands file sorts spot rest

    -- the term may be at the place of the sort, and the specimen at that of the kind
    abbrev pub CaseFits : Kind → ℕ → WrittenTerm → WrittenTree → Type 0
    CaseFits kind sort w tree = TermStands file sorts sort w × TreeFits kind tree

  -- For some sorts of the variables in each of them, the cases before the next hole row may be of the kind and the
  -- sort.
  abbrev pub CasesFit : Kind → ℕ → List Line → Type 0
  CasesFit kind sort [] = Unit {0}
  CasesFit kind sort (lines.Hole of_kind w specimen ∷ rest) = Unit {0}
  CasesFit kind sort (lines.Case w specimen ∷ rest) =
      ((sorts : Name → Name) × CaseFits sorts kind sort w specimen) × CasesFit kind sort rest
  CasesFit kind sort (_ ∷ rest) = CasesFit kind sort rest
