-- What is wanted of a line among the lines of its file, test by test.
use Rattle.std.specs.Prelude.{ℕ, ◌≡◌, ◌+◌, ◌⊎◌, Bool, true, false, cond, is_some, Option, Some, None, option_and_then}
use Rattle.std.specs.Prelude.{List, [], ◌∷◌, length, map, IsTrue}
use Rattle.std.specs.List.{AllByRecursion, list_any, Contains}
use Rattle.psg_terms.specs.Names.{Name, is_among, has_twice}
use Rattle.psg_terms.specs.declared.declare.ConDecl.{ConDecl}
use Rattle.psg_terms.specs.declared.declare.SortDecl.{SortDecl}
use Rattle.psg_deflines.specs.WrittenTerms.{WrittenTerm, variable, named, apply}
use Rattle.psg_deflines.specs.WrittenTrees.{WrittenTree, operator, with_tree, with_name, with_number, with_text}
use Rattle.psg_deflines.specs.WrittenTrees.{list_end, list_rest, element, place}
use Rattle.psg_deflines.specs.declared.lines.LineItem.{LineItem}
use Rattle.psg_deflines.specs.declared.lines.LineItem.TheVariants as items
use Rattle.psg_deflines.specs.declared.lines.Line.{Line}
use Rattle.psg_deflines.specs.declared.lines.Line.TheVariants as lines
use Rattle.psg_defcheck.specs.Scopes.{sort_names, constructor_names, kind_names, operator_names, names_of, space_names}
use Rattle.psg_defcheck.specs.Scopes.{entity_sort, space_declared, sort_declared, constructor_declared, Constructor}
use Rattle.psg_defcheck.specs.Scopes.{OpDecl, operator_declared, last_operator, last_hole, is_phylum, is_list, is_kind}
use Rattle.psg_defcheck.specs.Scopes.{Place, sort_place, kind_place, value_place, element_place, entity_place}

-- no name of the line was declared before, in the line or above it; the space of an entity line has the empty name
abbrev pub IsNew : List Line → Line → Type 0
IsNew above (lines.Sort d) = (is_among (sort_names above) d.name ≡ false)
    × (has_twice (names_of d.constructors) ≡ false)
    × AllByRecursion (λ n. is_among (constructor_names above) n ≡ false) (names_of d.constructors)
IsNew above (lines.Space name sort) = is_among (space_names above) name ≡ false
IsNew above (lines.Phylum name sort bracketed) = is_among (kind_names above) name ≡ false
IsNew above (lines.List name sort elements separator on_lines unfinished) = is_among (kind_names above) name ≡ false
IsNew above (lines.Operator name phylum scope level made) = is_among (operator_names above) name ≡ false
IsNew above _ = Unit {0}

module _ (file : List Line) where
  -- lines declare the names as what may be where they are
  abbrev pub KnowsTerm : WrittenTerm → Type 0
  KnowsTerm (variable n) = Unit {0}
  KnowsTerm (named n) = IsTrue (is_some (constructor_declared file n))
  KnowsTerm (apply f a) = KnowsTerm f × KnowsTerm a

  abbrev pub KnowsTree : WrittenTree → Type 0
  KnowsTree (operator o) = IsTrue (is_some (operator_declared file o))
  KnowsTree (with_tree f t) = KnowsTree f × KnowsTree t
  KnowsTree (with_name f n) = KnowsTree f
  KnowsTree (with_number f d) = KnowsTree f
  KnowsTree (with_text f w) = KnowsTree f
  KnowsTree list_end = Unit {0}
  KnowsTree (list_rest l t) = IsTrue (is_list file l) × KnowsTerm t
  KnowsTree (element e r) = KnowsTree e × KnowsTree r
  KnowsTree (place k t) = IsTrue (is_kind file k) × KnowsTerm t

  abbrev pub KnowsSort : Name → Type 0
  KnowsSort n = IsTrue (is_among (sort_names file) n)

  abbrev pub KnowsSpace : Name → Type 0
  KnowsSpace [] = Unit {0}
  KnowsSpace (c ∷ cs) = IsTrue (is_some (space_declared file (c ∷ cs)))

  abbrev pub KnowsItem : LineItem → Type 0
  KnowsItem (items.Slot k) = IsTrue (is_kind file k)
  KnowsItem (items.Refers space) = KnowsSpace space
  KnowsItem (items.Declares space) = KnowsSpace space
  KnowsItem _ = Unit {0}

  abbrev pub KnowsBehindBy : Option WrittenTree → Type 0
  KnowsBehindBy None = Unit {0}
  KnowsBehindBy (Some w) = KnowsTree w

  abbrev pub IsKnown : Line → Type 0
  IsKnown (lines.Sort d) = AllByRecursion (λ (c : ConDecl). AllByRecursion KnowsSort c.args) d.constructors
  IsKnown (lines.Space name sort) = KnowsSort sort
  IsKnown (lines.Phylum name sort bracketed) = KnowsSort sort
  IsKnown (lines.List name sort elements separator on_lines unfinished) = KnowsSort sort
      × IsTrue (is_phylum file elements)
  IsKnown (lines.Operator name phylum scope level made) = IsTrue (is_phylum file phylum) × AllByRecursion KnowsItem made
  IsKnown (lines.Row head columns) = KnowsTerm head × AllByRecursion KnowsTerm columns
  IsKnown (lines.Nil list term) = IsTrue (is_list file list) × KnowsTerm term
  IsKnown (lines.Cell list term first rest) = IsTrue (is_list file list) × KnowsTerm term × KnowsTerm first
      × KnowsTerm rest
  IsKnown (lines.Hole kind term specimen) = IsTrue (is_kind file kind) × KnowsTerm term × KnowsBehindBy specimen
  IsKnown (lines.Case term specimen) = KnowsTerm term × KnowsTree specimen
  IsKnown (lines.Declare space list entity value specimen) = KnowsSpace space × IsTrue (is_list file list)
      × KnowsTerm entity × KnowsTerm value × KnowsTree specimen

-- an item with a part of the tree; one with a column of a row
abbrev pub has_part : LineItem → Bool
has_part (items.Slot k) = true
has_part (items.Refers space) = true
has_part (items.Declares space) = true
has_part items.Number = true
has_part items.Text = true
has_part _ = false

-- a row has a term for the item: for a slot and for a name position
abbrev pub has_column : LineItem → Bool
has_column (items.Slot k) = true
has_column (items.Refers space) = true
has_column (items.Declares space) = true
has_column _ = false

-- the item is a name position
abbrev pub is_name_item : LineItem → Bool
is_name_item (items.Refers space) = true
is_name_item (items.Declares space) = true
is_name_item _ = false

-- how many of the items pass the test
abbrev pub count_of : (LineItem → Bool) → List LineItem → ℕ
count_of test [] = 0
count_of test (i ∷ rest) = cond (test i) (count_of test rest + 1) (count_of test rest)

-- The constructor has k arguments. One that no line declares may have any number.
abbrev pub IsArity : Option Constructor → ℕ → Type 0
IsArity None k = Unit {0}
IsArity (Some c) k = length c.1.args ≡ k

-- The operator has k parts. One that no line declares may have any number.
abbrev pub IsPartCount : Option OpDecl → ℕ → Type 0
IsPartCount None k = Unit {0}
IsPartCount (Some o) k = count_of has_part o.made ≡ k

-- The operator's rows have k columns. One that no line declares may have any number.
abbrev pub IsColumnCount : Option OpDecl → ℕ → Type 0
IsColumnCount None k = Unit {0}
IsColumnCount (Some o) k = count_of has_column o.made ≡ k

module _ (file : List Line) where
  -- the numbers of arguments and parts are those of the declarations; k of them follow
  abbrev pub CountsTerm : ℕ → WrittenTerm → Type 0
  CountsTerm k (variable n) = Unit {0}
  CountsTerm k (named n) = IsArity (constructor_declared file n) k
  CountsTerm k (apply f a) = CountsTerm (k + 1) f × CountsTerm 0 a

  abbrev pub CountsTree : ℕ → WrittenTree → Type 0
  CountsTree k (operator o) = IsPartCount (operator_declared file o) k
  CountsTree k (with_tree f t) = CountsTree (k + 1) f × CountsTree 0 t
  CountsTree k (with_name f n) = CountsTree (k + 1) f
  CountsTree k (with_number f d) = CountsTree (k + 1) f
  CountsTree k (with_text f w) = CountsTree (k + 1) f
  CountsTree k list_end = Unit {0}
  CountsTree k (list_rest l t) = CountsTerm 0 t
  CountsTree k (element e r) = CountsTree 0 e × CountsTree 0 r
  CountsTree k (place kind t) = CountsTerm 0 t

  abbrev pub CountsBehindBy : Option WrittenTree → Type 0
  CountsBehindBy None = Unit {0}
  CountsBehindBy (Some w) = CountsTree 0 w

  abbrev pub IsCounted : List Line → Line → Type 0
  IsCounted above (lines.Row head columns) = CountsTerm 0 head × AllByRecursion (CountsTerm 0) columns
      × IsColumnCount (last_operator None above) (length columns)
  IsCounted above (lines.Nil list term) = CountsTerm 0 term
  IsCounted above (lines.Cell list term first rest) = CountsTerm 0 term × CountsTerm 0 first × CountsTerm 0 rest
  IsCounted above (lines.Hole kind term specimen) = CountsTerm 0 term × CountsBehindBy specimen
  IsCounted above (lines.Case term specimen) = CountsTerm 0 term × CountsTree 0 specimen
  IsCounted above (lines.Declare space list entity value specimen) = CountsTerm 0 entity × CountsTerm 0 value
      × CountsTree 0 specimen
  IsCounted above _ = Unit {0}

-- what has the name may be at the place
abbrev pub MayStand : Place → Name → Type 0
MayStand None n = Unit {0}
MayStand (Some wanted) n = n ≡ wanted

-- what a part of an operator has to be
pub data PartPlace : Type 0 where
  for_tree : (kind : Option (List ℕ)) → PartPlace
  for_name : PartPlace
  for_number : PartPlace
  for_text : PartPlace

module _ (file : List Line) where
  abbrev pub part_places : List LineItem → List PartPlace
  part_places [] = []
  part_places (items.Slot k ∷ rest) = for_tree (kind_place file k) ∷ part_places rest
  part_places (items.Refers space ∷ rest) = for_name ∷ part_places rest
  part_places (items.Declares space ∷ rest) = for_name ∷ part_places rest
  part_places (items.Number ∷ rest) = for_number ∷ part_places rest
  part_places (items.Text ∷ rest) = for_text ∷ part_places rest
  part_places (_ ∷ rest) = part_places rest

  -- the sorts of a row's columns
  abbrev pub column_places : List LineItem → List Place
  column_places [] = []
  column_places (items.Slot k ∷ rest) = value_place file k ∷ column_places rest
  column_places (items.Refers space ∷ rest) = entity_place file space ∷ column_places rest
  column_places (items.Declares space ∷ rest) = entity_place file space ∷ column_places rest
  column_places (_ ∷ rest) = column_places rest

  abbrev pub ListMayStand : Place → Type 0
  ListMayStand None = Unit {0}
  ListMayStand (Some wanted) = IsTrue (is_list file wanted)

  abbrev pub elements_place : Place → Place
  elements_place at = option_and_then (element_place file) at

  module _ (sorts : Name → Name) where
    abbrev pub Accepts : Option Constructor → List Place → Place → Type 0
    Accepts None behind at = Unit {0}
    Accepts (Some c) behind at = (behind ≡ map (sort_place file) c.1.args) × MayStand at c.0

    -- With arguments at these places after it, the term may be at the place. A variable has one sort in all its line.
    abbrev pub SortsTerm : List Place → Place → WrittenTerm → Type 0
    SortsTerm behind at (variable n) = MayStand at (sorts n)
    SortsTerm behind at (named n) = Accepts (constructor_declared file n) behind at
    SortsTerm behind at (apply f a) = (argument : Place) × SortsTerm (argument ∷ behind) at f × SortsTerm [] argument a

    abbrev pub SortAll : List Place → List WrittenTerm → Type 0
    SortAll [] [] = Unit {0}
    SortAll [] (t ∷ terms) = ⊥
    SortAll (at ∷ places) [] = ⊥
    SortAll (at ∷ places) (t ∷ terms) = SortsTerm [] at t × SortAll places terms

    abbrev pub TakesParts : Option OpDecl → List PartPlace → Place → Type 0
    TakesParts None behind at = Unit {0}
    TakesParts (Some o) behind at = (behind ≡ part_places o.made) × MayStand at o.phylum

    -- with parts at these places after it, the specimen may be at the place
    abbrev pub SortsTree : List PartPlace → Place → WrittenTree → Type 0
    SortsTree behind at (operator o) = TakesParts (operator_declared file o) behind at
    SortsTree behind at (with_tree f t) = (kind : Place) × SortsTree (for_tree kind ∷ behind) at f × SortsTree [] kind t
    SortsTree behind at (with_name f n) = SortsTree (for_name ∷ behind) at f
    SortsTree behind at (with_number f d) = SortsTree (for_number ∷ behind) at f
    SortsTree behind at (with_text f w) = SortsTree (for_text ∷ behind) at f
    SortsTree behind at list_end = ListMayStand at
    SortsTree behind at (list_rest l t) = MayStand at l × SortsTerm [] (value_place file l) t
    SortsTree behind at (element e r) = ListMayStand at × SortsTree [] (elements_place at) e × SortsTree [] at r
    SortsTree behind at (place k t) = MayStand at k × SortsTerm [] (value_place file k) t

    abbrev pub SortsBehindBy : Place → Option WrittenTree → Type 0
    SortsBehindBy at None = Unit {0}
    SortsBehindBy at (Some w) = SortsTree [] at w

    abbrev pub SortsRow : Option OpDecl → WrittenTerm → List WrittenTerm → Type 0
    SortsRow None head columns = Unit {0}
    SortsRow (Some o) head columns =
        SortsTerm [] (value_place file o.phylum) head × SortAll (column_places o.made) columns

    abbrev pub SortsLine : List Line → Line → Type 0
    SortsLine above (lines.Row head columns) = SortsRow (last_operator None above) head columns
    SortsLine above (lines.Nil list term) = SortsTerm [] (value_place file list) term
    SortsLine above (lines.Cell list term first rest) =
        SortsTerm [] (value_place file list) term
        × SortsTerm [] (option_and_then (value_place file) (element_place file list)) first
        × SortsTerm [] (value_place file list) rest
    SortsLine above (lines.Hole kind term specimen) = SortsTerm [] (value_place file kind) term
        × SortsBehindBy (kind_place file kind) specimen
    SortsLine above (lines.Case term specimen) =
        SortsTerm [] (option_and_then (value_place file) (last_hole None above)) term
        × SortsTree [] (option_and_then (kind_place file) (last_hole None above)) specimen
    SortsLine above (lines.Declare space list entity value specimen) =
        SortsTerm [] (entity_place file space) entity
        × SortsTerm [] (option_and_then (value_place file) (element_place file list)) value
        × SortsTree [] (element_place file list) specimen
    SortsLine above _ = Unit {0}

  -- each term and tree of the line is at a place of its own sort and kind, for some sorts of the variables
  abbrev pub IsSorted : List Line → Line → Type 0
  IsSorted above line = (sorts : Name → Name) × SortsLine sorts above line

  -- name positions and declare rows need a space
  abbrev pub HasEntity : Line → Type 0
  HasEntity (lines.Operator name phylum scope level made) = (list_any is_name_item made ≡ false)
      ⊎ IsTrue (is_some (entity_sort file))
  HasEntity (lines.Declare space list entity value specimen) = IsTrue (is_some (entity_sort file))
  HasEntity _ = Unit {0}

  -- Each of these sorts has a term without variables: a constructor of its line, with arguments that have one.
  pub data AreInhabited : List Name → Type 0 where
    none : AreInhabited []
    more : (sort : Name) (rest : List Name) (d : SortDecl) (c : ConDecl) → sort_declared file sort ≡ Some d
        → Contains d.constructors c
        → AreInhabited c.args → AreInhabited rest → AreInhabited (sort ∷ rest)

  abbrev pub HasGround : Line → Type 0
  HasGround (lines.Sort d) = AreInhabited (d.name ∷ [])
  HasGround _ = Unit {0}

-- an only constructor has no arguments
abbrev pub IsChoice : List ConDecl → Type 0
IsChoice (c ∷ []) = c.args ≡ []
IsChoice _ = Unit {0}

-- the line is no sort's, or its sort is one constant or has two constructors or more
abbrev pub HasChoice : Line → Type 0
HasChoice (lines.Sort d) = IsChoice d.constructors
HasChoice _ = Unit {0}
