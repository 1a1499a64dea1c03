-- What holds of every definition that a reader gives: numbers in range, names of their forms, and sorts where they
-- belong.
use Rattle.std.specs.Prelude.{ℕ, ◌≡◌, ◌⊎◌, ◌<◌, ◌≤◌, ◌^◌, ◌&&◌, ◌||◌, ◌==◌, nat_le, Bool, true, false, List, [], ◌∷◌}
use Rattle.std.specs.Prelude.{◌++◌, length, map, slice_get, Some}
use Rattle.std.specs.List.{AllByRecursion, list_all}
use Rattle.psg_terms.specs.Names.{Name, has_twice}
use Rattle.psg_terms.specs.Terms.{Term}
use Rattle.psg_terms.specs.Signature.{Symbol, HasSort, HaveSorts}
use Rattle.psg_terms.specs.Canonical.{IsWrittenOut, AreWrittenOut}
use Rattle.psg_terms.specs.Sound.{IsSound as IsSoundSignature}
use Rattle.psg_grammar.specs.declared.types.Kind.{Kind}
use Rattle.psg_grammar.specs.declared.types.Kind.TheVariants as kinds
use Rattle.psg_grammar.specs.declared.types.Level.{Level}
use Rattle.psg_grammar.specs.declared.types.Level.TheVariants as levels
use Rattle.psg_grammar.specs.declared.types.Item.{Item}
use Rattle.psg_grammar.specs.declared.types.Item.TheVariants as items
use Rattle.psg_grammar.specs.declared.types.Row.{Row}
use Rattle.psg_grammar.specs.declared.types.Phylum.{Phylum}
use Rattle.psg_grammar.specs.declared.types.ListKind.{ListKind}
use Rattle.psg_grammar.specs.declared.types.Operator.{Operator}
use Rattle.psg_grammar.specs.declared.types.Space.{Space}
use Rattle.psg_grammar.specs.declared.types.SpecimenHole.{SpecimenHole}
use Rattle.psg_grammar.specs.declared.types.Specimen.{Specimen}
use Rattle.psg_grammar.specs.declared.types.Case.{Case}
use Rattle.psg_grammar.specs.declared.types.HoleRow.{HoleRow}
use Rattle.psg_grammar.specs.declared.types.DeclareRow.{DeclareRow}
use Rattle.psg_grammar.specs.declared.types.Definition.{Definition}
use Rattle.psg_grammar.specs.Fragments.{Fragment, hole, ending, cell, operator, with_child, with_name, with_number}
use Rattle.psg_grammar.specs.Fragments.{with_text, anything, observed, children_of}
use Rattle.psg_grammar.specs.Lookups.{part_items}
use Rattle.psg_grammar.specs.Specimens.{tree_of, holes_of, HasOwnRests}
use Rattle.psg_grammar.specs.Placed.{FitsPlaces}

-- Names begin with a letter of their case; letters, digits and `_` follow, all ASCII, at most 64 bytes.
abbrev pub between : ℕ → ℕ → ℕ → Bool
between low high c = nat_le low c && nat_le c high

-- `A` to `Z`
abbrev pub is_upper : ℕ → Bool
is_upper c = between 65 90 c

-- `a` to `z`
abbrev pub is_lower : ℕ → Bool
is_lower c = between 97 122 c

-- `0` to `9`
abbrev pub is_digit : ℕ → Bool
is_digit c = between 48 57 c

-- what a name may have after its first character
abbrev pub goes_on_name : ℕ → Bool
goes_on_name c = is_upper c || is_lower c || is_digit c || (c == 95)

-- a name whose first character passes the test, of 1 to 64 bytes
abbrev pub is_name_from : (ℕ → Bool) → Name → Bool
is_name_from first [] = false
is_name_from first (c ∷ cs) = first c && list_all goes_on_name cs && nat_le (length cs) 63

-- of a sort, phylum or list
abbrev pub IsKindName : Name → Type 0
IsKindName n = is_name_from is_upper n ≡ true

-- of a constructor, operator or space
abbrev pub IsOwnName : Name → Type 0
IsOwnName n = is_name_from is_lower n ≡ true

-- of a specimen's name position: lower-case letters and digits, one or more
abbrev pub is_specimen_name : Name → Bool
is_specimen_name [] = false
is_specimen_name (c ∷ cs) = list_all (λ d. is_lower d || is_digit d) (c ∷ cs)

-- each name of the fragment is one of a specimen
abbrev pub HasSpecimenNames : Fragment → Type 0
HasSpecimenNames (hole p) = Unit {0}
HasSpecimenNames (ending l u) = Unit {0}
HasSpecimenNames (cell l e r) = HasSpecimenNames e × HasSpecimenNames r
HasSpecimenNames (operator o) = Unit {0}
HasSpecimenNames (with_child f t) = HasSpecimenNames f × HasSpecimenNames t
HasSpecimenNames (with_name f n) = HasSpecimenNames f × (is_specimen_name n ≡ true)
HasSpecimenNames (with_number f n) = HasSpecimenNames f
HasSpecimenNames (with_text f t) = HasSpecimenNames f
HasSpecimenNames anything = Unit {0}
HasSpecimenNames (observed f) = HasSpecimenNames f

-- fewer than a 32-bit number counts
abbrev pub IsShort : {X : Type 0} → List X → Type 0
IsShort xs = length xs < 2 ^ 32

-- each list of the tree has fewer elements than that
abbrev pub HasShortLists : Fragment → Type 0
HasShortLists (hole p) = Unit {0}
HasShortLists (ending l u) = Unit {0}
HasShortLists (cell l e r) = IsShort (children_of (cell l e r)) × HasShortLists e × HasShortLists r
HasShortLists (operator o) = Unit {0}
HasShortLists (with_child f t) = HasShortLists f × HasShortLists t
HasShortLists (with_name f n) = HasShortLists f
HasShortLists (with_number f n) = HasShortLists f
HasShortLists (with_text f t) = HasShortLists f
HasShortLists anything = Unit {0}
HasShortLists (observed f) = HasShortLists f

-- N of a level is 1 to 9
abbrev pub IsBinding : ℕ → Type 0
IsBinding n = (1 ≤ n) × (n ≤ 9)

-- the level has a number from 1 to 9, or none
abbrev pub IsLevel : Level → Type 0
IsLevel levels.Plain = Unit {0}
IsLevel (levels.Prefix n) = IsBinding n
IsLevel (levels.Postfix n) = IsBinding n
IsLevel (levels.InfixLeft n) = IsBinding n
IsLevel (levels.InfixRight n) = IsBinding n
IsLevel (levels.InfixNone n) = IsBinding n

-- the names of phyla and lists, which are in one space
abbrev pub kind_names : Definition → List Name
kind_names def = map (λ (p : Phylum). p.name) def.phyla ++ map (λ (l : ListKind). l.name) def.lists

module _ (def : Definition) where
  -- the sort of a kind that is there
  abbrev pub HasKindSort : Kind → ℕ → Type 0
  HasKindSort (kinds.Phylum p) s = (k : Phylum) × (slice_get def.phyla p ≡ Some k) × (k.sort.0 ≡ s)
  HasKindSort (kinds.List l) s = (k : ListKind) × (slice_get def.lists l ≡ Some k) × (k.sort.0 ≡ s)

  abbrev pub HasSpaceSort : ℕ → ℕ → Type 0
  HasSpaceSort n s = (e : Space) × (slice_get def.spaces n ≡ Some e) × (e.sort.0 ≡ s)

  -- the item names a kind or a space that is there
  abbrev pub IsItem : Item → Type 0
  IsItem (items.Slot k) = (s : ℕ) × HasKindSort k s
  IsItem (items.Refers n) = (s : ℕ) × HasSpaceSort n s
  IsItem (items.Declares n) = (s : ℕ) × HasSpaceSort n s
  IsItem _ = Unit {0}

  -- the sorts of the columns of an operator's rows: of the slots and name positions, in order
  abbrev pub AreColumns : List Item → List ℕ → Type 0
  AreColumns [] sorts = sorts ≡ []
  AreColumns (items.Slot k ∷ rest) sorts = (s : ℕ) × (more : List ℕ) × (sorts ≡ s ∷ more) × HasKindSort k s
      × AreColumns rest more
  AreColumns (items.Refers n ∷ rest) sorts = (s : ℕ) × (more : List ℕ) × (sorts ≡ s ∷ more) × HasSpaceSort n s
      × AreColumns rest more
  AreColumns (items.Declares n ∷ rest) sorts = (s : ℕ) × (more : List ℕ) × (sorts ≡ s ∷ more) × HasSpaceSort n s
      × AreColumns rest more
  AreColumns (_ ∷ rest) sorts = AreColumns rest sorts

  -- a term of the sort, with one-constant sorts written out
  abbrev pub IsTermOf : Term → ℕ → Type 0
  IsTermOf t s = HasSort def.signature t s × IsWrittenOut def.signature t

  pub record IsRow (head : ℕ) (columns : List ℕ) (row : Row) : Type 0 where
    pub of_head : IsTermOf row.head head
    pub of_columns : HaveSorts def.signature row.columns columns
    pub written : AreWrittenOut def.signature row.columns

  pub record IsPhylum (p : Phylum) : Type 0 where
    pub name : IsKindName p.name
    pub sort : p.sort.0 < length def.signature.sorts

  pub record IsListKind (l : ListKind) : Type 0 where
    pub name : IsKindName l.name
    pub sort : l.sort.0 < length def.signature.sorts
    pub element : ℕ
    pub element_sort : HasKindSort (kinds.Phylum l.element) element
    pub few_nils : IsShort l.nil_rows
    pub few_cells : IsShort l.cell_rows
    pub nils : AllByRecursion (λ t. IsTermOf t l.sort.0) l.nil_rows
    pub cells : AllByRecursion (IsRow l.sort.0 (element ∷ l.sort.0 ∷ [])) l.cell_rows

  pub record IsOperator (o : Operator) : Type 0 where
    pub name : IsOwnName o.name
    pub level : IsLevel o.level
    pub sort : ℕ
    pub phylum_sort : HasKindSort (kinds.Phylum o.phylum) sort
    pub few_items : IsShort o.items
    pub few_rows : IsShort o.rows
    pub each_item : AllByRecursion IsItem o.items
    pub columns : List ℕ
    pub are_columns : AreColumns (part_items o.items) columns
    pub each_row : AllByRecursion (IsRow sort columns) o.rows

  -- the term of a hole place is of the sort of its kind
  abbrev pub IsHolePlace : SpecimenHole → Type 0
  IsHolePlace h = (s : ℕ) × HasKindSort h.kind s × IsTermOf h.term s

  abbrev pub kind_of : SpecimenHole → Kind
  kind_of h = h.kind

  -- a tree of the kind with its hole places
  pub record IsSpecimen (kind : Kind) (specimen : Specimen) : Type 0 where
    pub fits : FitsPlaces def ⊥ (tree_of specimen) [] kind (map kind_of (holes_of specimen)) []
    pub rests : HasOwnRests specimen
    pub few_elements : HasShortLists (tree_of specimen)
    pub names : HasSpecimenNames (tree_of specimen)
    pub places : AllByRecursion IsHolePlace (holes_of specimen)

  pub record IsCase (kind : Kind) (sort : ℕ) (one : Case) : Type 0 where
    pub term : IsTermOf one.term sort
    pub specimen : IsSpecimen kind one.specimen

  pub record IsHoleRow (row : HoleRow) : Type 0 where
    pub sort : ℕ
    pub kind_sort : HasKindSort row.kind sort
    pub term : IsTermOf row.term sort
    pub few_cases : IsShort row.cases
    pub each_case : AllByRecursion (IsCase row.kind sort) row.cases

  -- the entity is of the sort of the space, the value of that of the list's elements
  pub record IsDeclareRow (d : DeclareRow) : Type 0 where
    pub entity : ℕ
    pub space_sort : HasSpaceSort d.space entity
    pub term : IsTermOf d.term entity
    pub list : ListKind
    pub list_is : slice_get def.lists d.list ≡ Some list
    pub element : ℕ
    pub element_sort : HasKindSort (kinds.Phylum list.element) element
    pub value : IsTermOf d.value element
    pub specimen : IsSpecimen (kinds.Phylum list.element) d.specimen

-- version 1 has at most one space, without a name; version 2 names each
abbrev pub AreSpaceNames : ℕ → List Space → Type 0
AreSpaceNames version spaces =
    ((version ≡ 1) × (length spaces ≤ 1) × AllByRecursion (λ (s : Space). s.name ≡ []) spaces)
    ⊎ ((version ≡ 2) × AllByRecursion (λ (s : Space). IsOwnName s.name) spaces
    × (has_twice (map (λ (s : Space). s.name) spaces) ≡ false))

pub record IsSound (def : Definition) : Type 0 where
  pub signature : IsSoundSignature def.signature
  pub sort_names : AllByRecursion IsKindName def.signature.sorts
  pub constructor_names : AllByRecursion (λ (s : Symbol). IsOwnName s.name) def.signature.symbols
  pub spaces : AreSpaceNames def.version def.spaces
  pub space_sorts : AllByRecursion (λ (s : Space). s.sort.0 < length def.signature.sorts) def.spaces
  pub kind_names : has_twice (kind_names def) ≡ false
  pub operator_names : has_twice (map (λ (o : Operator). o.name) def.operators) ≡ false
  pub phyla : AllByRecursion (IsPhylum def) def.phyla
  pub lists : AllByRecursion (IsListKind def) def.lists
  pub operators : AllByRecursion (IsOperator def) def.operators
  pub hole_rows : AllByRecursion (IsHoleRow def) def.hole_rows
  pub declare_rows : AllByRecursion (IsDeclareRow def) def.declare_rows
  pub few_sorts : IsShort def.signature.sorts
  pub few_constructors : IsShort def.signature.symbols
  pub few_arguments : AllByRecursion (λ (s : Symbol). IsShort s.arguments) def.signature.symbols
  pub few_spaces : IsShort def.spaces
  pub few_phyla : IsShort def.phyla
  pub few_lists : IsShort def.lists
  pub few_operators : IsShort def.operators
  pub few_hole_rows : IsShort def.hole_rows
  pub few_declare_rows : IsShort def.declare_rows
