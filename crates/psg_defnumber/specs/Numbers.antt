-- Names mean the positions of what they name.
use Rattle.std.specs.Prelude.{ℕ, ◌≡◌, ◌≢◌, ◌+◌, ◌⊎◌, Bool, false, Option, Some, None, List, [], ◌∷◌, map}
use Rattle.std.specs.Prelude.{slice_get}
use Rattle.psg_terms.specs.Names.{Name, has_twice}
use Rattle.psg_terms.specs.Terms.{Term}
use Rattle.psg_terms.specs.Terms as terms
use Rattle.psg_terms.specs.Signature.{Signature, Symbol, only_constructor}
use Rattle.psg_terms.specs.Canonical.{first_occurrences, IsNumberedFrom}
use Rattle.psg_terms.specs.Declarations.{IsSpelled}
use Rattle.psg_terms.specs.declared.declare.SortDecl.{SortDecl}
use Rattle.psg_terms.specs.declared.sorts.SortId.{SortId}
use Rattle.psg_grammar.specs.declared.types.Kind.{Kind}
use Rattle.psg_grammar.specs.declared.types.Kind.TheVariants as kinds
use Rattle.psg_grammar.specs.declared.types.Level.{Level}
use Rattle.psg_grammar.specs.declared.types.Item.{Item}
use Rattle.psg_grammar.specs.declared.types.Item.TheVariants as made
use Rattle.psg_grammar.specs.declared.types.Phylum.{Phylum}
use Rattle.psg_grammar.specs.declared.types.ListKind.{ListKind}
use Rattle.psg_grammar.specs.declared.types.Operator.{Operator}
use Rattle.psg_grammar.specs.declared.types.Row.{Row}
use Rattle.psg_grammar.specs.declared.types.Space.{Space}
use Rattle.psg_grammar.specs.declared.types.Case.{Case}
use Rattle.psg_grammar.specs.declared.types.HoleRow.{HoleRow}
use Rattle.psg_grammar.specs.declared.types.DeclareRow.{DeclareRow}
use Rattle.psg_grammar.specs.declared.types.SpecimenHole.{SpecimenHole}
use Rattle.psg_grammar.specs.declared.types.SpecimenPart.{SpecimenPart, Sub, Name as NamePart, Number, Text}
use Rattle.psg_grammar.specs.declared.types.Specimen.{Specimen, Op', List', Hole, Row_of-Specimen, end_of-Specimen}
use Rattle.psg_grammar.specs.declared.types.Specimen.{more_of-Specimen, Row_of-SpecimenPart, end_of-SpecimenPart}
use Rattle.psg_grammar.specs.declared.types.Specimen.{more_of-SpecimenPart}
use Rattle.psg_grammar.specs.declared.types.Definition.{Definition}
use Rattle.psg_grammar.specs.Lookups.{part_items}
use Rattle.psg_grammar.specs.Sound.{HasKindSort, HasSpaceSort, AreColumns}
use Rattle.psg_grammar.specs.Specimens.{holes_of}
use Rattle.psg_lexis.specs.Tokens.{value_of}
use Rattle.psg_deflines.specs.WrittenTerms.{WrittenTerm, variable, named, apply}
use Rattle.psg_deflines.specs.WrittenTrees.{WrittenTree, operator, with_tree, with_name, with_number, with_text}
use Rattle.psg_deflines.specs.WrittenTrees.{list_end, list_rest, element, place}
use Rattle.psg_deflines.specs.declared.lines.LineItem.{LineItem}
use Rattle.psg_deflines.specs.declared.lines.LineItem.TheVariants as items
use Rattle.psg_deflines.specs.declared.lines.Line.{Line}
use Rattle.psg_deflines.specs.declared.lines.Line.TheVariants as lines
use Rattle.psg_defcheck.specs.Scopes.{sort_names, constructor_names, kind_names, operator_names, space_names, spaces}

-- the sorts of the lines, in order
abbrev pub sort_decls : List Line → List SortDecl
sort_decls [] = []
sort_decls (lines.Sort d ∷ rest) = d ∷ sort_decls rest
sort_decls (_ ∷ rest) = sort_decls rest

-- A term of the sort, which takes arguments of these sorts, as it is written. The variables mean the positions of their
-- names, from 1; one of a one-constant sort is that constant.
abbrev pub IsTerm : Signature → List Name → List ℕ → ℕ → WrittenTerm → Term → Type 0
IsTerm sig names arguments sort (variable n) t =
    (arguments ≡ []) × (((c : ℕ) × (only_constructor sig sort ≡ Some c) × (t ≡ terms.symbol c))
    ⊎ ((k : ℕ) × (only_constructor sig sort ≡ None) × (slice_get names k ≡ Some n) × (t ≡ terms.variable sort (k + 1))))
IsTerm sig names arguments sort (named n) t =
    (c : ℕ) × (s : Symbol) × (slice_get sig.symbols c ≡ Some s) × (s.name ≡ n) × (s.arguments ≡ arguments)
    × (s.sort ≡ sort) × (t ≡ terms.symbol c)
IsTerm sig names arguments sort (apply f a) t =
    (first : ℕ) × (g b : Term) × IsTerm sig names (first ∷ arguments) sort f g × IsTerm sig names [] first a b
    × (t ≡ terms.apply g b)

-- Terms of these sorts, as they are written, one by one. Too many or too few are none.
abbrev pub AreTerms : Signature → List Name → List ℕ → List WrittenTerm → List Term → Type 0
AreTerms sig names [] [] made_terms = made_terms ≡ []
AreTerms sig names [] (w ∷ ws) made_terms = ⊥
AreTerms sig names (s ∷ sorts) [] made_terms = ⊥
AreTerms sig names (s ∷ sorts) (w ∷ ws) made_terms =
    (t : Term) × (rest : List Term) × IsTerm sig names [] s w t × AreTerms sig names sorts ws rest
    × (made_terms ≡ t ∷ rest)

-- These are the names of a line's variables: its terms number them from 1 in the order in which they first occur.
pub record IsNaming (names : List Name) (row : List Term) : Type 0 where
  pub once : has_twice names ≡ false
  pub first : IsNumberedFrom 1 (first_occurrences row)

module _ (def : Definition) where
  -- the kind has the name
  abbrev pub IsKind : Name → Kind → Type 0
  IsKind n (kinds.Phylum p) = (k : Phylum) × (slice_get def.phyla p ≡ Some k) × (k.name ≡ n)
  IsKind n (kinds.List l) = (k : ListKind) × (slice_get def.lists l ≡ Some k) × (k.name ≡ n)

  abbrev pub IsOperatorNamed : Name → ℕ → Operator → Type 0
  IsOperatorNamed n o op = (slice_get def.operators o ≡ Some op) × (op.name ≡ n)

  -- the place of the kind with the name and the term
  pub record IsPlace (names : List Name) (kind : Name) (term : WrittenTerm) (h : SpecimenHole) : Type 0 where
    pub of_kind : IsKind kind h.kind
    pub sort : ℕ
    pub kind_sort : HasKindSort def h.kind sort
    pub of_term : IsTerm def.signature names [] sort term h.term

  -- how a specimen of the kind is written; parts go on what is written before them
  abbrev mutual
    pub IsTree : List Name → Kind → Specimen → WrittenTree → Type 0
    IsTree names kind (Op' o shape parts) w =
        (n : Name) × (op : Operator) × IsOperatorNamed n o op × (kind ≡ kinds.Phylum op.phylum)
        × AreParts names (part_items op.items) parts (operator n) w
    IsTree names kind (List' l shape elements rest) w = (kind ≡ kinds.List l) × IsListFrom names l elements rest w
    IsTree names kind (Hole h) w =
        (n : Name) × (t : WrittenTerm) × (h.kind ≡ kind) × IsPlace names n t h × (w ≡ place n t)

    pub IsPart : List Name → Item → SpecimenPart → WrittenTree → WrittenTree → Type 0
    IsPart names (made.Slot k) (Sub s) front w = (t : WrittenTree) × IsTree names k s t × (w ≡ with_tree front t)
    IsPart names (made.Refers e) (NamePart n) front w = w ≡ with_name front n
    IsPart names (made.Declares e) (NamePart n) front w = w ≡ with_name front n
    IsPart names made.Number (Number v) front w =
        (digits : List ℕ) × (value_of digits ≡ v) × (w ≡ with_number front digits)
    IsPart names made.Text (Text t) front w = w ≡ with_text front t
    IsPart names _ _ front w = ⊥

    pub AreParts : {m : _} → List Name → List Item → Row_of-SpecimenPart m → WrittenTree → WrittenTree → Type 0
    AreParts names [] end_of-SpecimenPart front w = w ≡ front
    AreParts names [] (more_of-SpecimenPart p rest) front w = ⊥
    AreParts names (i ∷ wanted) end_of-SpecimenPart front w = ⊥
    AreParts names (i ∷ wanted) (more_of-SpecimenPart p rest) front w =
        (next : WrittenTree) × IsPart names i p front next × AreParts names wanted rest next w

    pub IsListFrom : {m : _} → List Name → ℕ → Row_of-Specimen m → Option SpecimenHole → WrittenTree → Type 0
    IsListFrom names l end_of-Specimen None w = w ≡ list_end
    IsListFrom names l end_of-Specimen (Some h) w =
        (n : Name) × (t : WrittenTerm) × (h.kind ≡ kinds.List l) × IsPlace names n t h × (w ≡ list_rest n t)
    IsListFrom names l (more_of-Specimen s rest) end w =
        (list : ListKind) × (e r : WrittenTree) × (slice_get def.lists l ≡ Some list)
        × IsTree names (kinds.Phylum list.element) s e × IsListFrom names l rest end r × (w ≡ element e r)

  -- the space with the number has the name; where none is written, it is the first one
  abbrev pub IsSpaceNamed : Name → ℕ → Type 0
  IsSpaceNamed [] n = n ≡ 0
  IsSpaceNamed (c ∷ cs) n = (s : Space) × (slice_get def.spaces n ≡ Some s) × (s.name ≡ c ∷ cs)

  abbrev pub IsItem : LineItem → Item → Type 0
  IsItem (items.Word w) i = i ≡ made.Word w
  IsItem (items.Slot n) i = (k : Kind) × IsKind n k × (i ≡ made.Slot k)
  IsItem (items.Refers space) i = (n : ℕ) × IsSpaceNamed space n × (i ≡ made.Refers n)
  IsItem (items.Declares space) i = (n : ℕ) × IsSpaceNamed space n × (i ≡ made.Declares n)
  IsItem items.Number i = i ≡ made.Number
  IsItem items.Text i = i ≡ made.Text
  IsItem items.Space i = i ≡ made.Space
  IsItem items.Tight i = i ≡ made.Tight
  IsItem items.Line i = i ≡ made.Line
  IsItem items.In i = i ≡ made.In
  IsItem items.Out i = i ≡ made.Out

  abbrev pub AreItems : List LineItem → List Item → Type 0
  AreItems [] all = all ≡ []
  AreItems (w ∷ ws) all = (i : Item) × (rest : List Item) × (all ≡ i ∷ rest) × IsItem w i × AreItems ws rest

  -- a row as its line declares it, its variables numbered in its own line
  pub record IsRow (head : ℕ) (sorts : List ℕ) (w : WrittenTerm) (ws : List WrittenTerm) (row : Row) : Type 0 where
    pub names : List Name
    pub of_head : IsTerm def.signature names [] head w row.head
    pub of_columns : AreTerms def.signature names sorts ws row.columns
    pub naming : IsNaming names (row.head ∷ row.columns)

  -- the rows in front of the next operator's line
  abbrev pub AreRows : ℕ → List ℕ → List Line → List Row → Type 0
  AreRows head sorts [] rows = rows ≡ []
  AreRows head sorts (lines.Operator name phylum scope level parts ∷ behind) rows = rows ≡ []
  AreRows head sorts (lines.Row w ws ∷ behind) rows =
      (row : Row) × (rest : List Row) × (rows ≡ row ∷ rest) × IsRow head sorts w ws row × AreRows head sorts behind rest
  AreRows head sorts (_ ∷ behind) rows = AreRows head sorts behind rows

  -- an operator as its line, and the lines after it, declare it
  pub record IsOperator (name phylum : Name) (scope : Bool) (level : Level) (parts : List LineItem) (behind : List Line)
      (op : Operator) : Type 0 where
    pub named : op.name ≡ name
    pub of_phylum : IsKind phylum (kinds.Phylum op.phylum)
    pub same_level : op.level ≡ level
    pub same_scope : op.scope ≡ scope
    pub each_item : AreItems parts op.items
    pub sort : ℕ
    pub phylum_sort : HasKindSort def (kinds.Phylum op.phylum) sort
    pub columns : List ℕ
    pub are_columns : AreColumns def (part_items op.items) columns
    pub each_row : AreRows sort columns behind op.rows

  abbrev pub AreOperators : List Line → List Operator → Type 0
  AreOperators [] all = all ≡ []
  AreOperators (lines.Operator name phylum scope level parts ∷ behind) all =
      (op : Operator) × (rest : List Operator) × (all ≡ op ∷ rest) × IsOperator name phylum scope level parts behind op
      × AreOperators behind rest
  AreOperators (_ ∷ behind) all = AreOperators behind all

  -- the sort with the number has the name
  abbrev pub IsSort : Name → SortId → Type 0
  IsSort n s = slice_get def.signature.sorts s.0 ≡ Some n

  -- a phylum as its line declares it
  pub record IsPhylum (name sort : Name) (bracketed : Bool) (p : Phylum) : Type 0 where
    pub named : p.name ≡ name
    pub of_sort : IsSort sort p.sort
    pub same_brackets : p.bracketed ≡ bracketed

  abbrev pub ArePhyla : List Line → List Phylum → Type 0
  ArePhyla [] all = all ≡ []
  ArePhyla (lines.Phylum name sort bracketed ∷ behind) all =
      (p : Phylum) × (rest : List Phylum) × (all ≡ p ∷ rest) × IsPhylum name sort bracketed p × ArePhyla behind rest
  ArePhyla (_ ∷ behind) all = ArePhyla behind all

  -- a lone term as its line has it
  pub record IsNil (sort : ℕ) (w : WrittenTerm) (t : Term) : Type 0 where
    pub names : List Name
    pub of_term : IsTerm def.signature names [] sort w t
    pub naming : IsNaming names (t ∷ [])

  -- the nil rows of the list with the name, in the order of their lines, and its cell rows
  abbrev pub AreNils : Name → ℕ → List Line → List Term → Type 0
  AreNils list sort [] rows = rows ≡ []
  AreNils list sort (lines.Nil of_list w ∷ behind) rows =
      ((of_list ≡ list) × (t : Term) × (rest : List Term) × (rows ≡ t ∷ rest) × IsNil sort w t
      × AreNils list sort behind rest)
      ⊎ ((of_list ≢ list) × AreNils list sort behind rows)
  AreNils list sort (_ ∷ behind) rows = AreNils list sort behind rows

  abbrev pub AreCells : Name → ℕ → ℕ → List Line → List Row → Type 0
  AreCells list sort elements [] rows = rows ≡ []
  AreCells list sort elements (lines.Cell of_list w first more ∷ behind) rows =
      ((of_list ≡ list) × (row : Row) × (rest : List Row) × (rows ≡ row ∷ rest)
      × IsRow sort (elements ∷ sort ∷ []) w (first ∷ more ∷ []) row × AreCells list sort elements behind rest)
      ⊎ ((of_list ≢ list) × AreCells list sort elements behind rows)
  AreCells list sort elements (_ ∷ behind) rows = AreCells list sort elements behind rows

  -- a list as its line declares it, with its rows among all lines of the file
  pub record IsList (file : List Line) (name sort elements separator : Name) (on_lines unfinished : Bool)
      (l : ListKind) : Type 0 where
    pub named : l.name ≡ name
    pub of_sort : IsSort sort l.sort
    pub of_elements : IsKind elements (kinds.Phylum l.element)
    pub same_separator : l.separator ≡ separator
    pub same_lines : l.lines ≡ on_lines
    pub same_end : l.unfinished ≡ unfinished
    pub nils : AreNils name l.sort.0 file l.nil_rows
    pub element_sort : ℕ
    pub elements_sort : HasKindSort def (kinds.Phylum l.element) element_sort
    pub cells : AreCells name l.sort.0 element_sort file l.cell_rows

  abbrev pub AreLists : List Line → List Line → List ListKind → Type 0
  AreLists file [] all = all ≡ []
  AreLists file (lines.List name sort elements separator on_lines unfinished ∷ behind) all =
      (l : ListKind) × (rest : List ListKind) × (all ≡ l ∷ rest)
      × IsList file name sort elements separator on_lines unfinished l × AreLists file behind rest
  AreLists file (_ ∷ behind) all = AreLists file behind all

  abbrev pub terms_of : Specimen → List Term
  terms_of s = map (λ (h : SpecimenHole). h.term) (holes_of s)

  -- a case as its line declares it
  pub record IsCase (kind : Kind) (sort : ℕ) (w : WrittenTerm) (tree : WrittenTree) (one : Case) : Type 0 where
    pub names : List Name
    pub of_term : IsTerm def.signature names [] sort w one.term
    pub of_specimen : IsTree names kind one.specimen tree
    pub naming : IsNaming names (one.term ∷ terms_of one.specimen)

  -- the cases in front of the next hole row's line
  abbrev pub AreCases : Kind → ℕ → List Line → List Case → Type 0
  AreCases kind sort [] cases = cases ≡ []
  AreCases kind sort (lines.Hole of_kind w specimen ∷ behind) cases = cases ≡ []
  AreCases kind sort (lines.Case w specimen ∷ behind) cases =
      (one : Case) × (rest : List Case) × (cases ≡ one ∷ rest) × IsCase kind sort w specimen one
      × AreCases kind sort behind rest
  AreCases kind sort (_ ∷ behind) cases = AreCases kind sort behind cases

  -- a specimen in the row's line makes one case, with the row's term; without one the cases follow
  abbrev pub HasCases : Kind → ℕ → WrittenTerm → Option WrittenTree → List Line → Term → List Case → Type 0
  HasCases kind sort w (Some tree) behind t cases =
      (one : Case) × (cases ≡ one ∷ []) × (one.term ≡ t) × IsCase kind sort w tree one
  HasCases kind sort w None behind t cases = IsNil sort w t × AreCases kind sort behind cases

  -- a hole row as its line, and the lines after it, declare it
  pub record IsHoleRow (kind : Name) (w : WrittenTerm) (specimen : Option WrittenTree) (behind : List Line)
      (row : HoleRow) : Type 0 where
    pub of_kind : IsKind kind row.kind
    pub sort : ℕ
    pub kind_sort : HasKindSort def row.kind sort
    pub has_cases : HasCases row.kind sort w specimen behind row.term row.cases

  abbrev pub AreHoleRows : List Line → List HoleRow → Type 0
  AreHoleRows [] all = all ≡ []
  AreHoleRows (lines.Hole kind w specimen ∷ behind) all =
      (row : HoleRow) × (rest : List HoleRow) × (all ≡ row ∷ rest) × IsHoleRow kind w specimen behind row
      × AreHoleRows behind rest
  AreHoleRows (_ ∷ behind) all = AreHoleRows behind all

  -- a declare row as its line declares it; its terms and its specimen share their variables
  pub record IsDeclareRow (space list : Name) (entity value : WrittenTerm) (tree : WrittenTree)
      (row : DeclareRow) : Type 0 where
    pub of_space : IsSpaceNamed space row.space
    pub of_list : IsKind list (kinds.List row.list)
    pub found : ListKind
    pub list_is : slice_get def.lists row.list ≡ Some found
    pub names : List Name
    pub entity_sort : ℕ
    pub space_sort : HasSpaceSort def row.space entity_sort
    pub of_entity : IsTerm def.signature names [] entity_sort entity row.term
    pub value_sort : ℕ
    pub elements_sort : HasKindSort def (kinds.Phylum found.element) value_sort
    pub of_value : IsTerm def.signature names [] value_sort value row.value
    pub of_specimen : IsTree names (kinds.Phylum found.element) row.specimen tree
    pub naming : IsNaming names (row.term ∷ row.value ∷ terms_of row.specimen)

  abbrev pub AreDeclareRows : List Line → List DeclareRow → Type 0
  AreDeclareRows [] all = all ≡ []
  AreDeclareRows (lines.Declare space list entity value specimen ∷ behind) all =
      (row : DeclareRow) × (rest : List DeclareRow) × (all ≡ row ∷ rest)
      × IsDeclareRow space list entity value specimen row × AreDeclareRows behind rest
  AreDeclareRows (_ ∷ behind) all = AreDeclareRows behind all

  -- the spaces with their names and the names of their sorts
  abbrev pub AreSpaces : List (Name × Name) → List Space → Type 0
  AreSpaces [] all = all ≡ []
  AreSpaces (d ∷ behind) all =
      (s : Space) × (rest : List Space) × (all ≡ s ∷ rest) × (s.name ≡ d.0) × IsSort d.1 s.sort × AreSpaces behind rest

-- The lines are together all of the definition of the version. No name is declared twice, and references may point to
-- later lines.
pub record IsNumbered (version : ℕ) (file : List Line) (def : Definition) : Type 0 where
  pub sorts_once : has_twice (sort_names file) ≡ false
  pub constructors_once : has_twice (constructor_names file) ≡ false
  pub kinds_once : has_twice (kind_names file) ≡ false
  pub operators_once : has_twice (operator_names file) ≡ false
  pub spaces_once : has_twice (space_names file) ≡ false
  pub same_version : def.version ≡ version
  pub signature : IsSpelled (sort_decls file) def.signature
  pub spaces : AreSpaces def (spaces file) def.spaces
  pub phyla : ArePhyla def file def.phyla
  pub lists : AreLists def file file def.lists
  pub operators : AreOperators def file def.operators
  pub hole_rows : AreHoleRows def file def.hole_rows
  pub declare_rows : AreDeclareRows def file def.declare_rows
