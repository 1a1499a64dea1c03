-- The parts of a definition have the names that lines declare, in the order of the lines.
use Rattle.std.specs.Prelude.{ℕ, ◌≡◌, false, List, [], ◌∷◌, map, Some, None, slice_get}
use Rattle.std.specs.List.{AllByRecursion}
use Rattle.psg_terms.specs.Names.{Name, has_twice}
use Rattle.psg_terms.specs.Signature.{Signature, Symbol}
use Rattle.psg_grammar.specs.declared.types.Space.{Space}
use Rattle.psg_grammar.specs.declared.types.Phylum.{Phylum}
use Rattle.psg_grammar.specs.declared.types.ListKind.{ListKind}
use Rattle.psg_grammar.specs.declared.types.Operator.{Operator}
use Rattle.psg_grammar.specs.declared.types.Definition.{Definition}
use Rattle.psg_grammar.specs.declared.types.Kind.TheVariants as kinds
use Rattle.psg_grammar.specs.Sound.{HasKindSort, IsItem}
use Rattle.psg_grammar.specs.Lookups.{part_items}
use Rattle.psg_deflines.specs.Entries.{Entry}
use Rattle.psg_deflines.specs.Forms.{HasForm}
use Rattle.psg_deflines.specs.declared.lines.Line.{Line}
use Rattle.psg_defcheck.specs.Meanings.{IsKnown, HasEntity, IsSorted, part_places}
use Rattle.psg_defcheck.specs.Checks.{IsKindAt}
use Rattle.psg_defcheck.specs.Scopes.{sort_names, constructor_names, space_names, phylum_names, list_names}
use Rattle.psg_defcheck.specs.Scopes.{operator_names, kind_names, element_place, operator_declared, OpDecl}
use Rattle.psg_defcheck.specs.Scopes.{Constructor, constructor_declared, value_place, entity_place}
use Rattle.psg_defnumber.specs.Placing.{IsPlaceOf, ArePartsOf}
use Rattle.psg_defnumber.specs.Sorts.{IsSortOf, IsSymbolOf}

-- it has the sorts of the lines
abbrev pub HasSorts : List Line → Definition → Type 0
HasSorts file def = def.signature.sorts ≡ sort_names file

-- it has the constructors of the lines, with the sorts that lines say, each of which has one line
pub record HasConstructors (file : List Line) (sig : Signature) : Type 0 where
  pub names : map (λ (s : Symbol). s.name) sig.symbols ≡ constructor_names file
  pub once : has_twice (sort_names file) ≡ false
  pub sorts : (n : Name) (c : Constructor) → constructor_declared file n ≡ Some c → (p : ℕ) (s : Symbol)
      → slice_get sig.symbols p ≡ Some s → s.name ≡ n → IsSymbolOf file c s

-- it has the phyla of the lines
abbrev pub HasPhyla : List Line → Definition → Type 0
HasPhyla file def = map (λ (p : Phylum). p.name) def.phyla ≡ phylum_names file

-- they are the lists of the lines
abbrev pub AreListsOf : List Line → List ListKind → Type 0
AreListsOf file lists = map (λ (l : ListKind). l.name) lists ≡ list_names file

-- the phylum is of the sort that its line says, and so is the list
abbrev pub HasPhylumSort : List Line → Phylum → Type 0
HasPhylumSort file p = IsSortOf file (value_place file p.name) p.sort.0

abbrev pub HasListSort : List Line → ListKind → Type 0
HasListSort file l = IsSortOf file (value_place file l.name) l.sort.0

-- the phylum of the list's elements is there
abbrev pub HasElements : Definition → ListKind → Type 0
HasElements def l = (s : ℕ) × HasKindSort def (kinds.Phylum l.element) s

-- what the operator's items name is there
abbrev pub HasItems : Definition → Operator → Type 0
HasItems def o = AllByRecursion (IsItem def) o.items

-- the place of the list's elements is that of their phylum
abbrev pub HasElementPlace : List Line → ListKind → Type 0
HasElementPlace file l = IsPlaceOf file (element_place file l.name) (kinds.Phylum l.element)

-- the operator is of the phylum that its line names, and its items are at the places of its parts
pub record IsDeclaredBy (file : List Line) (d : OpDecl) (own : Operator) : Type 0 where
  pub phylum : IsKindAt file d.phylum (kinds.Phylum own.phylum)
  pub placed : ArePartsOf file (part_places file d.made) (part_items own.items)

-- the space of the name has the position among those of the lines; where no name is written, it is the first one
abbrev pub IsSpaceAt : List Line → Name → ℕ → Type 0
IsSpaceAt file [] n = n ≡ 0
IsSpaceAt file (c ∷ cs) n = slice_get (space_names file) n ≡ Some (c ∷ cs)

-- it has the constructors, the spaces, the phyla and the lists of the lines, of the sorts that lines say
pub record HasKinds (file : List Line) (def : Definition) : Type 0 where
  pub constructors : HasConstructors file def.signature
  pub spaces : map (λ (s : Space). s.name) def.spaces ≡ space_names file
  pub phyla : HasPhyla file def
  pub lists : AreListsOf file def.lists
  pub elements : AllByRecursion (HasElements def) def.lists
  pub once : has_twice (kind_names file) ≡ false
  pub places : AllByRecursion (HasElementPlace file) def.lists
  pub phylum_sorts : AllByRecursion (HasPhylumSort file) def.phyla
  pub list_sorts : AllByRecursion (HasListSort file) def.lists
  pub space_sorts : (n : Name) (p : ℕ) (s : Space) → IsSpaceAt file n p → slice_get def.spaces p ≡ Some s
      → IsSortOf file (entity_place file n) s.sort.0

-- and it has their operators
pub record HasNames (file : List Line) (def : Definition) : Type 0 where
  pub kinds : HasKinds file def
  pub operators : map (λ (o : Operator). o.name) def.operators ≡ operator_names file
  pub items : AllByRecursion (HasItems def) def.operators
  pub parts : (n : Name) (d : OpDecl) → operator_declared file n ≡ Some d → (p : ℕ) (own : Operator)
      → slice_get def.operators p ≡ Some own → own.name ≡ n → IsDeclaredBy file d own

-- The line has its form. Lines declare its names, and a space where it needs one; its terms are of the sorts of their
-- places.
pub record IsMeant (file : List Line) (line : Line) : Type 0 where
  pub form : HasForm line
  pub known : IsKnown file line
  pub entity : HasEntity file line
  pub above : List Line
  pub sorted : IsSorted file above line

-- so it is of the entry's line
abbrev pub IsMeantEntry : List Line → Entry → Type 0
IsMeantEntry file None = Unit {0}
IsMeantEntry file (Some line) = IsMeant file line
