-- Rows of sets of terminals: what can begin each kind, what can follow it, and the second tokens of led operators.
-- And what is in a row at once, and from which other rows its set follows.
use Rattle.std.specs.Prelude.{ℕ, ◌≡◌, ◌+◌, ◌^◌, ◌<◌, ◌≤◌, ◌⊎◌, ◌↔◌, ◌&&◌, Bool, true, false, List}
use Rattle.std.specs.Prelude.{[], ◌∷◌, length, drop, Option, Some, None, Contains, slice_get}
use Rattle.psg_grammar.specs.declared.types.Kind.{Kind}
use Rattle.psg_grammar.specs.declared.types.Kind.TheVariants as kinds
use Rattle.psg_grammar.specs.declared.types.Phylum.{Phylum}
use Rattle.psg_grammar.specs.declared.types.ListKind.{ListKind}
use Rattle.psg_class.specs.Forms.{is_own}
use Rattle.psg_class.specs.Grids.{is_set, IsCell, IsSameSize, IsTable, AreLinks}
use Rattle.psg_class.specs.declared.grid.Link.{Link}
use Rattle.psg_class.specs.declared.grid.Cell.{Cell}
use Rattle.psg_class.specs.declared.shape.Part.{Part}
use Rattle.psg_class.specs.declared.shape.Part.TheVariants as parts
use Rattle.psg_class.specs.declared.shape.Shape.{Shape}
use Rattle.psg_class.specs.declared.sources.Rows.{Rows}
use Rattle.psg_class.specs.declared.sources.Draft.{Draft}

-- the number of a kind among all: phyla are before lists
abbrev pub kind_index : ℕ → Kind → ℕ
kind_index phyla (kinds.Phylum p) = p
kind_index phyla (kinds.List l) = phyla + l

-- the row of what begins the kind
abbrev pub first_row : Rows → Kind → ℕ
first_row rows k = kind_index rows.phyla k

-- the row of what can follow the kind
abbrev pub follow_row : Rows → Kind → ℕ
follow_row rows k = rows.kinds + kind_index rows.phyla k

-- the row of the second tokens of the phylum's led operators
abbrev pub led_row : Rows → ℕ → ℕ
led_row rows p = rows.kinds + rows.kinds + p

pub record AreRows (phyla lists : ℕ) (rows : Rows) : Type 0 where
  pub phyla_are : rows.phyla ≡ phyla
  pub kinds_are : rows.kinds ≡ phyla + lists

-- the rows are one after the other
pub record IsRows (rows : Rows) : Type 0 where
  pub phyla_among : rows.phyla ≤ rows.kinds
  pub height_is : rows.height ≡ rows.kinds + rows.kinds + rows.phyla
  pub fits : rows.height < 2 ^ 64

abbrev pub is_phylum_kind : Kind → Bool
is_phylum_kind (kinds.Phylum p) = true
is_phylum_kind (kinds.List l) = false

-- the kind is one of those that have rows
abbrev pub IsKind : Rows → Kind → Type 0
IsKind rows (kinds.Phylum p) = p < rows.phyla
IsKind rows (kinds.List l) = rows.phyla + l < rows.kinds

-- ---- what begins some parts

-- the first part that is no list is this token
abbrev pub TokenIn : List Part → ℕ → Type 0
TokenIn [] n = ⊥
TokenIn (parts.Token k ∷ rest) n = n ≡ k
TokenIn (parts.Slot (kinds.Phylum p) ∷ rest) n = ⊥
TokenIn (parts.Slot (kinds.List l) ∷ rest) n = TokenIn rest n

-- the kind is that of a slot before which there are only lists
abbrev pub SlotIn : List Part → Kind → Type 0
SlotIn [] k = ⊥
SlotIn (parts.Token n ∷ rest) k = ⊥
SlotIn (parts.Slot (kinds.Phylum p) ∷ rest) k = k ≡ kinds.Phylum p
SlotIn (parts.Slot (kinds.List l) ∷ rest) k = (k ≡ kinds.List l) ⊎ SlotIn rest k

-- there are only lists
abbrev pub can_end : List Part → Bool
can_end [] = true
can_end (parts.Token n ∷ rest) = false
can_end (parts.Slot (kinds.Phylum p) ∷ rest) = false
can_end (parts.Slot (kinds.List l) ∷ rest) = can_end rest

abbrev pub none_behind : List Part → Bool
none_behind [] = true
none_behind (p ∷ rest) = false

-- ---- rows and links of one shape

-- the place is that of a slot, and not the first one
pub record IsSlot (s : Shape) (place : ℕ) (kind : Kind) : Type 0 where
  pub later : 1 ≤ place
  pub slot : slice_get s.parts place ≡ Some (parts.Slot kind)

abbrev pub behind : Shape → ℕ → List Part
behind s place = drop (place + 1) s.parts

-- what the slot at the place gives at once to the row of what can follow its kind
pub record SlotFact (rows : Rows) (s : Shape) (place row column : ℕ) : Type 0 where
  pub kind : Kind
  pub slot : IsSlot s place kind
  pub row_is : row ≡ follow_row rows kind
  pub token : TokenIn (behind s place) column

-- what can follow the operator's phylum, and what led operators of it go on with
abbrev pub IsOutside : Rows → Shape → ℕ → Type 0
IsOutside rows s from = (from ≡ follow_row rows (kinds.Phylum s.phylum)) ⊎ (from ≡ led_row rows s.phylum)

-- the slot is of the own phylum and at the last place
abbrev pub is_end : Shape → ℕ → Bool
is_end s place = is_own s.phylum (slice_get s.parts place) && none_behind (behind s place)

pub record SlotLink (rows : Rows) (s : Shape) (place to from : ℕ) : Type 0 where
  pub kind : Kind
  pub slot : IsSlot s place kind
  pub to_is : to ≡ follow_row rows kind
  pub source : ((k : Kind) × SlotIn (behind s place) k × (from ≡ first_row rows k))
      ⊎ ((can_end (behind s place) ≡ true) × (is_end s place ≡ false) × IsOutside rows s from)

-- the first token, and the second one after a slot
abbrev pub LeadFact : Rows → Shape → ℕ → ℕ → Type 0
LeadFact rows s row column =
    ((slice_get s.parts 0 ≡ Some (parts.Token column)) × (row ≡ first_row rows (kinds.Phylum s.phylum)))
    ⊎ (((k : Kind) × (slice_get s.parts 0 ≡ Some (parts.Slot k))) × (slice_get s.parts 1 ≡ Some (parts.Token column))
    × (row ≡ led_row rows s.phylum))

abbrev pub NoLink : ℕ → ℕ → Type 0
NoLink to from = ⊥

abbrev pub Either : (ℕ → ℕ → Type 0) → (ℕ → ℕ → Type 0) → ℕ → ℕ → Type 0
Either F G r c = F r c ⊎ G r c

-- for one of the numbers below n
abbrev pub Below : (ℕ → ℕ → ℕ → Type 0) → ℕ → ℕ → ℕ → Type 0
Below F n r c = (j : ℕ) × (j < n) × F j r c

-- the terminals that the shape gives at once
abbrev pub ShapeFact : Rows → Shape → ℕ → ℕ → Type 0
ShapeFact rows s = Either (LeadFact rows s) (Below (SlotFact rows s) (length s.parts))

-- the rows from which the shape makes others follow
abbrev pub ShapeLink : Rows → Shape → ℕ → ℕ → Type 0
ShapeLink rows s = Below (SlotLink rows s) (length s.parts)

-- ---- what a step adds

abbrev pub link_of : ℕ → ℕ → Link
link_of to from = record { to = to; from = from }

abbrev pub HasLink : Draft → ℕ → ℕ → Type 0
HasLink d to from = Contains d.links.items (link_of to from)

-- these cells and links, and no others
pub record Adds (F E : ℕ → ℕ → Type 0) (old new : Draft) : Type 0 where
  pub size : IsSameSize old.grid new.grid
  pub inside : AreLinks new.grid new.links.items
  pub only : (r c : ℕ) → IsCell old.grid r c → is_set new.grid r c ≡ true → (is_set old.grid r c ≡ true) ⊎ F r c
  pub keeps : (r c : ℕ) → IsCell old.grid r c → is_set old.grid r c ≡ true → is_set new.grid r c ≡ true
  pub facts : (r c : ℕ) → F r c → IsCell old.grid r c × (is_set new.grid r c ≡ true)
  pub only_links : (to from : ℕ) → HasLink new to from → HasLink old to from ⊎ E to from
  pub keeps_links : (to from : ℕ) → HasLink old to from → HasLink new to from
  pub links : (to from : ℕ) → E to from → HasLink new to from

-- the numbers of the tokens are columns, and the slots are of kinds that are there
abbrev pub IsPartOf : Rows → ℕ → Part → Type 0
IsPartOf rows width (parts.Token n) = n < width
IsPartOf rows width (parts.Slot k) = IsKind rows k

pub record IsShapeOf (rows : Rows) (width : ℕ) (s : Shape) : Type 0 where
  pub phylum : s.phylum < rows.phyla
  pub each : (n : ℕ) (p : Part) → slice_get s.parts n ≡ Some p → IsPartOf rows width p

-- a draft for these rows
pub record IsDraft (height width : ℕ) (d : Draft) : Type 0 where
  pub table : IsTable height width d.grid
  pub inside : AreLinks d.grid d.links.items

abbrev pub OneCell : ℕ → ℕ → ℕ → ℕ → Type 0
OneCell row column r c = (r ≡ row) × (c ≡ column)

-- ---- one shape among the others

abbrev pub AtShape : (Shape → ℕ → ℕ → Type 0) → List Shape → ℕ → ℕ → ℕ → Type 0
AtShape F shapes n r c = (s : Shape) × (slice_get shapes n ≡ Some s) × F s r c

abbrev pub BeginFact : ℕ → List Part → ℕ → ℕ → Type 0
BeginFact to ps r c = (r ≡ to) × TokenIn ps c

abbrev pub BeginLink : Rows → ℕ → List Part → ℕ → ℕ → Type 0
BeginLink rows to ps t f = (t ≡ to) × ((k : Kind) × SlotIn ps k × (f ≡ first_row rows k))

-- the only cell, if there is one
abbrev pub IsOnly : (ℕ → ℕ → Type 0) → Option Cell → Type 0
IsOnly F None = (r c : ℕ) → F r c → ⊥
IsOnly F (Some x) = (r c : ℕ) → F r c ↔ OneCell x.row x.column r c

-- each part is a token or a slot of a kind
abbrev pub ArePartsOf : Rows → ℕ → List Part → Type 0
ArePartsOf rows width ps = (n : ℕ) (p : Part) → slice_get ps n ≡ Some p → IsPartOf rows width p

-- ---- phyla and lists

abbrev pub If : Bool → ℕ → ℕ → ℕ → ℕ → Type 0
If holds row column r c = (holds ≡ true) × OneCell row column r c

-- a phylum's placeholder, where it has one, and its brackets
abbrev pub PhylumFact : Rows → ℕ → ℕ → ℕ → Bool → Bool → ℕ → ℕ → Type 0
PhylumFact rows opening closing p hole bracketed =
    Either (Either (If hole p (3 + p)) (If bracketed p opening)) (If bracketed (rows.kinds + p) closing)

abbrev pub PhylumFactAt : Rows → ℕ → ℕ → List Phylum → List Bool → ℕ → ℕ → ℕ → Type 0
PhylumFactAt rows opening closing phyla holes p r c = (k : Phylum) × (hole : Bool) × (slice_get phyla p ≡ Some k)
    × (slice_get holes p ≡ Some hole) × PhylumFact rows opening closing p hole k.bracketed r c

-- `...` begins an unfinished list, and the separator can follow its elements
abbrev pub ListFact : Rows → ℕ → ℕ → Bool → ℕ → ℕ → ℕ → Type 0
ListFact rows l element unfinished separator =
    Either (If unfinished (rows.phyla + l) (rows.phyla + 3)) (OneCell (rows.kinds + element) separator)

-- an element begins the list, and what can follow the list can follow its last element
abbrev pub ListLink : Rows → ℕ → ℕ → ℕ → ℕ → Type 0
ListLink rows l element =
    Either (OneCell (rows.phyla + l) element) (OneCell (rows.kinds + element) (rows.kinds + (rows.phyla + l)))

abbrev pub ListFactAt : Rows → List ListKind → List ℕ → ℕ → ℕ → ℕ → Type 0
ListFactAt rows lists separators l r c = (k : ListKind) × (separator : ℕ) × (slice_get lists l ≡ Some k)
    × (slice_get separators l ≡ Some separator) × ListFact rows l k.element k.unfinished separator r c

abbrev pub ListLinkAt : Rows → List ListKind → ℕ → ℕ → ℕ → Type 0
ListLinkAt rows lists l t f = (k : ListKind) × (slice_get lists l ≡ Some k) × ListLink rows l k.element t f

-- what is given at once and what follows, of a whole definition
pub record Parts : Type 0 where
  pub rows : Rows
  pub shapes : List Shape
  pub phyla : List Phylum
  pub lists : List ListKind
  pub holes : List Bool
  pub separators : List ℕ
  pub opening : ℕ
  pub closing : ℕ

-- all terminals that are given at once
abbrev pub AllFacts : Parts → ℕ → ℕ → Type 0
AllFacts a =
    Either (Either (Below (AtShape (ShapeFact a.rows) a.shapes) (length a.shapes))
    (Below (PhylumFactAt a.rows a.opening a.closing a.phyla a.holes) (length a.phyla)))
    (Below (ListFactAt a.rows a.lists a.separators) (length a.lists))

-- all links between rows
abbrev pub AllLinks : Parts → ℕ → ℕ → Type 0
AllLinks a = Either (Below (AtShape (ShapeLink a.rows) a.shapes) (length a.shapes))
    (Below (ListLinkAt a.rows a.lists) (length a.lists))

-- the least sets with these facts and links
pub data Grown (a : Parts) : ℕ → ℕ → Type 0 where
  at_once : {row column : ℕ} → AllFacts a row column → Grown a row column
  by_link : {column : ℕ} (to from : ℕ) → AllLinks a to from → Grown a from column → Grown a to column

-- the numbers of phyla, kinds and terminals are in range
pub record AreParts (width : ℕ) (a : Parts) : Type 0 where
  pub rows : IsRows a.rows
  pub sizes : AreRows (length a.phyla) (length a.lists) a.rows
  pub shapes : (n : ℕ) (s : Shape) → slice_get a.shapes n ≡ Some s → IsShapeOf a.rows width s
  pub elements : (l : ℕ) (k : ListKind) → slice_get a.lists l ≡ Some k → k.element < a.rows.phyla
  pub holes : length a.holes ≡ length a.phyla
  pub separators : length a.separators ≡ length a.lists
  pub each : (l n : ℕ) → slice_get a.separators l ≡ Some n → n < width
  pub opening : a.opening < width
  pub closing : a.closing < width
  pub terminals : a.rows.phyla + 4 ≤ width

abbrev pub parts_with : Rows → List Shape → List Phylum → List ListKind → List Bool → List ℕ → ℕ → ℕ → Parts
parts_with rows shapes phyla lists holes separators opening closing =
    record {
      rows = rows;
      shapes = shapes;
      phyla = phyla;
      lists = lists;
      holes = holes;
      separators = separators;
      opening = opening;
      closing = closing;
    }
