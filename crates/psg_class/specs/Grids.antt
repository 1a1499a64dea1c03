-- Tables of rows and columns of truth values, and what follows from one along links between rows.
use Rattle.std.specs.Prelude.{ℕ, zero, suc, ◌≡◌, ◌⊎◌, ◌↔◌, ◌+◌, ◌*◌, ◌<◌, ◌==◌, ◌&&◌, ◌||◌, Bool, true}
use Rattle.std.specs.Prelude.{false, cond, List, [], ◌∷◌, length, Contains}
use Rattle.std.specs.List.{list_any, AllByRecursion}
use Rattle.std.proofs.Common.{get_or}
use Rattle.psg_class.specs.declared.grid.Grid.{Grid}
use Rattle.psg_class.specs.declared.grid.Link.{Link}
use Rattle.psg_class.specs.declared.grid.Cell.{Cell}

-- the rows are one after the other
abbrev pub IsGrid : Grid → Type 0
IsGrid g = length g.cells.items ≡ g.height * g.width

-- whether the cell is set
abbrev pub is_set : Grid → ℕ → ℕ → Bool
is_set g row column = get_or g.cells.items (row * g.width + column) false

-- the table has this size
pub record IsTable (height width : ℕ) (g : Grid) : Type 0 where
  pub height_is : g.height ≡ height
  pub width_is : g.width ≡ width
  pub grid : IsGrid g

-- the cell is one of the table
abbrev pub IsCell : Grid → ℕ → ℕ → Type 0
IsCell g row column = (row < g.height) × (column < g.width)

pub record IsSameSize (old new : Grid) : Type 0 where
  pub height : new.height ≡ old.height
  pub width : new.width ≡ old.width
  pub grid : IsGrid new

-- how many cells are not set
abbrev pub unset : List Bool → ℕ
unset [] = 0
unset (b ∷ bs) = cond b 0 1 + unset bs

-- all cells that were set still are
abbrev pub Keeps : Grid → Grid → Type 0
Keeps old new = (row column : ℕ) → IsCell old row column → is_set old row column ≡ true → is_set new row column ≡ true

-- the rows of the links are those of the table
abbrev pub AreLinks : Grid → List Link → Type 0
AreLinks g links = (l : Link) → Contains links l → (l.to < g.height) × (l.from < g.height)

-- what is set in one row follows in the other
abbrev pub Follows : Grid → Link → Type 0
Follows g l = (column : ℕ) → column < g.width → is_set g l.from column ≡ true → is_set g l.to column ≡ true

-- what follows from a table along links
pub data Derives (start : Grid) (links : List Link) : ℕ → ℕ → Type 0 where
  given : {row column : ℕ} → is_set start row column ≡ true → Derives start links row column
  along : {column : ℕ} (l : Link) → Contains links l → Derives start links l.from column
      → Derives start links l.to column

-- all that is set follows from the start
abbrev pub IsSound : Grid → List Link → Grid → Type 0
IsSound start links g =
    (row column : ℕ) → IsCell g row column → is_set g row column ≡ true → Derives start links row column

-- more is set than before, or nothing has changed
pub record IsStep (links : List Link) (old new : Grid) (more : Bool) : Type 0 where
  pub size : IsSameSize old new
  pub keeps : Keeps old new
  pub right : (start : Grid) → IsSound start links old → IsSound start links new
  pub fewer : more ≡ true → unset new.cells.items < unset old.cells.items
  pub same : more ≡ false → new ≡ old

-- ---- links by the rows that they begin in

-- the row in which the link at a place begins
abbrev pub begins_in : List Link → ℕ → ℕ
begins_in links place = (get_or links place (record { to = 0; from = 0 })).from

-- the places below a bound of the links that begin in the row, the last one first
abbrev pub places_from : List Link → ℕ → ℕ → List ℕ
places_from links row zero = []
places_from links row (suc place) =
    cond (begins_in links place == row) (place ∷ places_from links row place) (places_from links row place)

-- The numbers lead from a place to these places in their order, and after the last one to the stop.
abbrev pub LeadTo : List ℕ → ℕ → ℕ → List ℕ → Type 0
LeadTo next stop place [] = place ≡ stop
LeadTo next stop place (first ∷ rest) = (place ≡ first) × LeadTo next stop (get_or next first 0) rest

-- Each row leads to all links that begin in it and to no others, and a place that is no link's ends its way.
abbrev pub AreChains : List Link → List ℕ → List ℕ → Type 0
AreChains links first next = (row : ℕ) → row < length first
    → LeadTo next (length links) (get_or first row 0) (places_from links row (length links))

-- ---- tables of given cells

abbrev pub is_at : ℕ → ℕ → Cell → Bool
is_at row column x = (x.row == row) && (x.column == column)

-- the cell is among those given
abbrev pub once : ℕ → ℕ → List Cell → Bool
once row column cells = list_any (is_at row column) cells

-- the cell is given twice
abbrev pub twice : ℕ → ℕ → List Cell → Bool
twice row column [] = false
twice row column (x ∷ xs) = (is_at row column x && once row column xs) || twice row column xs

-- the list has the cells of the table that are set, and no others
abbrev pub AreSetCells : Grid → List Cell → Type 0
AreSetCells g cells = (row column : ℕ) → (once row column cells ≡ true)
    ↔ (IsCell g row column × (is_set g row column ≡ true))

-- beside those that were there the list has the set cells of the row that are in columns below a bound
pub record HasSetBelow (g : Grid) (row bound : ℕ) (old new : List Cell) : Type 0 where
  pub exact : (r c : ℕ) → (once r c new ≡ true)
      ↔ ((once r c old ≡ true) ⊎ ((r ≡ row) × (c < bound) × (is_set g r c ≡ true)))

-- each cell is one of a table of this size
abbrev pub AreInside : ℕ → ℕ → List Cell → Type 0
AreInside height width cells = AllByRecursion (λ x. (x.row < height) × (x.column < width)) cells
