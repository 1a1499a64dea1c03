-- The first thing that fails, and its first token, by numbers.
use Rattle.std.specs.Prelude.{ℕ, ◌≡◌, ◌+◌, ◌<◌, ◌==◌, ◌&&◌, ◌||◌, Bool, true, false, cond, List}
use Rattle.std.specs.Prelude.{[], ◌∷◌, ◌++◌, Option, Some, None, MatchOption, slice_get}
use Rattle.psg_terms.specs.Names.{Name}
use Rattle.psg_grammar.specs.declared.types.Phylum.{Phylum}
use Rattle.psg_class.specs.Refusal.{IsFirst}
use Rattle.psg_class.specs.Numbers.{is_number_before}
use Rattle.psg_class.specs.Forms.{cell_of, first_part}
use Rattle.psg_class.specs.Shapes.{listed}
use Rattle.psg_class.specs.Grids.{is_set}
use Rattle.psg_class.specs.declared.grid.Cell.{Cell}
use Rattle.psg_class.specs.declared.grid.Grid.{Grid}
use Rattle.psg_class.specs.declared.sources.Rows.{Rows}
use Rattle.psg_class.specs.Class.{Never}
use Rattle.psg_class.specs.declared.shape.Part.{Part}
use Rattle.psg_class.specs.declared.shape.Part.TheVariants as parts
use Rattle.psg_class.specs.declared.shape.Shape.{Shape}

-- no number that is set is before this one
abbrev pub IsLeast : ℕ → List Name → (ℕ → Bool) → ℕ → ℕ → Type 0
IsLeast base words set width k =
    (k < width) × (set k ≡ true) × ((m : ℕ) → m < width → set m ≡ true → is_number_before base words m k ≡ false)

-- the number that is set and is named first, or none where none is set
abbrev pub IsLeastIf : ℕ → List Name → (ℕ → Bool) → ℕ → Option ℕ → Type 0
IsLeastIf base words set width o = MatchOption o ((m : ℕ) → m < width → set m ≡ false) (IsLeast base words set width)

-- the one of both that is named first; k where there is no other
abbrev pub first_number : ℕ → List Name → Option ℕ → ℕ → ℕ
first_number base words None k = k
first_number base words (Some m) k = cond (is_number_before base words k m) k m

-- some number of the row is set
abbrev pub HasSome : (ℕ → ℕ → Bool) → ℕ → ℕ → Type 0
HasSome set width row = (column : ℕ) × (column < width) × (set row column ≡ true)

-- the first row in which a number is set, and the one of these that is named first; none where none is set
abbrev pub IsFirstFailing : ℕ → List Name → ℕ → ℕ → (ℕ → ℕ → Bool) → Option (ℕ × ℕ) → Type 0
IsFirstFailing base words height width set o =
    MatchOption o ((row : ℕ) → row < height → HasSome set width row → ⊥)
    (λ x. (x.0 < height) × IsFirst (HasSome set width) x.0 × IsLeast base words (set x.0) width x.1)

-- ---- cells of first tokens

abbrev pub token_cell : ℕ → Option Part → Option Cell
token_cell row (Some (parts.Token n)) = Some (cell_of row n)
token_cell row _ = None

-- the phylum and the first token, where the operator begins with a token
abbrev pub lead_cell : Shape → Option Cell
lead_cell s = token_cell s.phylum (first_part s)

-- the second token, where the first part is a slot
abbrev pub behind_slot : ℕ → Option Part → Option Part → Option Cell
behind_slot row (Some (parts.Slot k)) second = token_cell row second
behind_slot row _ second = None

-- the phylum and the second token, where the operator begins with a slot
abbrev pub led_cell : Shape → Option Cell
led_cell s = behind_slot s.phylum (first_part s) (slice_get s.parts 1)

-- the cells of the shapes that have one, in order
abbrev pub cells_from : (Shape → Option Cell) → List Shape → List Cell
cells_from f [] = []
cells_from f (s ∷ rest) = listed (f s) ++ cells_from f rest

abbrev pub bracket_cell : ℕ → ℕ → Bool → Option Cell
bracket_cell p opening true = Some (cell_of p opening)
bracket_cell p opening false = None

-- the phylum and the opening bracket, for each bracketed phylum from p on
abbrev pub bracket_cells : ℕ → ℕ → List Phylum → List Cell
bracket_cells opening p [] = []
bracket_cells opening p (k ∷ rest) = listed (bracket_cell p opening k.bracketed) ++ bracket_cells opening (p + 1) rest

-- ---- led operators and ends of lists

-- the second token of the led operator can follow its phylum
abbrev pub LedBehind : Rows → Grid → Shape → ℕ → Type 0
LedBehind rows sets s column =
    (led_cell s ≡ Some (cell_of s.phylum column)) × (is_set sets (rows.kinds + s.phylum) column ≡ true)

pub record LedClash (rows : Rows) (sets : Grid) (shapes : List Shape) (n column : ℕ) : Type 0 where
  pub shape : Shape
  pub at : slice_get shapes n ≡ Some shape
  pub behind : LedBehind rows sets shape column

-- the operator n is led, and its second token can follow its phylum
abbrev pub LedClashes : Rows → Grid → List Shape → ℕ → Type 0
LedClashes rows sets shapes n = (column : ℕ) × LedClash rows sets shapes n column

-- the first such operator with its token, or none where there is none
abbrev pub IsFirstLed : Rows → Grid → List Shape → Option (ℕ × ℕ) → Type 0
IsFirstLed rows sets shapes o = MatchOption o (Never (LedClashes rows sets shapes))
    (λ x. IsFirst (LedClashes rows sets shapes) x.0 × LedClash rows sets shapes x.0 x.1)

abbrev pub is_number : Option ℕ → ℕ → Bool
is_number None column = false
is_number (Some n) column = column == n

-- the terminal can follow the list, and begins it or separates its elements
abbrev pub ends : Rows → Grid → List ℕ → ℕ → ℕ → Bool
ends rows sets separators l column =
    is_set sets (rows.kinds + (rows.phyla + l)) column
    && (is_set sets (rows.phyla + l) column || is_number (slice_get separators l) column)
