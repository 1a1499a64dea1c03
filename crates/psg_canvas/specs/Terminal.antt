-- A small terminal: what it shows after orders. Where real terminals differ, this one shows nothing that is known, so
-- what is proved of it holds of each of them that gives a cell the width of its first character.
use Rattle.std.specs.Prelude.{ℕ, ◌+◌, ◌*◌, ◌%◌, ◌==◌, ◌||◌, ◌&&◌, Bool, true, false, List}
use Rattle.std.specs.Prelude.{[], ◌∷◌, ◌++◌, Option, Some, None}
use Rattle.std.specs.Prelude.{length, map, take, drop, replicate, slice_get, nat_lt, not, if◌then◌else◌}
use Rattle.psg_canvas.specs.Cells.{Slot, blank, columns_of, is_cell, width_of_text}
use Rattle.psg_canvas.specs.declared.style.Style.{Style}
use Rattle.psg_canvas.specs.declared.style.Color.{Color}
use Rattle.psg_canvas.specs.declared.style.Color.TheVariants as colors

-- an order to a terminal
pub data Order : Type 0 where
  Move : ℕ → Order
  Erase : Order
  Restyle : Style → Order
  Put : List ℕ → Order
  Enter : Order
  Leave : Order
  ShowCursor : Order
  HideCursor : Order

-- A terminal of `rows` rows and `cols` columns. `shown` has its columns, row by row, each as far as it is known. `at`
-- is the column that the next cell is written to, and `style` its style, as far as they are known. While the other
-- screen is shown, `main` has the columns of the first one.
pub record Terminal : Type 0 where
  pub rows : ℕ
  pub cols : ℕ
  pub shown : List (Option Slot)
  pub at : Option ℕ
  pub style : Option Style
  pub cursor : Bool
  pub main : Option (List (Option Slot))

abbrev pub size_of : Terminal → ℕ
size_of t = t.rows * t.cols

-- nothing is known of what it shows
abbrev pub unknown : Terminal → List (Option Slot)
unknown t = replicate (size_of t) None

-- the column is no beginning of a cell, or isn't known
abbrev pub is_loose : Option Slot → Bool
is_loose None = true
is_loose (Some slot) = length slot.text == 0

-- where a cell is overwritten in part, what its other columns show isn't known
abbrev pub torn : List (Option Slot) → List (Option Slot)
torn [] = []
torn (slot ∷ slots) = if is_loose slot then None ∷ torn slots else slot ∷ slots

-- the columns after a cell is written to those from a place on; the place must not be inside a cell
abbrev pub is_inside : Option (Option Slot) → Bool
is_inside None = true
is_inside (Some None) = false
is_inside (Some (Some slot)) = length slot.text == 0

abbrev pub written : ℕ → Slot → List (Option Slot) → List (Option Slot)
written place cell shown =
    take place shown ++ map Some (columns_of cell) ++ torn (drop (place + width_of_text cell.text) shown)

-- A cell is written in its row. Where the text is no cell, goes past the row's end, or its place or style isn't known,
-- nothing is known.
-- After the last column of a row the place of the next cell isn't known.
abbrev pub goes_past : Terminal → ℕ → List ℕ → Bool
goes_past t place text =
    not (is_cell text) || nat_lt t.cols (place % t.cols + width_of_text text)
    || is_inside (slice_get t.shown place)

abbrev pub place_after : Terminal → ℕ → List ℕ → Option ℕ
place_after t place text =
    if nat_lt (place % t.cols + width_of_text text) t.cols then Some (place + width_of_text text) else None

abbrev pub put_by : Terminal → List ℕ → Option ℕ → Option Style → Terminal
put_by t text (Some place) (Some style) =
    if goes_past t place text then record t { shown = unknown t; at = None } else record t {
      shown = written place (record { text = text; style = style }) t.shown;
      at = place_after t place text;
    }
put_by t text (Some place) None = record t { shown = unknown t; at = None }
put_by t text None style = record t { shown = unknown t; at = None }

-- All columns are empty, where nothing is special in the style of now. In another style real terminals differ.
abbrev pub is_own : Color → Bool
is_own colors.Own = true
is_own _ = false

abbrev pub is_plain : Style → Bool
is_plain style = is_own style.color && not style.bold && not style.underlined && not style.reversed

abbrev pub erased_by : Terminal → Option Style → List (Option Slot)
erased_by t (Some style) = if is_plain style then replicate (size_of t) (Some blank) else unknown t
erased_by t None = unknown t

-- the other screen, where nothing is known; where it is shown already, some terminals erase it
abbrev pub entered_by : Terminal → Option (List (Option Slot)) → Terminal
entered_by t (Some main) = record t { shown = unknown t; at = None }
entered_by t None = record t { shown = unknown t; at = None; main = Some t.shown }

-- the first screen as it was, with a style that some terminals keep and others don't
abbrev pub left_by : Terminal → Option (List (Option Slot)) → Terminal
left_by t (Some main) = record t { shown = main; at = None; style = None; main = None }
left_by t None = record t { at = None; style = None }

abbrev pub obeyed : Terminal → Order → Terminal
obeyed t (Move place) = record t { at = if nat_lt place (size_of t) then Some place else None }
obeyed t Erase = record t { shown = erased_by t t.style }
obeyed t (Restyle style) = record t { style = Some style }
obeyed t (Put text) = put_by t text t.at t.style
obeyed t Enter = entered_by t t.main
obeyed t Leave = left_by t t.main
obeyed t ShowCursor = record t { cursor = true }
obeyed t HideCursor = record t { cursor = false }

-- the terminal after orders, the first one first
abbrev pub screen_after : Terminal → List Order → Terminal
screen_after t [] = t
screen_after t (order ∷ orders) = screen_after (obeyed t order) orders
