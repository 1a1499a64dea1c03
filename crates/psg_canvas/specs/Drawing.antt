-- What bytes make of a screen.
use Rattle.std.specs.Prelude.{ℕ, ◌+◌, ◌%◌, ◌≡◌, ◌==◌, Bool, true, false, List, [], ◌∷◌}
use Rattle.std.specs.Prelude.{◌++◌, Option, Some, None, map, if◌then◌else◌}
use Rattle.psg_canvas.specs.Cells.{Slot, Picture, width_of_text}
use Rattle.psg_canvas.specs.declared.style.Style.{Style}
use Rattle.psg_canvas.specs.Terminal.{Order, Move, Erase, Restyle, Put, ShowCursor, HideCursor, Terminal, screen_after}
use Rattle.psg_canvas.specs.Orders.{bytes_of_all}

-- the terminal has the size of the picture
pub record IsOfSize (p : Picture) (t : Terminal) : Type 0 where
  pub rows : t.rows ≡ p.rows
  pub cols : t.cols ≡ p.cols

-- the cursor is shown at its place, or is not shown
abbrev pub ShowsCursor : Option ℕ → Terminal → Type 0
ShowsCursor None t = t.cursor ≡ false
ShowsCursor (Some place) t = (t.cursor ≡ true) × (t.at ≡ Some place)

-- the terminal shows the picture
pub record Shows (p : Picture) (t : Terminal) : Type 0 where
  pub size : IsOfSize p t
  pub columns : t.shown ≡ map Some p.slots
  pub cursor : ShowsCursor p.cursor t

-- the terminal shows the columns of the old picture, if there is one of its size; else it may show anything
abbrev pub MayShow : Option Picture → Terminal → Type 0
MayShow None t = Unit {0}
MayShow (Some old) t = IsOfSize old t → t.shown ≡ map Some old.slots

-- an old picture of the size of the new one is known, so that nothing is erased
abbrev pub Erases : List Order → Type 0
Erases [] = ⊥
Erases (Erase ∷ orders) = Unit {0}
Erases (order ∷ orders) = Erases orders

abbrev pub IsKept : Option Picture → Picture → Type 0
IsKept None new = ⊥
IsKept (Some old) new = (old.rows ≡ new.rows) × (old.cols ≡ new.cols)

-- The bytes are those of orders after which each terminal of the new picture's size that shows the old one shows the
-- new one. The first screen, where another one is shown, stays as it is.
pub record Draws (old : Option Picture) (new : Picture) (bytes : List ℕ) : Type 0 where
  pub orders : List Order
  pub spelled : bytes ≡ bytes_of_all new.cols orders
  pub drawn : (t : Terminal) → IsOfSize new t → MayShow old t → Shows new (screen_after t orders)
  pub main : (t : Terminal) → (screen_after t orders).main ≡ t.main
  pub kept : IsKept old new → Erases orders → ⊥

-- ---- the orders of a pen, which knows the place and the style of the next cell, or does not

abbrev pub is_at : ℕ → Option ℕ → Bool
is_at place None = false
is_at place (Some at) = at == place

abbrev pub moves : Option ℕ → ℕ → List Order
moves at place = if is_at place at then [] else Move place ∷ []

-- the pen knows what is true of the terminal
abbrev pub KnowsPlace : Option ℕ → Terminal → Type 0
KnowsPlace None t = Unit {0}
KnowsPlace (Some place) t = t.at ≡ Some place

abbrev pub KnowsStyle : Option Style → Terminal → Type 0
KnowsStyle None t = Unit {0}
KnowsStyle (Some style) t = t.style ≡ Some style

-- A style is set where it is not set already.
abbrev pub Restyles : Option Style → Style → List Order → Type 0
Restyles old style [] = old ≡ Some style
Restyles old style (order ∷ orders) = (order ≡ Restyle style) × (orders ≡ [])

-- the place of the next cell after one at a place, which is not known at the end of a row
abbrev pub place_past : ℕ → ℕ → List ℕ → Option ℕ
place_past cols place text =
    if (place + width_of_text text) % cols == 0 then None else Some (place + width_of_text text)

-- a cell at a place
pub record Puts (old : Option ℕ) (style : Option Style) (place : ℕ) (cell : Slot) (orders : List Order) : Type 0 where
  pub styles : List Order
  pub styled : Restyles style cell.style styles
  pub whole : orders ≡ moves old place ++ styles ++ Put cell.text ∷ []

abbrev pub cursor_orders : Option ℕ → Option ℕ → List Order
cursor_orders at None = HideCursor ∷ []
cursor_orders at (Some place) = moves at place ++ ShowCursor ∷ []
