-- What the orders of a part of the drawing make of a terminal; for contracts inside this crate.
use Rattle.std.specs.Prelude.{ℕ, ◌≡◌, List, ◌++◌, Option, Some, map, length}
use Rattle.psg_canvas.specs.Cells.{Slot, Picture}
use Rattle.psg_canvas.specs.declared.style.Style.{Style}
use Rattle.psg_canvas.specs.Terminal.{Order, Terminal, size_of, screen_after}
use Rattle.psg_canvas.specs.Orders.{bytes_of_all}
use Rattle.psg_canvas.specs.Drawing.{IsOfSize, MayShow, Erases, KnowsPlace, KnowsStyle}

-- what a pen knows of a terminal
pub record IsKnown (at : Option ℕ) (style : Option Style) (t : Terminal) : Type 0 where
  pub place : KnowsPlace at t
  pub look : KnowsStyle style t

-- a terminal of rows of `cols` columns, that has that many columns in all
pub record HasColumns (cols count : ℕ) (t : Terminal) : Type 0 where
  pub wide : t.cols ≡ cols
  pub whole : size_of t ≡ count

-- it shows these columns, and the pen knows it
pub record ShowsOld (cols : ℕ) (old : List Slot) (at : Option ℕ) (style : Option Style) (t : Terminal) : Type 0 where
  pub size : HasColumns cols (length old) t
  pub shown : t.shown ≡ map Some old
  pub known : IsKnown at style t

-- it is of the picture's size, and shows the old picture, if there is one of its size
pub record AwaitsPicture (old : Option Picture) (new : Picture) (t : Terminal) : Type 0 where
  pub size : IsOfSize new t
  pub may : MayShow old t

-- it shows the new columns, and the pen knows it
pub record ShowsNew (t now : Terminal) (new : List Slot) (at : Option ℕ) (style : Option Style) : Type 0 where
  pub rows : now.rows ≡ t.rows
  pub cols : now.cols ≡ t.cols
  pub shown : now.shown ≡ map Some new
  pub known : IsKnown at style now

-- the orders leave the first screen as it is, where another one is shown
abbrev pub AreCalm : List Order → Type 0
AreCalm orders = (t : Terminal) → (screen_after t orders).main ≡ t.main

-- The text got the bytes of orders after which each terminal of which P holds shows the new columns. Where K holds,
-- none of them is Erase.
pub record Turns (K : Type 0) (P : Terminal → Type 0) (cols : ℕ) (new : List Slot) (old_text text : List ℕ)
    (at : Option ℕ) (style : Option Style) : Type 0 where
  pub orders : List Order
  pub spelled : text ≡ old_text ++ bytes_of_all cols orders
  pub calm : AreCalm orders
  pub kept : K → Erases orders → ⊥
  pub turned : (t : Terminal) → P t → ShowsNew t (screen_after t orders) new at style
