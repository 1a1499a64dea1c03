-- The bytes of orders.
use Rattle.std.specs.Prelude.{ℕ, ◌+◌, ◌/◌, ◌%◌, List, [], ◌∷◌, ◌++◌}
use Rattle.std.specs.Prelude.{flat_map, decimal, encode_utf8_all, codes, if◌then◌else◌}
use Rattle.psg_canvas.specs.Cells.{plain}
use Rattle.psg_canvas.specs.Terminal.{Order, Move, Erase, Restyle, Put, Enter, Leave, ShowCursor, HideCursor}
use Rattle.psg_canvas.specs.declared.style.Style.{Style}
use Rattle.psg_canvas.specs.declared.style.Color.{Color}
use Rattle.psg_canvas.specs.declared.style.Color.TheVariants as colors

-- the code of a color
abbrev pub color_code : Color → List ℕ
color_code colors.Own = []
color_code colors.Red = codes ";31"
color_code colors.Green = codes ";32"
color_code colors.Yellow = codes ";33"
color_code colors.Blue = codes ";34"
color_code colors.Magenta = codes ";35"
color_code colors.Cyan = codes ";36"

abbrev pub style_code : Style → List ℕ
style_code style =
    (if style.bold then codes ";1" else []) ++ (if style.underlined then codes ";4" else [])
    ++ (if style.reversed then codes ";7" else []) ++ color_code style.color

-- `ESC [`
abbrev pub introduced : List ℕ → List ℕ
introduced body = 27 ∷ 91 ∷ body

-- `ESC [ ROW ; COL H`
abbrev pub moved_to : ℕ → ℕ → List ℕ
moved_to row col = introduced (decimal row ++ (59 ∷ (decimal col ++ (72 ∷ []))))

-- the bytes of an order on a screen of that many columns
abbrev pub bytes_of : ℕ → Order → List ℕ
bytes_of cols (Move place) = moved_to (place / cols + 1) (place % cols + 1)
bytes_of cols Erase = introduced (codes "2J")
bytes_of cols (Restyle style) = introduced (48 ∷ style_code style ++ 109 ∷ [])
bytes_of cols (Put text) = encode_utf8_all text
bytes_of cols Enter = introduced (codes "?1049h")
bytes_of cols Leave = introduced (codes "?1049l")
bytes_of cols ShowCursor = introduced (codes "?25h")
bytes_of cols HideCursor = introduced (codes "?25l")

abbrev pub bytes_of_all : ℕ → List Order → List ℕ
bytes_of_all cols orders = flat_map (bytes_of cols) orders

-- what is asked of a terminal when a program begins to draw, and when it ends
abbrev pub entering : List Order
entering = Enter ∷ HideCursor ∷ []

abbrev pub leaving : List Order
leaving = Restyle plain ∷ ShowCursor ∷ Leave ∷ []

-- a pasted text is put between marks, or is not
abbrev pub paste_marked : List ℕ
paste_marked = introduced (codes "?2004h")

abbrev pub paste_unmarked : List ℕ
paste_unmarked = introduced (codes "?2004l")
