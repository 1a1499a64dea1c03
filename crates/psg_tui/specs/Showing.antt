-- What the calls between two keys leave, and what a picture shows.
use Rattle.std.specs.Prelude.{ℕ, ◌≡◌, ◌-◌, List, [], Option, Some, None, option_map, unwrap_or}
use Rattle.psg_grammar.specs.declared.types.Definition.{Definition}
use Rattle.psg_grammar.specs.Fragments.{Fragment}
use Rattle.psg_grammar.specs.Legal.{IsCompletable}
use Rattle.psg_grammar.specs.Paths.{Path}
use Rattle.psg_canvas.specs.Cells.{Picture}
use Rattle.psg_keys.specs.Lines.{Typed}
use Rattle.psg_screen.specs.declared.View.{View}
use Rattle.psg_unparse.specs.Layout.{text_of}
use Rattle.psg_unparse.specs.Spans.{printed_of}
use Rattle.psg_keymap.specs.declared.face.Mode.{Mode}
use Rattle.psg_keymap.specs.declared.face.Mode.TheVariants as modes
use Rattle.psg_keymap.specs.Faces.{Face}
use Rattle.psg_keymap.specs.Ranges.{both, bytes_at}
use Rattle.psg_picture.specs.declared.around.Around.{Around}
use Rattle.psg_picture.specs.declared.marks.Marks.{Marks}
use Rattle.psg_picture.specs.Marked.{page_rows, program_rows}
use Rattle.psg_picture.specs.Pictures.{picture_of}
use Rattle.psg_picture.specs.Scrolling.{scrolled_of}

-- the face, wherever the window is
abbrev pub unscrolled : Face → Face
unscrolled f = record f { top = 0; left = 0 }

-- the window of the face on the program
abbrev pub view_of : Face → View
view_of f = record { top = f.top; left = f.left; rows = f.rows; cols = f.cols }

abbrev pub chosen_bytes : Definition → Fragment → Path → ℕ × ℕ
chosen_bytes def f path = unwrap_or (option_map both (bytes_at f (printed_of def f).spans path)) (0, 0)

-- the line of text, in the modes in which one is open
abbrev pub line_in : Mode → Typed → Option Typed
line_in modes.Typing line = Some line
line_in modes.Choosing line = Some line
line_in modes.Naming line = Some line
line_in modes.Saving line = Some line
line_in _ line = None

-- the line of text, where one is open
abbrev pub open_line : Face → Option Typed
open_line f = line_in f.mode f.lines.line

-- the picture of a page, and of a program, with these words around it
abbrev pub paged_of : Face → Around → Picture
paged_of f around =
    picture_of (view_of f) around (page_rows f.cols f.page f.page_top (f.rows - 5)) (open_line f)

abbrev pub programmed_of : Face → Around → List ℕ → Marks → Picture
programmed_of f around text marks =
    picture_of (view_of f) around (program_rows (view_of f) (f.rows - 5) text marks) (open_line f)

-- The picture of a program and a face. The chosen place is marked. A program without a completion has wrong places that
-- are marked, another one has none. In front of the program's rows there may be those of a page; else the face is
-- scrolled from `old`, so that the chosen place is shown. The words of the rows around the program and the colors of
-- its text are not stated here.
pub record Shows (def : Definition) (f : Fragment) (old new : Face) (p : Picture) : Type 0 where
  pub around : Around
  pub marks : Marks
  pub chosen : marks.chosen ≡ chosen_bytes def f new.chosen
  pub right : IsCompletable def f → marks.wrong.items ≡ []
  pub page : new.mode ≡ modes.Paging
      → p ≡ paged_of new around
  pub program : (new.mode ≡ modes.Paging → ⊥)
      → p ≡ programmed_of new around (text_of def f) marks
  pub scrolled : (new.mode ≡ modes.Paging → ⊥)
      → view_of new ≡ scrolled_of (view_of old) (text_of def f) (chosen_bytes def f new.chosen)
