-- What the editor on the screen keeps beside the program: the face.
use Rattle.std.specs.Prelude.{ℕ, ◌≡◌, ◌++◌, Bool, true, false, List, [], ◌∷◌, Option, Some, None, eqb}
use Rattle.std.specs.Prelude.{encode_utf8_all, slice_get}
use Rattle.std.specs.List.{filter, starts_with}
use Rattle.psg_terms.specs.Names.{Name}
use Rattle.psg_grammar.specs.Fragments.{Fragment}
use Rattle.psg_grammar.specs.Paths.{Path}
use Rattle.psg_keys.specs.Lines.{TypedLines, at_first_line, with_put}
use Rattle.psg_face.specs.Moves.{leads}
use Rattle.psg_keymap.specs.declared.face.Mode.{Mode}
use Rattle.psg_keymap.specs.declared.face.Mode.TheVariants as modes

-- what is wrong at a place
pub data Why : Type 0 where
  of_node : Why
  of_element : Why
  of_end : Why
  of_name : (name : Name) → Why
  -- its parts do not fit with each other
  of_parts : Why

-- what the last line of the screen says
pub data Message : Type 0 where
  quiet : Message
  -- the last command was refused, with this number
  refused : (number : ℕ) → Message
  -- a letter that is no key, or bytes that are none
  no_key : Message
  unknown : (bytes : List ℕ) → Message
  -- the key needed memory that is not there, and changed nothing
  no_memory : Message
  -- the node is kept as `it`
  kept : Message
  written : Message
  not_written : Message
  unproved : Message
  nothing_wrong : Message
  wrong : Why → Message

-- `chosen` leads to the chosen node, or to the `...` of an unfinished list. `lines` is the line of text with the
-- earlier ones; it is empty where none is open. While an operator is chosen, `offers` are those that fit, `pick` is the
-- number of the one that is picked among those that begin with the line, and `target` and `place` say where it is put:
-- at a placeholder, or before a place of a list. `operator` is the one that was picked, and `args` are its names and
-- literals that were typed already, `leaf` of them. `top` and `left` are the first line and column of the program that
-- are shown, and `page` and `page_top` the page that is shown, with its first line.
pub record Face : Type 0 where
  pub rows : ℕ
  pub cols : ℕ
  pub chosen : Path
  pub mode : Mode
  pub lines : TypedLines
  pub offers : List (List ℕ)
  pub pick : ℕ
  pub target : Path
  pub place : Option ℕ
  pub operator : Option Name
  pub args : List ℕ
  pub leaf : ℕ
  pub page : List (List ℕ)
  pub page_top : ℕ
  pub top : ℕ
  pub left : ℕ
  pub message : Message
  pub ended : Bool

-- the text of the line
abbrev pub typed_text : Face → List ℕ
typed_text f = encode_utf8_all (f.lines.line.before ++ f.lines.line.after)

-- the offers that begin with the line
abbrev pub shown_offers : Face → List (List ℕ)
shown_offers f = filter (λ offer. starts_with eqb offer (typed_text f)) f.offers

abbrev pub picked_offer : Face → Option (List ℕ)
picked_offer f = slice_get (shown_offers f) f.pick

-- the path of a place of a list, or of the node itself
abbrev pub with_place : Path → Option ℕ → Path
with_place path None = path
with_place path (Some place) = path ++ place ∷ []

-- the chosen path leads to a node of the program, or to the `...` of an unfinished list
abbrev pub IsFace : Fragment → Face → Type 0
IsFace tree f = leads tree f.chosen ≡ true

-- another mode with this line
abbrev pub with_line : Mode → List ℕ → Face → Face
with_line mode text f = record f { mode = mode; lines = with_put text f.lines; message = quiet }

abbrev pub in_mode : Mode → Face → Face
in_mode mode f = with_line mode [] f

-- the face with which an editor begins on a screen of that many rows and columns
abbrev pub at_first : ℕ → ℕ → Face
at_first rows cols = record {
  rows = rows;
  cols = cols;
  chosen = [];
  mode = modes.Browsing;
  lines = at_first_line;
  offers = [];
  pick = 0;
  target = [];
  place = None;
  operator = None;
  args = [];
  leaf = 0;
  page = [];
  page_top = 0;
  top = 0;
  left = 0;
  message = quiet;
  ended = false;
}
