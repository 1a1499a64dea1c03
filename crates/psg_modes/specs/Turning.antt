-- What a key makes of the face, where it is no command and asks nothing.
use Rattle.std.specs.Prelude.{ℕ, ◌+◌, ◌-◌, ◌^◌, ◌==◌, ◌&&◌, ◌||◌, Bool, true, false, cond, List, [], ◌∷◌, ◌++◌}
use Rattle.std.specs.Prelude.{Option, Some, None, chars, encode_utf8, length, max, min, nat_le, nat_lt, not}
use Rattle.std.specs.Prelude.{slice_get, take}
use Rattle.std.specs.List.{count_by}
use Rattle.psg_terms.specs.Names.{Name}
use Rattle.psg_grammar.specs.declared.types.Definition.{Definition}
use Rattle.psg_grammar.specs.Fragments.{Fragment}
use Rattle.psg_grammar.specs.Paths.{Path, node_at}
use Rattle.psg_keys.specs.declared.key.Key.{Key}
use Rattle.psg_keys.specs.declared.key.Key.TheVariants as keys
use Rattle.psg_keys.specs.Lines.{TypedLines, kept_after, lines_after}
use Rattle.psg_unparse.specs.declared.spans.Printed.{Printed}
use Rattle.psg_unparse.specs.declared.spans.Span.{Span}
use Rattle.psg_unparse.specs.Spans.{printed_of}
use Rattle.psg_face.specs.Moves.{parent_of, to_child, to_next, to_previous}
use Rattle.psg_face.specs.Opens.{next_open, previous_open}
use Rattle.psg_keymap.specs.declared.face.Mode.{Mode}
use Rattle.psg_keymap.specs.declared.face.Mode.TheVariants as modes
use Rattle.psg_keymap.specs.declared.leaves.Leaf.{Leaf}
use Rattle.psg_keymap.specs.declared.spots.Spot.{Spot}
use Rattle.psg_keymap.specs.Faces.{Face, Message, in_mode, no_key, picked_offer, quiet, shown_offers, unknown}
use Rattle.psg_keymap.specs.Faces.{with_line}
use Rattle.psg_keymap.specs.Leaves.{args_with, leaves_of, spaced}
use Rattle.psg_keymap.specs.Ranges.{Bytes, span_at}
use Rattle.psg_places.specs.Places.{is_hole}

-- ---- modes

abbrev pub choosing : Path → Face → Face
choosing path f = record f { chosen = path; message = quiet }

abbrev pub saying : Message → Face → Face
saying message f = record f { message = message }

abbrev pub paging : List (List ℕ) → Face → Face
paging page f = record f { mode = modes.Paging; page = page; page_top = 0; message = quiet }

-- ---- arrows, Tab, Home

abbrev pub led : Fragment → Path → Key → Option Path
led tree path keys.Up = Some (parent_of path)
led tree path keys.Down = Some (to_child tree path)
led tree path keys.Left = Some (to_previous path)
led tree path keys.Right = Some (to_next tree path)
led tree path keys.Tab = Some (next_open tree path)
led tree path keys.BackTab = Some (previous_open tree path)
led tree path keys.Home = Some []
led tree path _ = None

abbrev pub is_page_key : Key → Bool
is_page_key keys.PageUp = true
is_page_key keys.PageDown = true
is_page_key _ = false

-- ---- Page Up and Page Down

abbrev pub is_feed : ℕ → Bool
is_feed b = b == 10

-- the line of the chosen node's first byte; where it has no bytes of its own, the first line that is shown
abbrev pub line_at : List ℕ → ℕ → Option Bytes → ℕ
line_at text top None = top
line_at text top (Some b) = count_by is_feed (take b.start text)

abbrev pub page_from : Printed → Face → ℕ
page_from p f = line_at p.text f.top (span_at p.spans f.chosen)

-- a screen, except one line that is shown in both windows
abbrev pub page_step : Face → ℕ
page_step f = max (f.rows - 6) 1

abbrev pub page_line : Printed → Face → Bool → ℕ
page_line p f down = cond down (min (page_from p f + page_step f) (2 ^ 64 - 1)) (page_from p f - page_step f)

abbrev pub passes : ℕ → ℕ → Bool
passes n b = is_feed b && nat_lt 0 n

-- The byte at which the line begins that is n lines further down, or the last line, where there are fewer. This line
-- begins at the byte `start`, and the first byte has the number `byte`.
abbrev pub line_from : ℕ → ℕ → ℕ → List ℕ → ℕ
line_from start byte n [] = start
line_from start byte n (b ∷ bs) =
    line_from (cond (passes n b) (byte + 1) start) (byte + 1) (n - cond (passes n b) 1 0) bs

-- the first of the nodes that begins at the byte or after it
abbrev pub first_from : ℕ → List Span → Option Span
first_from byte [] = None
first_from byte (span ∷ spans) = cond (nat_le byte span.start) (Some span) (first_from byte spans)

abbrev pub span_or : Option Span → Option Span → Option Span
span_or (Some span) last = Some span
span_or None last = last

abbrev pub path_or : Path → Option Span → Path
path_or chosen None = chosen
path_or chosen (Some span) = span.path

-- The first node that begins in the line a screen further down, or further up, or after that; else the last one. Nodes
-- are listed in the order in which they begin.
abbrev pub page_path : Printed → Face → Bool → Path
page_path p f down =
    path_or f.chosen
    (span_or (first_from (line_from 0 0 (page_line p f down) p.text) p.spans)
    (slice_get p.spans (length p.spans - 1)))

-- n and N, and the keys that have definitions of their own
abbrev pub is_wrong_key : Key → Bool
is_wrong_key (keys.Char c) = (c == 110) || (c == 78)
is_wrong_key _ = false

abbrev pub is_own_key : Key → Bool
is_own_key (keys.Char c) = (c == 110) || ((c == 78) || ((c == 114) || (c == 119)))
is_own_key key = is_page_key key

-- the operators that fit are shown
abbrev pub offering : Spot → List (List ℕ) → Face → Face
offering s offers f =
    record (in_mode modes.Choosing f) { offers = offers; pick = 0; target = s.target; place = s.place }

-- ---- the text of a node

-- the characters that begin at the bytes from `from` up to `to`, where the first one begins at `byte`
abbrev pub chars_between : ℕ → ℕ → ℕ → List ℕ → List ℕ
chars_between from to byte [] = []
chars_between from to byte (c ∷ cs) =
    cond (nat_le from byte && nat_lt byte to) (c ∷ []) []
    ++ chars_between from to (byte + length (encode_utf8 c)) cs

-- a line feed is a space, and a space is left out where `fed` says that there are spaces alone since one
abbrev pub fed_char : Bool → ℕ → List ℕ
fed_char fed c = cond (c == 10) (32 ∷ []) (cond (fed && (c == 32)) [] (c ∷ []))

abbrev pub is_fed : Bool → ℕ → Bool
is_fed fed c = (c == 10) || (fed && (c == 32))

-- a line feed and the spaces after it are one space
abbrev pub on_a_line : Bool → List ℕ → List ℕ
on_a_line fed [] = []
on_a_line fed (c ∷ cs) = fed_char fed c ++ on_a_line (is_fed fed c) cs

abbrev pub chars_at : List ℕ → Option Bytes → List ℕ
chars_at text None = []
chars_at text (Some b) = chars_between b.start b.end 0 (chars text)

-- the line that `e` opens: the text of the chosen node; none at an open place
abbrev pub is_filled : Option Fragment → Bool
is_filled None = false
is_filled (Some node) = not (is_hole node)

abbrev pub node_line : Definition → Fragment → Path → List ℕ
node_line def tree path =
    cond (is_filled (node_at tree path))
    (on_a_line false (chars_at (printed_of def tree).text (span_at (printed_of def tree).spans path))) []

abbrev pub opened_node : Definition → Fragment → Face → Face
opened_node def tree f = with_line modes.Typing (node_line def tree f.chosen) f

-- ---- keys of modes

abbrev pub with_typed : Face → Option TypedLines → Face
with_typed f None = f
with_typed f (Some lines) = record f { lines = lines; message = quiet }

-- the text of the line is typed; a key that is none of a line's leaves all as it is
abbrev pub typed_key : Face → Key → Face
typed_key f key = with_typed f (lines_after f.lines key)

-- the line is left, and kept where it is the text of a node
abbrev pub left_in : Face → Mode → Face
left_in f modes.Typing = in_mode modes.Browsing (record f { lines = kept_after f.lines })
left_in f _ = in_mode modes.Browsing f

abbrev pub left_line : Face → Face
left_line f = left_in f f.mode

abbrev pub control_key : Face → ℕ → Face
control_key f c = cond (c == 99) (left_line f) (typed_key f (keys.Control c))

-- Escape and Ctrl-C leave the line
abbrev pub line_key : Face → Key → Face
line_key f keys.Escape = left_line f
line_key f (keys.Control c) = control_key f c
line_key f key = typed_key f key

abbrev pub pick_before : Face → Face
pick_before f = record f { pick = f.pick - 1 }

-- the next one of that many, if there is one
abbrev pub later_pick : ℕ → ℕ → ℕ
later_pick pick count = max pick (min (pick + 1) (count - 1))

abbrev pub pick_after : Face → Face
pick_after f = record f { pick = later_pick f.pick (length (shown_offers f)) }

-- What is typed narrows the offers, and the first one is picked. A key that is none of a line's leaves all as it is.
abbrev pub first_picked : Face → Face
first_picked f = record f { pick = 0 }

abbrev pub with_narrowed : Face → Option TypedLines → Face
with_narrowed f None = f
with_narrowed f (Some lines) = record f { lines = lines; message = quiet; pick = 0 }

abbrev pub narrowed_line : Face → Key → Face
narrowed_line f key = with_narrowed f (lines_after f.lines key)

abbrev pub narrowed_control : Face → ℕ → Face
narrowed_control f c = cond (c == 99) (first_picked (left_line f)) (narrowed_line f (keys.Control c))

abbrev pub narrowed : Face → Key → Face
narrowed f keys.Escape = first_picked (left_line f)
narrowed f (keys.Control c) = narrowed_control f c
narrowed f key = narrowed_line f key

-- arrows pick another operator, and what is typed narrows them
abbrev pub chosen_key : Face → Key → Face
chosen_key f keys.Up = pick_before f
chosen_key f keys.Left = pick_before f
chosen_key f keys.BackTab = pick_before f
chosen_key f keys.Down = pick_after f
chosen_key f keys.Right = pick_after f
chosen_key f keys.Tab = pick_after f
chosen_key f key = narrowed f key

-- the names and literals of an operator are typed next
abbrev pub naming : Name → List (List ℕ) → Face → Face
naming op offers f =
    record (in_mode modes.Naming f) { offers = offers; pick = 0; operator = Some op; args = []; leaf = 0 }

-- nothing is typed as an argument: the arguments with it have no more bytes
abbrev pub is_nothing : Face → List ℕ → Bool
is_nothing f args = length args == length (spaced f.args)

abbrev pub with_args : Face → List ℕ → Face
with_args f args = record (in_mode modes.Naming f) { args = args; leaf = f.leaf + 1; pick = 0 }

-- one more is typed; where nothing is, all stays as it is
abbrev pub with_leaf : Face → Option Leaf → Face
with_leaf f None = f
with_leaf f (Some l) = cond (is_nothing f (args_with f l)) f (with_args f (args_with f l))

-- what is typed now of the operator
abbrev pub leaf_in : Definition → ℕ → Option Name → Option Leaf
leaf_in def k None = None
leaf_in def k (Some op) = slice_get (leaves_of def op) k

abbrev pub leaf_at : Definition → Face → Option Leaf
leaf_at def f = leaf_in def f.leaf f.operator

abbrev pub next_leaf : Definition → Face → Face
next_leaf def f = with_leaf f (leaf_at def f)

-- Tab puts the name that is picked into the line
abbrev pub completed : Face → Option (List ℕ) → Face
completed f None = f
completed f (Some name) = record (with_line modes.Naming (chars name) f) { pick = 0 }

abbrev pub named_key : Definition → Face → Key → Face
named_key def f keys.Up = pick_before f
named_key def f keys.BackTab = pick_before f
named_key def f keys.Down = pick_after f
named_key def f keys.Tab = completed f (picked_offer f)
named_key def f keys.Enter = next_leaf def f
named_key def f key = narrowed f key

-- a page is scrolled or left
abbrev pub page_rows : Face → ℕ
page_rows f = f.rows - 5

-- that many lines further down, with as many rows filled as there are
abbrev pub page_down : ℕ → ℕ → ℕ → ℕ → ℕ
page_down top step count rows = min (top + step) (min (count - rows) (2 ^ 32 - 1))

abbrev pub scrolled_up : Face → ℕ → Face
scrolled_up f step = record f { page_top = f.page_top - step }

abbrev pub scrolled_down : Face → ℕ → Face
scrolled_down f step = record f { page_top = page_down f.page_top step (length f.page) (page_rows f) }

abbrev pub left_page : Face → Face
left_page f = in_mode modes.Browsing (record f { page = [] })

abbrev pub paged_key : Face → Key → Face
paged_key f keys.Up = scrolled_up f 1
paged_key f keys.Left = scrolled_up f 1
paged_key f keys.Down = scrolled_down f 1
paged_key f keys.Right = scrolled_down f 1
paged_key f keys.PageUp = scrolled_up f (page_rows f)
paged_key f keys.PageDown = scrolled_down f (page_rows f)
paged_key f _ = left_page f

-- the size of the screen; more than a thousand rows or columns are none
abbrev pub sized : ℕ → ℕ → Face → Face
sized rows cols f = record f { rows = min rows 1000; cols = min cols 1000 }

-- what is no key changes nothing in any mode, and the last line says its bytes
abbrev pub no_key_of : List ℕ → Face → Face
no_key_of bytes f = saying (unknown bytes) f

-- ---- letters that are no command and no question

-- the end, or a question before it where the program was `changed` since it was written
abbrev pub ending : Bool → Face → Face
ending changed f = cond changed (in_mode modes.Leaving f) (record f { ended = true })

-- `page` has the lines of the page of keys
abbrev pub browsed_letter : Definition → Fragment → Bool → List (List ℕ) → Face → ℕ → Face
browsed_letter def tree changed page f c =
    cond (c == 101) (opened_node def tree f)
    (cond (c == 111) (in_mode modes.Typing f)
    (cond (c == 63) (paging page f)
    (cond (c == 113) (ending changed f) (saying no_key f))))

abbrev pub browsed_control : Bool → Face → ℕ → Face
browsed_control changed f c =
    cond (c == 99) (ending changed f) (cond (c == 108) (saying quiet f) (saying no_key f))

abbrev pub browsed : Definition → Fragment → Bool → List (List ℕ) → Face → Key → List ℕ → Face
browsed def tree changed page f keys.Enter bytes = opened_node def tree f
browsed def tree changed page f (keys.Char c) bytes = browsed_letter def tree changed page f c
browsed def tree changed page f keys.PasteBegins bytes = in_mode modes.Typing f
browsed def tree changed page f keys.PasteEnds bytes = saying quiet f
browsed def tree changed page f (keys.Control c) bytes = browsed_control changed f c
browsed def tree changed page f keys.Unknown bytes = no_key_of bytes f
browsed def tree changed page f _ bytes = saying no_key f
