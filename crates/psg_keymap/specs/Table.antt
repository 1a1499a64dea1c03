-- The one table of keys: which command a key is, where it is one.
use Rattle.std.specs.Prelude.{ℕ, ◌+◌, ◌==◌, ◌||◌, Bool, true, false, cond, List, [], ◌∷◌, Option, Some, None}
use Rattle.std.specs.Prelude.{option_map, length, is_some, slice_get}
use Rattle.psg_terms.specs.Names.{Name}
use Rattle.psg_grammar.specs.declared.types.Definition.{Definition}
use Rattle.psg_grammar.specs.Fragments.{Fragment, hole, ending, cell, children_of}
use Rattle.psg_grammar.specs.Paths.{Path, node_at}
use Rattle.psg_keys.specs.declared.key.Key.{Key}
use Rattle.psg_keys.specs.declared.key.Key.TheVariants as keys
use Rattle.psg_places.specs.Places.{has_no_placeholder, is_hole, is_list}
use Rattle.psg_script.specs.declared.command.Command.{Command}
use Rattle.psg_script.specs.declared.command.Command.TheVariants as commands
use Rattle.psg_script.specs.declared.command.Where.{Where}
use Rattle.psg_script.specs.declared.command.Where.TheVariants.{At}
use Rattle.psg_unparse.specs.declared.spans.Span.{Span}
use Rattle.psg_unparse.specs.Spans.{printed_of}
use Rattle.psg_face.specs.Moves.{is_dots, is_open_list, last_step, parent_of}
use Rattle.psg_keymap.specs.declared.face.Mode.{Mode}
use Rattle.psg_keymap.specs.declared.face.Mode.TheVariants as modes
use Rattle.psg_keymap.specs.declared.leaves.Leaf.{Leaf}
use Rattle.psg_keymap.specs.Faces.{Face, picked_offer, typed_text, with_place}
use Rattle.psg_keymap.specs.Leaves.{args_with, leaves_of}
use Rattle.psg_keymap.specs.declared.ranges.Range.{Range}
pub use Rattle.psg_keymap.specs.declared.table.Due.{Due}
use Rattle.psg_keymap.specs.Ranges.{range_of, separator_of}

abbrev pub stays : Command → Option Due
stays command = Some (record { command = command; grown = None })

abbrev pub grows : Path → Command → Option Due
grows path command = Some (record { command = command; grown = Some path })

-- the name under which a node is kept
abbrev pub it : Name
it = 105 ∷ 116 ∷ []

abbrev pub is_list_at : Option Fragment → Bool
is_list_at None = false
is_list_at (Some f) = is_list f

-- how many elements the list has; another node has none
abbrev pub count_of : Fragment → ℕ
count_of f = cond (is_list f) (length (children_of f)) 0

-- the list above a path, and the number of the path's place there
abbrev pub list_above : Fragment → Path → Option (Path × ℕ)
list_above f [] = None
list_above f (k ∷ path) =
    cond (is_list_at (node_at f (parent_of (k ∷ path)))) (Some (parent_of (k ∷ path), last_step k path)) None

-- the list and the number of a place are used, where there are both
abbrev pub by_place_of : {X : Type 0} → Option (Path × ℕ) → (Path → ℕ → X) → X → X
by_place_of None there other = other
by_place_of (Some p) there other = there p.0 p.1

abbrev pub in_list : {X : Type 0} → Fragment → Path → (Path → ℕ → X) → X → X
in_list f path there other = by_place_of (list_above f path) there other

abbrev pub is_save : Command → Bool
is_save (commands.Save name at) = true
is_save _ = false

abbrev pub is_undo : Command → Bool
is_undo commands.Undo = true
is_undo _ = false

-- ---- x, c, u, y, p

-- a placeholder, or what no placeholder can take the place of: an operator of a phylum that declares
abbrev pub is_removed : Definition → Fragment → Bool
is_removed def f = is_hole f || has_no_placeholder def f

-- the list and the place of an element that goes
abbrev pub removal : Definition → Fragment → Path → Option Fragment → Option (Path × ℕ)
removal def f path None = None
removal def f path (Some node) = cond (is_removed def node) (list_above f path) None

-- `remove` of an element that is a placeholder or declares, `cut` of another node, nothing at a `...`
abbrev pub cutting : Definition → Fragment → Path → Option Due
cutting def f path =
    cond (is_some (node_at f path))
    (by_place_of (removal def f path (node_at f path)) (λ list place. stays (commands.Remove (At list) place))
    (stays (commands.Cut (At path))))
    None

-- `close` at an unfinished list, `reopen` at a finished one, nothing elsewhere
abbrev pub finishing_of : Path → Option Fragment → Option Due
finishing_of path None = None
finishing_of path (Some node) =
    cond (is_list node)
    (cond (is_open_list node) (stays (commands.Close (At path))) (stays (commands.Reopen (At path)))) None

-- the list that is chosen, or whose `...` is
abbrev pub list_of : Fragment → Path → Path
list_of f path = cond (is_dots f path) (parent_of path) path

abbrev pub finishing : Fragment → Path → Option Due
finishing f path = finishing_of (list_of f path) (node_at f (list_of f path))

abbrev pub saving : Fragment → Path → Option Due
saving f path = cond (is_dots f path) None (stays (commands.Save it (At path)))

abbrev pub pasted_at : Path → Option ℕ → Option Due
pasted_at path place = grows (with_place path place) (commands.Paste (At path) place it)

-- that many places after the path's own in its list, else in place of the node
abbrev pub pasted_beside : Fragment → Path → ℕ → Option Due
pasted_beside f path more =
    by_place_of (list_above f path) (λ list place. pasted_at list (Some (place + more))) (pasted_at path None)

-- in place of an empty list, else at the end of one that has that many elements
abbrev pub pasted_into : Path → ℕ → Option Due
pasted_into path count = cond (count == 0) (pasted_at path None) (pasted_at path (Some count))

-- In place of a placeholder or an empty list, at the end of another list, at a `...`, else after the chosen element,
-- else in place of the node. At the `...` of an empty list it is put into the list, as an element.
abbrev pub pasting_of : Fragment → Path → Option Fragment → Option Due
pasting_of f path None = pasted_beside f path 0
pasting_of f path (Some node) =
    cond (is_hole node) (pasted_at path None)
    (cond (is_list node) (pasted_into path (count_of node)) (pasted_beside f path 1))

abbrev pub pasting : Fragment → Path → Option Due
pasting f path = pasting_of f path (node_at f path)

abbrev pub letter_due : Definition → Fragment → Path → ℕ → Option Due
letter_due def f path c =
    cond (c == 120) (cutting def f path) (cond (c == 99) (finishing f path) (cond (c == 117) (stays commands.Undo)
    (cond (c == 121) (saving f path) (cond (c == 112) (pasting f path) None))))

abbrev pub act_of : Definition → Fragment → Path → Key → Option Due
act_of def f path keys.Backspace = cutting def f path
act_of def f path keys.Delete = cutting def f path
act_of def f path (keys.Char c) = letter_due def f path c
act_of def f path (keys.Control c) = cond (c == 114) (stays commands.Redo) None
act_of def f path _ = None

-- ---- texts that are put at a place

abbrev pub by_range : Path → List ℕ → Option Range → Command
by_range target text None = commands.Over (At target) text
by_range target text (Some range) = commands.Range range.byte range.byte range.text

abbrev pub text_command : Definition → Fragment → List Span → Path → List ℕ → Option ℕ → Command
text_command def f spans target text None = commands.Over (At target) text
text_command def f spans target text (Some place) =
    by_range target text (range_of f spans target place (separator_of def f target) text)

-- `over` of a node, or `range` before a place of a list with the separator; a finished list without elements is `over`
abbrev pub text_at : Definition → Fragment → List Span → Path → Option ℕ → List ℕ → Due
text_at def f spans target place text =
    record { command = text_command def f spans target text place; grown = Some (with_place target place) }

abbrev pub typed_due : Definition → Fragment → Path → List ℕ → Due
typed_due def f path text =
    cond (is_dots f path)
    (in_list f path (λ list place. text_at def f spans list (Some place) text)
    (text_at def f spans path None text))
    (text_at def f spans path None text)
  where
    spans : List Span
    spans = (printed_of def f).spans

-- ---- operators that are put at a place

-- `refine` of a placeholder, or `insert` before a place of a list
abbrev pub put_command : Where → Option ℕ → Name → List ℕ → Command
put_command at None op args = commands.Refine at op args
put_command at (Some place) op args = commands.Insert at place op args

abbrev pub putting : Path → Option ℕ → Name → List ℕ → Due
putting target place op args =
    record { command = put_command (At target) place op args; grown = Some (with_place target place) }

-- the command, where there are no names and literals
abbrev pub alone : List Leaf → Due → Option Due
alone leaves due = cond (length leaves == 0) (Some due) None

-- an operator that is picked is a command where it has no names and literals
abbrev pub picked : Definition → Face → Option Name → Option Due
picked def f None = None
picked def f (Some op) = alone (leaves_of def op) (putting f.target f.place op [])

-- the name or literal of this number, if it is the last one
abbrev pub last_leaf : List Leaf → ℕ → Option Leaf
last_leaf leaves k = cond (length leaves == k + 1) (slice_get leaves k) None

-- an operator is a command at its last name or literal
abbrev pub named : Definition → Face → Option Name → Option Due
named def f None = None
named def f (Some op) =
    option_map (λ l. putting f.target f.place op (args_with f l)) (last_leaf (leaves_of def op) f.leaf)

abbrev pub is_enter : Key → Bool
is_enter keys.Enter = true
is_enter _ = false

-- The table. In a line of text Enter is the command that puts it at the chosen place; where an operator is chosen it is
-- `refine` or `insert`. Else a key is an act or no command.
abbrev pub in_mode : Definition → Fragment → Face → Key → Mode → Option Due
in_mode def tree f key modes.Typing = cond (is_enter key) (Some (typed_due def tree f.chosen (typed_text f))) None
in_mode def tree f key modes.Choosing = cond (is_enter key) (picked def f (picked_offer f)) None
in_mode def tree f key modes.Naming = cond (is_enter key) (named def f f.operator) None
in_mode def tree f key modes.Browsing = act_of def tree f.chosen key
in_mode def tree f key _ = None

abbrev pub command_of : Definition → Fragment → Face → Key → Option Due
command_of def tree f key = in_mode def tree f key f.mode
