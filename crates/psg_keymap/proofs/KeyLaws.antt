-- What a key can be: in each mode and at each place one of the commands of keys.
use Rattle.std.proofs.Common.{◌≡◌, ℕ, ◌+◌, ◌==◌, Bool, true, false, cond, List, [], ◌∷◌, ◌++◌, Option, Some, None}
use Rattle.std.proofs.Common.{option_map, refl, sym, ◌∙◌}
use Rattle.std.specs.Prelude.{IfSome, is_some, length}
use Rattle.psg_terms.proofs.Lists.{eqb-refl}
use Rattle.psg_terms.specs.Names.{Name}
use Rattle.psg_grammar.specs.declared.types.Definition.{Definition}
use Rattle.psg_grammar.specs.Fragments.{Fragment}
use Rattle.psg_grammar.specs.Paths.{Path, node_at}
use Rattle.psg_keys.specs.declared.key.Key.{Key}
use Rattle.psg_keys.specs.declared.key.Key.TheVariants as keys
use Rattle.psg_places.specs.Places.{is_hole, is_list}
use Rattle.psg_script.specs.declared.command.Command.TheVariants as commands
use Rattle.psg_script.specs.declared.command.Where.TheVariants.{At}
use Rattle.psg_unparse.specs.declared.spans.Span.{Span}
use Rattle.psg_unparse.specs.Spans.{printed_of}
use Rattle.psg_face.specs.Moves.{is_dots, is_open_list, parent_of}
use Rattle.psg_keymap.specs.declared.face.Mode.{Mode}
use Rattle.psg_keymap.specs.declared.face.Mode.TheVariants as modes
use Rattle.psg_keymap.specs.declared.leaves.Leaf.{Leaf}
use Rattle.psg_keymap.specs.declared.ranges.Range.{Range}
use Rattle.psg_keymap.specs.Faces.{Face, picked_offer, typed_text, with_place}
use Rattle.psg_keymap.specs.Leaves.{args_with, leaves_of}
use Rattle.psg_keymap.specs.OfKeys.{AreOfKeys, IsOfKeys}
use Rattle.psg_keymap.specs.Ranges.{range_of, separator_of}
use Rattle.psg_keymap.specs.Table.{Due, act_of, alone, by_place_of, by_range, count_of, cutting, finishing}
use Rattle.psg_keymap.specs.Table.{finishing_of, in_mode, is_enter, it, last_leaf, letter_due, list_above}
use Rattle.psg_keymap.specs.Table.{list_of, named, pasted_at, pasted_beside, pasted_into, pasting_of, picked, putting}
use Rattle.psg_keymap.specs.Table.{removal, saving, stays, text_at, typed_due}

-- the command, if there is one, is one of keys
abbrev Fine : Option Due → Type 0
Fine o = IfSome o IsOfKeys

none : Fine None
none = tt

by_cond : (b : Bool) (x y : Option Due) → Fine x → Fine y → Fine (cond b x y)
by_cond true x y p q = p
by_cond false x y p q = q

by_place : (o : Option (Path × ℕ)) (there : Path → ℕ → Option Due) (other : Option Due)
    → ((list : Path) (k : ℕ) → Fine (there list k)) → Fine other → Fine (by_place_of o there other)
by_place None there other h e = e
by_place (Some p) there other h e = h p.0 p.1

-- ---- keys that need no text

removes : (list : Path) (k : ℕ) → Fine (stays (commands.Remove (At list) k))
removes list k = record { command = refl; grown = refl }

cuts : (path : Path) → Fine (stays (commands.Cut (At path)))
cuts path = record { command = refl; grown = refl }

closes : (path : Path) → Fine (stays (commands.Close (At path)))
closes path = record { command = refl; grown = refl }

reopens : (path : Path) → Fine (stays (commands.Reopen (At path)))
reopens path = record { command = refl; grown = refl }

saves : (path : Path) → Fine (stays (commands.Save it (At path)))
saves path = record { command = refl; grown = refl }

undoes : Fine (stays commands.Undo)
undoes = record { command = refl; grown = refl }

redoes : Fine (stays commands.Redo)
redoes = record { command = refl; grown = refl }

fine_cutting : (def : Definition) (f : Fragment) (path : Path) → Fine (cutting def f path)
fine_cutting def f path =
    by_cond (is_some (node_at f path)) _ None
    (by_place (removal def f path (node_at f path)) (λ list place. stays (commands.Remove (At list) place))
    (stays (commands.Cut (At path))) removes (cuts path))
    none

fine_finishing : (path : Path) (o : Option Fragment) → Fine (finishing_of path o)
fine_finishing path None = none
fine_finishing path (Some node) =
    by_cond (is_list node)
    (cond (is_open_list node) (stays (commands.Close (At path))) (stays (commands.Reopen (At path)))) None
    (by_cond (is_open_list node) (stays (commands.Close (At path))) (stays (commands.Reopen (At path)))
    (closes path) (reopens path)) none

fine_pasted : (path : Path) (place : Option ℕ) → Fine (pasted_at path place)
fine_pasted path place = record { command = refl; grown = refl }

fine_beside : (f : Fragment) (path : Path) (more : ℕ) → Fine (pasted_beside f path more)
fine_beside f path more =
    by_place (list_above f path) (λ list place. pasted_at list (Some (place + more))) (pasted_at path None)
    (λ list k. fine_pasted list (Some (k + more))) (fine_pasted path None)

fine_into : (path : Path) (count : ℕ) → Fine (pasted_into path count)
fine_into path count =
    by_cond (count == 0) (pasted_at path None) (pasted_at path (Some count)) (fine_pasted path None)
    (fine_pasted path (Some count))

fine_pasting : (f : Fragment) (path : Path) (o : Option Fragment) → Fine (pasting_of f path o)
fine_pasting f path None = fine_beside f path 0
fine_pasting f path (Some node) =
    by_cond (is_hole node) _ _ (fine_pasted path None)
    (by_cond (is_list node) _ _ (fine_into path (count_of node)) (fine_beside f path 1))

fine_letter : (def : Definition) (f : Fragment) (path : Path) (c : ℕ) → Fine (letter_due def f path c)
fine_letter def f path c =
    by_cond (c == 120) _ _ (fine_cutting def f path)
    (by_cond (c == 99) _ _ (fine_finishing (list_of f path) (node_at f (list_of f path)))
    (by_cond (c == 117) _ _ undoes
    (by_cond (c == 121) _ _ (by_cond (is_dots f path) _ _ none (saves path))
    (by_cond (c == 112) _ _ (fine_pasting f path (node_at f path)) none))))

fine_act : (def : Definition) (f : Fragment) (path : Path) (key : Key) → Fine (act_of def f path key)
fine_act def f path keys.Backspace = fine_cutting def f path
fine_act def f path keys.Delete = fine_cutting def f path
fine_act def f path (keys.Char c) = fine_letter def f path c
fine_act def f path (keys.Control c) = by_cond (c == 114) _ _ redoes none
fine_act def f path _ = none

-- ---- texts and operators that are put at a place

fine_range : (target : Path) (place : Option ℕ) (text : List ℕ) (o : Option Range)
    → IsOfKeys (record { command = by_range target text o; grown = Some (with_place target place) })
fine_range target place text None = record { command = refl; grown = (place, refl) }
fine_range target place text (Some range) = record { command = eqb-refl range.byte; grown = refl }

fine_text : (def : Definition) (f : Fragment) (spans : List Span) (target : Path) (place : Option ℕ) (text : List ℕ)
    → IsOfKeys (text_at def f spans target place text)
fine_text def f spans target None text = record { command = refl; grown = (None, refl) }
fine_text def f spans target (Some place) text =
    fine_range target (Some place) text (range_of f spans target place (separator_of def f target) text)

due_by_cond : (b : Bool) (x y : Due) → IsOfKeys x → IsOfKeys y → IsOfKeys (cond b x y)
due_by_cond true x y p q = p
due_by_cond false x y p q = q

due_by_place : (o : Option (Path × ℕ)) (there : Path → ℕ → Due) (other : Due)
    → ((list : Path) (k : ℕ) → IsOfKeys (there list k))
    → IsOfKeys other → IsOfKeys (by_place_of o there other)
due_by_place None there other h e = e
due_by_place (Some p) there other h e = h p.0 p.1

fine_typed : (def : Definition) (f : Fragment) (path : Path) (text : List ℕ) → IsOfKeys (typed_due def f path text)
fine_typed def f path text =
    let spans = (printed_of def f).spans in
    due_by_cond (is_dots f path) _ _
    (due_by_place (list_above f path) (λ list place. text_at def f spans list (Some place) text)
    (text_at def f spans path None text)
    (λ list k. fine_text def f spans list (Some k) text) (fine_text def f spans path None text))
    (fine_text def f spans path None text)

fine_putting : (target : Path) (place : Option ℕ) (op : Name) (args : List ℕ) → IsOfKeys (putting target place op args)
fine_putting target None op args = record { command = refl; grown = refl }
fine_putting target (Some k) op args = record { command = refl; grown = refl }

fine_alone : (leaves : List Leaf) (due : Due) → IsOfKeys due → Fine (alone leaves due)
fine_alone leaves due h = by_cond (length leaves == 0) (Some due) None h none

fine_picked : (def : Definition) (f : Face) (o : Option Name) → Fine (picked def f o)
fine_picked def f None = none
fine_picked def f (Some op) =
    fine_alone (leaves_of def op) (putting f.target f.place op []) (fine_putting f.target f.place op [])

fine_mapped : (o : Option Leaf) (g : Leaf → Due) → ((l : Leaf) → IsOfKeys (g l)) → Fine (option_map g o)
fine_mapped None g h = none
fine_mapped (Some l) g h = h l

fine_named : (def : Definition) (f : Face) (o : Option Name) → Fine (named def f o)
fine_named def f None = none
fine_named def f (Some op) =
    fine_mapped (last_leaf (leaves_of def op) f.leaf) (λ l. putting f.target f.place op (args_with f l))
    (λ l. fine_putting f.target f.place op (args_with f l))

-- ---- the table

fine_mode : (def : Definition) (tree : Fragment) (f : Face) (key : Key) (mode : Mode)
    → Fine (in_mode def tree f key mode)
fine_mode def tree f key modes.Typing = by_cond (is_enter key) _ _ (fine_typed def tree f.chosen (typed_text f)) none
fine_mode def tree f key modes.Choosing = by_cond (is_enter key) _ _ (fine_picked def f (picked_offer f)) none
fine_mode def tree f key modes.Naming = by_cond (is_enter key) _ _ (fine_named def f f.operator) none
fine_mode def tree f key modes.Browsing = fine_act def tree f.chosen key
fine_mode def tree f key _ = none

pub of_keys : (def : Definition) (tree : Fragment) (f : Face) (key : Key) → AreOfKeys def tree f key
of_keys def tree f key = fine_mode def tree f key f.mode
