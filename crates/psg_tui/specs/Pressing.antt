-- The promise of a key: at most one command, done as the plain editor does it.
use Rattle.std.specs.Prelude.{ℕ, ◌≡◌, ◌+◌, ◌-◌, ◌^◌, ◌==◌, ◌&&◌, ◌++◌, Bool}
use Rattle.std.specs.Prelude.{true, false, cond, List, [], ◌∷◌, Option, min}
use Rattle.std.specs.Prelude.{Some, None, IfSome, Ok, Err, bytes_eq, not, option_map, map}
use Rattle.std.specs.FinMap as files
use Rattle.psg_terms.specs.Names.{Name}
use Rattle.psg_terms.specs.Relations.{IsIn}
use Rattle.psg_cache.specs.Annotated.{Annotated}
use Rattle.psg_grammar.specs.declared.types.Definition.{Definition}
use Rattle.psg_grammar.specs.declared.types.Kind.{Kind}
use Rattle.psg_grammar.specs.Fragments.{Fragment}
use Rattle.psg_grammar.specs.Legal.{IsCompletable}
use Rattle.psg_grammar.specs.Marks.{IsMarkBy}
use Rattle.psg_grammar.specs.Marks as marks
use Rattle.psg_grammar.specs.Paths.{Path}
use Rattle.psg_keys.specs.declared.key.Key.{Key}
use Rattle.psg_keys.specs.declared.key.Key.TheVariants as keys
use Rattle.psg_keys.specs.Lines.{kept_after}
use Rattle.psg_keys.specs.Reading.{Spelled}
use Rattle.psg_places.specs.declared.place.Place.{Place}
use Rattle.psg_program.specs.Formatted.{formatted as formatted_of}
use Rattle.psg_unparse.specs.Layout.{text_of}
use Rattle.psg_unparse.specs.Spans.{printed_of}
use Rattle.psg_world.specs.Files.{bytes_of, reading, writing}
use Rattle.psg_face.specs.Moves.{as_far}
use Rattle.psg_face.specs.Opens.{open_below}
use Rattle.psg_script.specs.declared.command.Command.{Command}
use Rattle.psg_session.specs.PlainState.{State, Opened}
use Rattle.psg_session.specs.Exchanges.{Outside}
use Rattle.psg_session.specs.Applied.{HasApplied}
use Rattle.psg_session.specs.Replies.{Reply}
use Rattle.psg_session.specs.Replies as replies
use Rattle.psg_session.specs.Refusals.{number_of}
use Rattle.psg_session.specs.declared.refusal.Refusal.TheVariants as refusals
use Rattle.psg_keymap.specs.declared.face.Mode.{Mode}
use Rattle.psg_keymap.specs.declared.face.Mode.TheVariants as modes
use Rattle.psg_keymap.specs.declared.repair.Repair.{Repair}
use Rattle.psg_keymap.specs.declared.spots.Spot.{Spot}
use Rattle.psg_keymap.specs.Faces.{Face, IsFace, Message, Why, in_mode, kept, not_written, nothing_wrong, of_parts}
use Rattle.psg_keymap.specs.Faces.{picked_offer, quiet, refused, typed_text, unproved, written, wrong}
use Rattle.psg_keymap.specs.Repairs.{IsRepairOf, IsUnknown, place_path}
use Rattle.psg_keymap.specs.Spots.{spot_for}
use Rattle.psg_keymap.specs.declared.table.Due.{Due}
use Rattle.psg_keymap.specs.Table.{command_of, is_save, is_undo, putting}
use Rattle.psg_modes.specs.Turning.{browsed, choosing, chosen_key, is_own_key, is_page_key, is_wrong_key, led, line_key}
use Rattle.psg_modes.specs.Turning.{named_key, naming, no_key_of, offering, page_path, paged_key, paging, saying, sized}
use Rattle.psg_modes.specs.Wrong.{is_forward, next_of, why_at}
use Rattle.psg_asking.specs.Asked.{IsToldOf, Read, menu_of, names_of, relation_of}
use Rattle.psg_asking.specs.Putting.{IsTextOf}
use Rattle.psg_asking.specs.Told.{lines_told, names_told, or_none, words_told}
use Rattle.psg_tui.specs.Unasked.{unasked_lines}

-- What the editor on the screen has beside the program: the face, the name of the file, the text of the program that
-- the file has, or that the editor began with, and how many versions there are after that one.
pub record Desk : Type 0 where
  pub face : Face
  pub file : Option Name
  pub saved : List ℕ
  pub versions : ℕ
  pub writes : Bool

abbrev pub with_face : Desk → Face → Desk
with_face d f = record d { face = f }

abbrev pub is_changed : Definition → Fragment → Desk → Bool
is_changed def tree d = not (bytes_eq d.saved (text_of def tree))

-- ---- after a command

-- what is chosen after a command that was not refused: the first open place in what it put, else the next one; else the
-- path stays as far as it leads
abbrev pub chosen_after : Fragment → Path → Option Path → Path
chosen_after tree path None = as_far tree path
chosen_after tree path (Some grown) = open_below tree (as_far tree grown)

-- the line of text is kept as the latest earlier one
abbrev pub after_line_in : Mode → Face → Face
after_line_in modes.Typing f = record f { lines = kept_after f.lines }
after_line_in _ f = f

abbrev pub after_line : Face → Option Path → Face
after_line f None = f
after_line f (Some grown) = after_line_in f.mode f

abbrev pub said_after : Command → Message
said_after command = cond (is_save command) kept quiet

-- A refused command changes nothing but the message, and a line of text stays open, to be mended.
abbrev pub command_face : Fragment → Face → Due → Reply → Face
command_face tree f due (replies.refused refusal) = saying (refused (number_of refusal)) f
command_face tree f due (replies.answered lines) = record (after_line f due.grown) {
  chosen = chosen_after tree f.chosen due.grown;
  mode = modes.Browsing;
  message = said_after due.command;
}

-- ---- keys that are no command

-- What is shown of the answer to the question for what fits at a spot. Where no program is asked, a page says so.
abbrev pub offered : Face → Spot → Option Read → Face
offered f spot None = paging unasked_lines f
offered f spot (Some (Err refusal)) = saying (refused (number_of refusal)) f
offered f spot (Some (Ok words)) = offering spot words f

-- The names that fit. There are none where it was refused, and where no program is asked.
abbrev pub named_by : Option Read → List (List ℕ)
named_by None = []
named_by (Some told) = or_none told

-- The relation of the chosen place, on a page after some lines, which are not stated here; a refusal is said. Where no
-- program is asked, a page says so.
abbrev pub related : List (List ℕ) → Face → Option Read → Face
related front f None = paging unasked_lines f
related front f (Some (Err refusal)) = saying (refused (number_of refusal)) f
related front f (Some (Ok lines)) = paging (front ++ lines) f

-- the file is empty or not there, as far as its read told: it may have failed
pub data IsNotThere (before middle : Outside) (name : Name) : Type 0 where
  is_empty : middle ≡ before → IfSome before.held (λ held. bytes_of held name ≡ []) → IsNotThere before middle name
  is_unread : middle.held ≡ before.held → middle.entries ≡ before.entries ++ reading name ∷ []
      → IsNotThere before middle name

-- Page Down, and not Page Up
abbrev pub is_down : Key → Bool
is_down keys.PageDown = true
is_down _ = false

-- the modes in which Enter puts an operator
abbrev pub is_putting : Mode → Bool
is_putting modes.Choosing = true
is_putting modes.Naming = true
is_putting _ = false

module _ (def : Definition) (kind : Kind) (tree : Fragment) (page : List (List ℕ)) where
  -- the file is written, all of it or nothing
  pub data IsWritten (d : Desk) (name : Name) (before after : Outside) : Desk → Type 0 where
    done : after.held ≡ option_map (λ held. files.insert held name (formatted_of def tree)) before.held
        → after.entries ≡ before.entries
        → IsWritten d name before after (record {
          face = saying written (in_mode modes.Browsing d.face);
          file = Some name;
          saved = text_of def tree;
          versions = d.versions;
          writes = d.writes;
        })
    failed : after.held ≡ before.held → after.entries ≡ before.entries ++ writing name ∷ []
        → IsWritten d name before after (with_face d (saying not_written (in_mode modes.Browsing d.face)))

  -- `w`: to the file, or the name of one is asked for; nothing is written where the program writes no files
  abbrev pub WritesTo : Desk → Option Name → Outside → Outside → Desk → Type 0
  WritesTo d None before after e = (e ≡ with_face d (in_mode modes.Saving d.face)) × (after ≡ before)
  WritesTo d (Some name) before after e = IsWritten d name before after e

  abbrev pub WritesIf : Bool → Desk → Outside → Outside → Desk → Type 0
  WritesIf false d before after e =
      (e ≡ with_face d (saying unproved (in_mode modes.Browsing d.face))) × (after ≡ before)
  WritesIf true d before after e = WritesTo d d.file before after e

  abbrev pub Writes : Desk → Outside → Outside → Desk → Type 0
  Writes d before after e = WritesIf d.writes d before after e

  -- The next wrong place: a blamed one, with what is wrong there; where the blamed ones are not known, a node that goes
  -- wrong by itself.
  pub data IsNextWrong (path : Path) (forward : Bool) : Path → Why → Type 0 where
    blamed : (r : Repair) → IsRepairOf def tree r → (place : Place) → IsIn place r.places.items
        → next_of (map place_path r.places.items) path forward ≡ Some (place_path place)
        → IsNextWrong path forward (place_path place) (why_at tree place)
    culprit : (paths : List Path) (found : Path) → IsMarkBy (IsCompletable def) tree (marks.wrong paths)
        → IsUnknown def tree → next_of paths path forward ≡ Some found → IsNextWrong path forward found of_parts

  -- A key while a place is chosen.
  pub data Browses (d : Desk) (before after : Outside) : Spelled → Desk → Type 0 where
    moves : {stroke : Spelled} {path : Path} → led tree d.face.chosen stroke.key ≡ Some path → after ≡ before
        → Browses d before after stroke (with_face d (choosing path d.face))
    pages : {stroke : Spelled} → is_page_key stroke.key ≡ true → after ≡ before
        → Browses d before after stroke
        (with_face d (choosing (page_path (printed_of def tree) d.face (is_down stroke.key)) d.face))
    offers : {stroke : Spelled} {spot : Spot} (told : Option Read)
        → spot_for tree d.face.chosen stroke.key ≡ Some spot → IsToldOf def kind tree spot menu_of words_told told
        → after ≡ before → Browses d before after stroke (with_face d (offered d.face spot told))
    goes_wrong : {stroke : Spelled} {path : Path} {why : Why} → is_wrong_key stroke.key ≡ true
        → (IsCompletable def tree → ⊥) → IsNextWrong d.face.chosen (is_forward stroke.key) path why → after ≡ before
        → Browses d before after stroke (with_face d (saying (wrong why) (choosing path d.face)))
    -- the program is wrong, and no place is blamed
    stays : {stroke : Spelled} (r : Repair) → is_wrong_key stroke.key ≡ true → (IsCompletable def tree → ⊥)
        → IsRepairOf def tree r → r.places.items ≡ [] → after ≡ before → Browses d before after stroke d
    is_right : {stroke : Spelled} → is_wrong_key stroke.key ≡ true → IsCompletable def tree → after ≡ before
        → Browses d before after stroke (with_face d (saying nothing_wrong d.face))
    relates : {stroke : Spelled} (front : List (List ℕ)) (told : Option Read)
        → stroke.key ≡ keys.Char 114
        → IsToldOf def kind tree (record { target = d.face.chosen; place = None }) relation_of lines_told told
        → after ≡ before → Browses d before after stroke (with_face d (related front d.face told))
    writes : {stroke : Spelled} {e : Desk} → stroke.key ≡ keys.Char 119 → Writes d before after e
        → Browses d before after stroke e
    others : {stroke : Spelled} → is_own_key stroke.key ≡ false → led tree d.face.chosen stroke.key ≡ None
        → spot_for tree d.face.chosen stroke.key ≡ None
        → after ≡ before
        → Browses d before after stroke
        (with_face d (browsed def tree (is_changed def tree d) page d.face stroke.key stroke.bytes))

  -- A key while an operator is chosen: Enter at one that has names and literals asks for the names that fit, of which
  -- those are offered that occur in the program.
  pub data Chooses (f : Face) : Key → Face → Type 0 where
    takes : {op : Name} (told : Option Read) → picked_offer f ≡ Some op
        → IsToldOf def kind tree (record { target = f.target; place = f.place }) (names_of op) (names_told tree) told
        → Chooses f keys.Enter (naming op (named_by told) f)
    takes_none : picked_offer f ≡ None → Chooses f keys.Enter f
    picks : {key : Key} → (key ≡ keys.Enter → ⊥) → Chooses f key (chosen_key f key)

  -- a key while the name of a file is typed: Enter writes it, or asks where it is there already
  pub data Saves (d : Desk) (before after : Outside) : Key → Desk → Type 0 where
    types : {key : Key} → (key ≡ keys.Enter → ⊥) → after ≡ before
        → Saves d before after key (with_face d (line_key d.face key))
    leaves : typed_text d.face ≡ [] → after ≡ before
        → Saves d before after keys.Enter (with_face d (in_mode modes.Browsing d.face))
    asks : after ≡ before → IfSome before.held (λ held. bytes_of held (typed_text d.face) ≡ [] → ⊥)
        → Saves d before after keys.Enter (with_face d (record d.face { mode = modes.Replacing }))
    saves : {middle : Outside} {e : Desk} → IsNotThere before middle (typed_text d.face)
        → IsWritten d (typed_text d.face) middle after e → Saves d before after keys.Enter e

  pub data Replaces (d : Desk) (before after : Outside) : Key → Desk → Type 0 where
    writes_over : {e : Desk} → IsWritten d (typed_text d.face) before after e
        → Replaces d before after (keys.Char 119) e
    goes_back : {key : Key} → (key ≡ keys.Char 119 → ⊥) → after ≡ before
        → Replaces d before after key (with_face d (in_mode modes.Browsing d.face))

  -- it was asked whether to end without writing
  pub data Leaves (d : Desk) (before after : Outside) : Key → Desk → Type 0 where
    ends : after ≡ before → Leaves d before after (keys.Char 113) (with_face d (record d.face { ended = true }))
    breaks : after ≡ before → Leaves d before after (keys.Control 99) (with_face d (record d.face { ended = true }))
    writes_first : {e : Desk} → Writes d before after e → Leaves d before after (keys.Char 119) e
    stays : {key : Key} → (key ≡ keys.Char 113 → ⊥) → (key ≡ keys.Control 99 → ⊥) → (key ≡ keys.Char 119 → ⊥)
        → after ≡ before → Leaves d before after key (with_face d (in_mode modes.Browsing d.face))

  -- in each mode; the size of the screen is taken in each, and the bytes that are no key are said
  abbrev pub TurnsIn : Mode → Desk → Outside → Outside → Spelled → Desk → Type 0
  TurnsIn modes.Browsing d before after stroke e = Browses d before after stroke e
  TurnsIn modes.Typing d before after stroke e = (e ≡ with_face d (line_key d.face stroke.key)) × (after ≡ before)
  TurnsIn modes.Choosing d before after stroke e =
      (f : Face) × Chooses d.face stroke.key f × (e ≡ with_face d f) × (after ≡ before)
  TurnsIn modes.Naming d before after stroke e =
      (e ≡ with_face d (named_key def d.face stroke.key)) × (after ≡ before)
  TurnsIn modes.Saving d before after stroke e = Saves d before after stroke.key e
  TurnsIn modes.Replacing d before after stroke e = Replaces d before after stroke.key e
  TurnsIn modes.Paging d before after stroke e = (e ≡ with_face d (paged_key d.face stroke.key)) × (after ≡ before)
  TurnsIn modes.Leaving d before after stroke e = Leaves d before after stroke.key e

  abbrev pub Turns : Desk → Outside → Outside → Spelled → Key → Desk → Type 0
  Turns d before after stroke (keys.Size rows cols) e =
      (e ≡ with_face d (sized rows cols d.face)) × (after ≡ before)
  Turns d before after stroke keys.Unknown e =
      (e ≡ with_face d (no_key_of stroke.bytes d.face)) × (after ≡ before)
  Turns d before after stroke key e = TurnsIn d.face.mode d before after stroke e

  -- ---- a key

  -- When a key is the command of the table: where no operator is put, where the program has a completion, and where
  -- there is no text of the operator.
  pub data IsOfTable (f : Face) (key : Key) : Type 0 where
    no_operator : is_putting f.mode ≡ false → IsOfTable f key
    none : command_of def tree f key ≡ None → IsOfTable f key
    completable : IsCompletable def tree → IsOfTable f key
    no_text : (op : Name) (args : List ℕ) → command_of def tree f key ≡ Some (putting f.target f.place op args)
        → (IsCompletable def tree → ⊥)
        → IsTextOf def kind tree (printed_of def tree).spans
        (record { target = f.target; place = f.place }) op args None
        → IsOfTable f key

  -- Which command a key is: the one of the table; where it would put an operator into a wrong program, the text of the
  -- operator, as it is in the repaired program.
  pub data IsDue (f : Face) (key : Key) : Option Due → Type 0 where
    of_table : IsOfTable f key → IsDue f key (command_of def tree f key)
    of_text : (text : Due) (op : Name) (args : List ℕ)
        → command_of def tree f key ≡ Some (putting f.target f.place op args) → (IsCompletable def tree → ⊥)
        → IsTextOf def kind tree (printed_of def tree).spans (record { target = f.target; place = f.place }) op args
        (Some text) → IsDue f key (Some text)

-- the tree that is opened
abbrev pub IsOpened : State → Kind → Fragment → Type 0
IsOpened s kind tree = s.opened ≡ Some (record { kind = kind; tree = tree })

-- how many versions there are after a command that was done, of which a save makes none; they are counted in 64 bits
abbrev pub versions_done : Command → ℕ → ℕ
versions_done command n = cond (is_undo command) (n - 1) (cond (is_save command) n (min (n + 1) (2 ^ 64 - 1)))

abbrev pub versions_after : Command → Reply → ℕ → ℕ
versions_after command (replies.refused refusal) n = n
versions_after command (replies.answered lines) n = versions_done command n

-- Where it is no command, the program is as it was; else it is that of the plain editor after the command. Undo goes
-- back to the program with which the editor began: before it is the empty one from which a file was read. How far the
-- counter goes at a key is not said: it may be asked more than the command.
abbrev pub Does : Definition → Kind → List (List ℕ) → Desk → Desk → State → State → Fragment → Fragment → Spelled
    → Outside → Outside
    → Option Due → Type 0
Does def kind page d e s t old new stroke before after None =
    (t ≡ s) × Turns def kind old page d before after stroke stroke.key e
Does def kind page d e s t old new stroke before after (Some due) =
    cond (is_undo due.command && (d.versions == 0))
    ((t ≡ s) × (e ≡ with_face d (saying (refused (number_of refusals.NothingEarlier)) d.face)) × (after ≡ before))
    ((from to : ℕ) × (reply : Reply) × HasApplied def s t due.command before after from to reply
    × (e ≡ record (with_face d (command_face new d.face due reply))
    { versions = versions_after due.command reply d.versions }))

-- A key: either it is no command, and the program is as it was; or it is one command, and the program is that of the
-- plain editor after it, with its reply.
pub record Presses (def : Definition) (kind : Kind) (page : List (List ℕ)) (d e : Desk) (s t : State)
    (old new : Fragment)
    (stroke : Spelled) (before after : Outside) : Type 0 where
  pub opened : IsOpened s kind old
  pub opens : IsOpened t kind new
  pub due : Option Due
  pub is_due : IsDue def kind old page d.face stroke.key due
  pub pressed : Does def kind page d e s t old new stroke before after due
  pub faced : IsFace old d.face → IsFace new e.face
