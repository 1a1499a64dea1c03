-- What a run of the editor does, turn after turn, and what it writes.
use Rattle.std.specs.Prelude.{ℕ, ◌≡◌, ◌+◌, ◌-◌, ◌^◌, ◌<◌, ◌≤◌, ◌==◌, ◌||◌, ◌++◌, Bool, true, false, cond, List, [], ◌∷◌}
use Rattle.std.specs.Prelude.{Option, Some, None, length, take}
use Rattle.std.specs.Io.KnownBytes.{append_known}
use Rattle.psg_canvas.specs.Cells.{Picture}
use Rattle.psg_canvas.specs.Drawing.{Draws}
use Rattle.psg_canvas.specs.Orders.{bytes_of_all, entering, leaving, paste_marked, paste_unmarked}
use Rattle.psg_grammar.specs.Fragments.{Fragment}
use Rattle.psg_keys.specs.declared.key.Key.{Key}
use Rattle.psg_keys.specs.declared.key.Key.TheVariants as keys
use Rattle.psg_keys.specs.Reading.{HasRead, Spelled, Waiting}
use Rattle.psg_modes.specs.Pages.{key_lines}
use Rattle.psg_session.specs.Exchanges.{Outside}
use Rattle.psg_session.specs.Sessions.{state_of}
use Rattle.psg_world.specs.Pieces.{IsPieceOf}
use Rattle.psg_world.specs.Sinks.{TakesFront}
use Rattle.psg_tui.specs.declared.editing.Editing.{Editing}
use Rattle.psg_tui.specs.declared.running.Ending.{Ending}
use Rattle.psg_tui.specs.declared.running.Ending.TheVariants as endings
use Rattle.psg_tui.specs.Editing.{IsAsBefore, IsAt, IsOfSame}
use Rattle.psg_tui.specs.Pressing.{Presses}
use Rattle.psg_tui.specs.Scrolled.{IsScrolled}
use Rattle.psg_tui.specs.Showing.{Shows}
use Rattle.psg_tui.specs.Views.{desk_of, said_no_memory, shown_face}

-- such bytes are written after those before
abbrev pub Writes : Option (List ℕ) → Option (List ℕ) → (List ℕ → Type 0) → Type 0
Writes before after P = (bytes : List ℕ) × P bytes × (after ≡ append_known before bytes)

-- ---- drawing

-- The picture of the editor. `new` is the editor after it was made: its window may be another one.
abbrev pub IsPictureOf : Editing → Editing → Picture → Type 0
IsPictureOf old new p =
    (tree : Fragment) → IsAt old tree → Shows old.session.language tree (shown_face tree old.aim old.face)
    (shown_face tree new.aim new.face) p

-- The editor is drawn over the picture that is shown, which is then the new one; the bytes make a terminal that shows
-- the old one show the new one. Where memory runs out nothing is written, and the old one stays.
pub data IsDrawn (old new : Editing) (was : Option Picture) : Option Picture → List ℕ → Type 0 where
  draws : {picture : Picture} {bytes : List ℕ} → IsScrolled old new → IsPictureOf old new picture
      → Draws was picture bytes → IsDrawn old new was (Some picture) bytes
  no_memory : IsScrolled old new → IsDrawn old new was was []

-- The editor is drawn; then what takes longer is asked, and where something was asked it is drawn again.
pub data AreDrawn (old new : Editing) (was : Option Picture) : Option Picture → List ℕ → Type 0 where
  once : {middle : Editing} {now : Option Picture} {bytes : List ℕ} → IsDrawn old middle was now bytes
      → IsAsBefore middle new → AreDrawn old new was now bytes
  twice : {middle asked : Editing} {first now : Option Picture} {bytes more : List ℕ}
      → IsDrawn old middle was first bytes
      → IsAsBefore middle asked → IsDrawn asked new first now more → AreDrawn old new was now (bytes ++ more)

-- only a front of the bytes of a picture is written
pub record IsCut (old new : Editing) (was : Option Picture) (taken : List ℕ) : Type 0 where
  pub now : Option Picture
  pub bytes : List ℕ
  pub drawn : IsDrawn old new was now bytes
  pub count : ℕ
  pub within : count < length bytes
  pub front : taken ≡ take count bytes

pub data AreCut (old new : Editing) (was : Option Picture) : List ℕ → Type 0 where
  first : {taken : List ℕ} → IsCut old new was taken → AreCut old new was taken
  second : {middle asked : Editing} {first : Option Picture} {bytes taken : List ℕ} → IsDrawn old middle was first bytes
      → IsAsBefore middle asked → IsCut asked new first taken → AreCut old new was (bytes ++ taken)

-- ---- pressing

-- A key is pressed, as `press` promises. Where memory runs out a line says so, and the program is as it was. After the
-- editor is at its end a key does nothing.
pub data Takes (stroke : Spelled) (old : Editing) (before : Outside) : Editing → Outside → Type 0 where
  is_pressed : {new : Editing} {after : Outside} → old.face.ended ≡ false → IsOfSame old new
      → (tree grown : Fragment) → IsAt old tree → IsAt new grown
      → Presses old.session.language old.kind key_lines (desk_of tree old) (desk_of grown new)
      (state_of old.session.editor) (state_of new.session.editor) tree grown stroke before after
      → Takes stroke old before new after
  is_lost : {left : Editing} {after : Outside} → old.face.ended ≡ false → IsAsBefore old left
      → after.held ≡ before.held → Takes stroke old before (said_no_memory left) after
  is_over : old.face.ended ≡ true → Takes stroke old before old before

-- the keys are pressed, the first one first, each of them once
abbrev pub TakesAll : List Spelled → Editing → Outside → Editing → Outside → Type 0
TakesAll [] old before new after = (new ≡ old) × (after ≡ before)
TakesAll (stroke ∷ more) old before new after =
    (middle : Editing) × (between : Outside) × Takes stroke old before middle between
    × TakesAll more middle between new after

-- ---- turns

-- after Ctrl-L, and after another size of the screen, it is not known what the terminal shows
abbrev pub is_redrawing : Key → Bool
is_redrawing (keys.Control letter) = letter == 108
is_redrawing (keys.Size rows cols) = true
is_redrawing _ = false

abbrev pub redraws : List Spelled → Bool
redraws [] = false
redraws (stroke ∷ more) = is_redrawing stroke.key || redraws more

-- What there is between two turns: the editor, what is known of the files, the picture that is shown, what the reader
-- of keys keeps, and what the input has still to give, where that is known.
pub record Scene : Type 0 where
  pub tui : Editing
  pub files : Outside
  pub shown : Option Picture
  pub reader : Waiting
  pub input : Option (List ℕ)

abbrev pub scene : Editing → Outside → Option Picture → Waiting → Option (List ℕ) → Scene
scene tui files shown reader input =
    record { tui = tui; files = files; shown = shown; reader = reader; input = input }

-- an ending where a read failed, or memory ran out
abbrev pub IsOfReading : Ending → Type 0
IsOfReading endings.ReadFault = Unit {0}
IsOfReading endings.Memory = Unit {0}
IsOfReading endings.Done = ⊥
IsOfReading endings.WriteFault = ⊥

-- an ending where the writing failed
abbrev pub IsOfWriting : Ending → Type 0
IsOfWriting endings.WriteFault = Unit {0}
IsOfWriting endings.Memory = Unit {0}
IsOfWriting endings.Done = ⊥
IsOfWriting endings.ReadFault = ⊥

-- A turn: the editor is drawn, a piece of the input is read, and its keys are pressed, in order.
pub record IsTurn (s : Scene) (bytes : List ℕ) (t : Scene) : Type 0 where
  pub drawn : Editing
  pub shown : Option Picture
  pub draws : AreDrawn s.tui drawn s.shown shown bytes
  pub piece : List ℕ
  pub given : IsPieceOf s.input t.input piece
  pub more : piece ≡ [] → ⊥
  pub strokes : List Spelled
  pub reads : HasRead s.reader piece strokes t.reader
  pub taken : TakesAll strokes drawn s.files t.tui t.files
  pub left : t.shown ≡ cond (redraws strokes) None shown

-- The turns of a run, one after the other, after that many turns before: how it ends, the editor and the files then,
-- and the bytes that were written. It ends by a key, at the end of the input, at a read that fails or whose keys have
-- no memory, where the writing fails, and after 2^64 - 1 turns.
pub data Runs : ℕ → Scene → Ending → Editing → Outside → List ℕ → Type 0 where
  turn : {turns : ℕ} {s t : Scene} {ending : Ending} {end : Editing} {after : Outside} {bytes more : List ℕ}
      → IsTurn s bytes t → t.tui.face.ended ≡ false → Runs (turns + 1) t ending end after more
      → Runs turns s ending end after (bytes ++ more)
  by_key : {turns : ℕ} {s t : Scene} {bytes : List ℕ} → IsTurn s bytes t → t.tui.face.ended ≡ true
      → Runs turns s endings.Done t.tui t.files bytes
  by_input : {turns : ℕ} {s : Scene} {end : Editing} {shown : Option Picture} {bytes : List ℕ} (rest : Option (List ℕ))
      → AreDrawn s.tui end s.shown shown bytes → IsPieceOf s.input rest []
      → Runs turns s endings.Done end s.files bytes
  by_read : {turns : ℕ} {s : Scene} {ending : Ending} {end : Editing} {shown : Option Picture} {bytes : List ℕ}
      → AreDrawn s.tui end s.shown shown bytes → IsOfReading ending → Runs turns s ending end s.files bytes
  by_writing : {turns : ℕ} {s : Scene} {ending : Ending} {end : Editing} {bytes : List ℕ}
      → AreCut s.tui end s.shown bytes → IsOfWriting ending → Runs turns s ending end s.files bytes
  by_count : {turns : ℕ} {s : Scene} → 2 ^ 64 - 1 ≤ turns → Runs turns s endings.Done s.tui s.files []

-- ---- a run

-- the bytes before the first picture, and after the last one
abbrev pub entered : List ℕ
entered = bytes_of_all 1 entering ++ paste_marked

abbrev pub left : List ℕ
left = paste_unmarked ++ bytes_of_all 1 leaving

-- A whole run from a scene: another screen is entered, there are the turns, and the first screen is shown again. Where
-- the writing fails at the beginning there is no turn; where it fails at the end, that is how the run ended.
pub data HasRun (s : Scene) (before : Option (List ℕ)) : Ending → Editing → Outside → Option (List ℕ) → Type 0 where
  is_run : {ending : Ending} {end : Editing} {files : Outside} {after : Option (List ℕ)} {bytes : List ℕ}
      → Runs 0 s ending end files bytes → after ≡ append_known before (entered ++ bytes ++ left)
      → HasRun s before ending end files after
  not_entered : {ending : Ending} {after : Option (List ℕ)} → IsOfWriting ending → TakesFront before entered after
      → HasRun s before ending s.tui s.files after
  not_left : {ending inner : Ending} {end : Editing} {files : Outside} {after : Option (List ℕ)} {bytes : List ℕ}
      → Runs 0 s inner end files bytes → IsOfWriting ending
      → TakesFront (append_known before (entered ++ bytes)) left after → HasRun s before ending end files after

-- Where the run ends by itself, or by a read that failed, another screen was entered at first and left at the end.
-- Nothing is said where the writing may have failed.
abbrev pub IsLeft : Ending → Option (List ℕ) → Option (List ℕ) → Type 0
IsLeft endings.Done before after = (bytes : List ℕ) × (after ≡ append_known before (entered ++ bytes ++ left))
IsLeft endings.ReadFault before after = (bytes : List ℕ) × (after ≡ append_known before (entered ++ bytes ++ left))
IsLeft endings.WriteFault before after = Unit {0}
IsLeft endings.Memory before after = Unit {0}
