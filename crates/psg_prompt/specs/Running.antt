-- What a run of a prompt writes.
use Rattle.std.specs.Prelude.{ℕ, ◌≡◌, ◌+◌, ◌-◌, ◌^◌, ◌<◌, ◌≤◌, ◌⊎◌, ◌++◌, true, false, List, [], Option, length, take}
use Rattle.std.specs.Io.KnownBytes.{append_known}
use Rattle.psg_keys.specs.Reading.{HasRead, Spelled, Waiting}
use Rattle.psg_world.specs.Pieces.{IsPieceOf}
use Rattle.psg_world.specs.Sinks.{TakesFront}
use Rattle.psg_prompt.specs.declared.running.Ending.{Ending}
use Rattle.psg_prompt.specs.declared.running.Ending.TheVariants as endings
use Rattle.psg_prompt.specs.Prompts.{Prompted, after_keys, told_keys, told_end, IsToldOfFirst}

-- such bytes are written after those before
abbrev pub Writes : Option (List ℕ) → Option (List ℕ) → (List ℕ → Type 0) → Type 0
Writes before after P = (bytes : List ℕ) × P bytes × (after ≡ append_known before bytes)

-- an ending where a read failed, or memory ran out
abbrev pub IsOfReading : Ending → Type 0
IsOfReading endings.ReadFault = Unit {0}
IsOfReading endings.Memory = Unit {0}
IsOfReading endings.Done = ⊥
IsOfReading endings.WriteFault = ⊥

-- an ending where the writing failed
abbrev pub IsOfWriting : Ending → Type 0
IsOfWriting endings.WriteFault = Unit {0}
IsOfWriting endings.Memory = Unit {0}
IsOfWriting endings.Done = ⊥
IsOfWriting endings.ReadFault = ⊥

-- what is told of the keys of a piece
abbrev pub answer : Prompted → List Spelled → List ℕ
answer p strokes = told_keys p strokes ++ told_end (after_keys p strokes)

-- that, or where memory runs out what is told of the first of them
abbrev pub IsAnswer : Prompted → List Spelled → List ℕ → Type 0
IsAnswer p strokes bytes = (bytes ≡ answer p strokes) ⊎ IsToldOfFirst p strokes [] bytes

-- Where memory runs out, what is told of the first keys is written all the same. Where the writing fails, a front of
-- what is told is.
pub data IsCut (p : Prompted) (strokes : List Spelled) : Ending → List ℕ → Type 0 where
  no_memory : {bytes : List ℕ} → IsToldOfFirst p strokes [] bytes → IsCut p strokes endings.Memory bytes
  not_written : {ending : Ending} {whole : List ℕ} → IsOfWriting ending → IsAnswer p strokes whole → (count : ℕ)
      → count < length whole → IsCut p strokes ending (take count whole)

-- What there is between two turns: the prompt, what the reader of keys keeps, and what the input has still to give,
-- where that is known.
pub record Scene : Type 0 where
  pub prompt : Prompted
  pub reader : Waiting
  pub input : Option (List ℕ)

abbrev pub scene : Prompted → Waiting → Option (List ℕ) → Scene
scene prompt reader input = record { prompt = prompt; reader = reader; input = input }

-- a piece of the input is read, which has these keys
pub record IsRead (s : Scene) (strokes : List Spelled) (reader : Waiting) (input : Option (List ℕ)) : Type 0 where
  pub piece : List ℕ
  pub given : IsPieceOf s.input input piece
  pub more : piece ≡ [] → ⊥
  pub reads : HasRead s.reader piece strokes reader

-- a turn: a piece of the input is read, its keys are pressed, in order, and it is told of them
pub record IsTurn (s : Scene) (bytes : List ℕ) (t : Scene) : Type 0 where
  pub strokes : List Spelled
  pub read : IsRead s strokes t.reader t.input
  pub pressed : t.prompt ≡ after_keys s.prompt strokes
  pub told : bytes ≡ answer s.prompt strokes

-- The turns of a run, one after the other, after that many turns before: how it ends, and the bytes that are written.
-- It ends by a key, at the end of the input, at a read that fails, where memory runs out, where the writing fails, and
-- after 2^64 - 1 turns.
pub data Runs : ℕ → Scene → Ending → List ℕ → Type 0 where
  turn : {turns : ℕ} {s t : Scene} {ending : Ending} {bytes more : List ℕ} → IsTurn s bytes t
      → t.prompt.ended ≡ false → Runs (turns + 1) t ending more → Runs turns s ending (bytes ++ more)
  by_key : {turns : ℕ} {s t : Scene} {bytes : List ℕ} → IsTurn s bytes t → t.prompt.ended ≡ true
      → Runs turns s endings.Done bytes
  by_input : {turns : ℕ} {s : Scene} (rest : Option (List ℕ)) → IsPieceOf s.input rest [] → Runs turns s endings.Done []
  by_read : {turns : ℕ} {s : Scene} {ending : Ending} → IsOfReading ending → Runs turns s ending []
  by_cut : {turns : ℕ} {s : Scene} {strokes : List Spelled} {reader : Waiting} {rest : Option (List ℕ)}
      {ending : Ending} {bytes : List ℕ} → IsRead s strokes reader rest → IsCut s.prompt strokes ending bytes
      → Runs turns s ending bytes
  by_count : {turns : ℕ} {s : Scene} → 2 ^ 64 - 1 ≤ turns → Runs turns s endings.Done []

-- A whole run: the row is drawn, and there are the turns. Where memory runs out or the writing fails at the beginning
-- there is no turn.
pub data HasRun (s : Scene) (before : Option (List ℕ)) : Ending → Option (List ℕ) → Type 0 where
  is_run : {ending : Ending} {after : Option (List ℕ)} {bytes : List ℕ} → Runs 0 s ending bytes
      → after ≡ append_known before (told_end s.prompt ++ bytes) → HasRun s before ending after
  not_begun : {ending : Ending} {after : Option (List ℕ)} → IsOfWriting ending
      → TakesFront before (told_end s.prompt) after → HasRun s before ending after
  not_drawn : HasRun s before endings.Memory before
