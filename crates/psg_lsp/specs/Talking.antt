-- What is put for what is read, one frame after the other.
use Rattle.std.specs.Prelude.{ℕ, ◌≡◌, ◌++◌, ◌⊎◌, List, [], ◌∷◌, Option, None, codes, false}
use Rattle.std.specs.Io.KnownBytes.{Consumes, IsAtEnd, Keeps, append_known}
use Rattle.serde_json.specs.Data.{Data}
use Rattle.serde_json.specs.Written.{compact_text, has_float}
use Rattle.psg_documents.specs.declared.encoding.Encoding.TheVariants as encodings
use Rattle.psg_grammar.specs.declared.types.Kind.{Kind}
use Rattle.psg_messages.specs.Answers.{refusal_of}
use Rattle.psg_messages.specs.declared.turns.Fault.TheVariants as faults
use Rattle.psg_messages.specs.declared.turns.Phase.TheVariants as phases
use Rattle.psg_protocol.specs.Frames.{Event, HasRead, Reads, Rest, body, framed, long, lost}
use Rattle.psg_server.specs.Answering.{Answers, Out, ended, sent, silent}
use Rattle.psg_server.specs.declared.judging.Defined.{Defined}
use Rattle.psg_server.specs.declared.server.Server.{Server}
use Rattle.psg_lsp.specs.declared.ending.Ending.{Ending}
use Rattle.psg_lsp.specs.declared.ending.Ending.TheVariants as endings

-- the frame of a value is put
abbrev pub IsPutValue : Data → Option (List ℕ) → Option (List ℕ) → Type 0
IsPutValue d before after = after ≡ append_known before (framed (compact_text d))

-- what follows from a message is put, and the server goes on
abbrev pub IsPut : Out → Option (List ℕ) → Option (List ℕ) → Type 0
IsPut silent before after = after ≡ before
IsPut (sent d) before after = IsPutValue d before after
IsPut (ended status) before after = ⊥

-- it has no floats, so that it is written without spaces
abbrev pub IsPlainOut : Out → Type 0
IsPlainOut silent = Unit {0}
IsPlainOut (sent d) = has_float d ≡ false
IsPlainOut (ended status) = Unit {0}

-- what is put where a body is too long, and where a frame has no length
abbrev pub long_data : Data
long_data = refusal_of None faults.WrongShape (codes "this is too long")

abbrev pub lost_data : Data
lost_data = refusal_of None faults.NoJson (codes "this has no length")

-- ---- frames that are taken

-- A frame is taken, and the server goes on: what follows from its body is put. A body that is too long changes nothing.
pub data IsTaken (def : Defined) (kind : Kind) (old new : Server) (before after : Option (List ℕ)) : Event
    → Type 0 where
  takes_body : (bytes : List ℕ) (out : Out) → Answers def kind bytes old new out → IsPut out before after
      → IsTaken def kind old new before after (body bytes)
  takes_long : (size : ℕ) → new ≡ old → IsPutValue long_data before after
      → IsTaken def kind old new before after (long size)

-- frames are taken, one after the other
pub data AreTaken (def : Defined) (kind : Kind) : Server → Option (List ℕ) → List Event → Server → Option (List ℕ)
    → Type 0 where
  none_taken : {s : Server} {written : Option (List ℕ)} → AreTaken def kind s written [] s written
  more_taken : {old new : Server} {before after : Option (List ℕ)} {events : List Event} (between : Server)
      (written : Option (List ℕ)) (event : Event) → IsTaken def kind old between before written event
      → AreTaken def kind between written events new after → AreTaken def kind old before (event ∷ events) new after

-- ---- how the server ends

-- the output failed, or there was no memory left: then nothing is said of what was put
abbrev pub IsBroken : Ending → Type 0
IsBroken (endings.Told status) = ⊥
IsBroken endings.Refused = ⊥
IsBroken endings.Words = ⊥
IsBroken endings.ReadFault = ⊥
IsBroken endings.WriteFault = Unit {0}
IsBroken endings.Memory = Unit {0}
IsBroken endings.TooLong = ⊥

-- The server ends with a frame: the client says so, and nothing is put; or the frame has no length, so that no other
-- one can be found, and that is put.
pub data Stops (def : Defined) (kind : Kind) (old : Server) (before after : Option (List ℕ)) : Event → Ending
    → Type 0 where
  by_exit : (bytes : List ℕ) (new : Server) (status : ℕ) → Answers def kind bytes old new (ended status)
      → after ≡ before
      → Stops def kind old before after (body bytes) (endings.Told status)
  by_loss : IsPutValue lost_data before after → Stops def kind old before after lost endings.ReadFault
  by_break : (event : Event) (ending : Ending) → IsBroken ending → Stops def kind old before after event ending

-- it ends with one of the frames, after the ones before it
pub record StopsWithin (def : Defined) (kind : Kind) (old : Server) (before after : Option (List ℕ))
    (events : List Event)
    (ending : Ending) : Type 0 where
  pub taken : List Event
  pub event : Event
  pub left : List Event
  pub all : events ≡ taken ++ event ∷ left
  pub server : Server
  pub written : Option (List ℕ)
  pub are_taken : AreTaken def kind old before taken server written
  pub stops : Stops def kind server written after event ending

-- the server ends with what follows from a message
abbrev pub EndsWith : Out → Option (List ℕ) → Option (List ℕ) → Ending → Type 0
EndsWith out before after ending =
    IsBroken ending ⊎ ((status : ℕ) × (out ≡ ended status) × (after ≡ before) × (ending ≡ endings.Told status))

-- ---- a piece of the input

-- where a conversation is: what is left of the input, what is read of it, the server, and what was put
pub record Place : Type 0 where
  pub left : Option (List ℕ)
  pub rest : Rest
  pub server : Server
  pub written : Option (List ℕ)

abbrev pub place_at : Option (List ℕ) → Rest → Server → Option (List ℕ) → Place
place_at left rest server written = record { left = left; rest = rest; server = server; written = written }

-- the frames that are whole with a piece are taken
abbrev pub IsPieceTaken : Defined → Kind → (old new : Server) (rest next : Rest) (piece : List ℕ)
    (before after : Option (List ℕ)) → Type 0
IsPieceTaken def kind old new rest next piece before after =
    (events : List Event) × HasRead rest piece events next × AreTaken def kind old before events new after

-- the server ends with one of the frames that are whole with a piece
abbrev pub StopsAtPiece : Defined → Kind
    → (old : Server) (rest : Rest) (piece : List ℕ) (before after : Option (List ℕ))
    → Ending → Type 0
StopsAtPiece def kind old rest piece before after ending =
    IsBroken ending ⊎ ((events : List Event) × (next : Rest) × HasRead rest piece events next
    × StopsWithin def kind old before after events ending)

-- a piece is read, and its frames are taken
pub record GoesOn (def : Defined) (kind : Kind) (old new : Place) : Type 0 where
  pub piece : List ℕ
  pub input : Consumes old.left new.left piece
  pub events : List Event
  pub reads : HasRead old.rest piece events new.rest
  pub taken : AreTaken def kind old.server old.written events new.server new.written

-- The input ends, or can't be read; or a piece is read, and the server ends with one of its frames.
pub data IsOver (def : Defined) (kind : Kind) (old : Place) (left after : Option (List ℕ)) : Ending → Type 0 where
  no_piece : Consumes old.left left [] → IsAtEnd left → after ≡ old.written
      → IsOver def kind old left after (endings.Told 0)
  no_reading : Keeps old.left left → after ≡ old.written → IsOver def kind old left after endings.ReadFault
  no_more : (piece : List ℕ) (events : List Event) (rest : Rest) (ending : Ending) → Consumes old.left left piece
      → HasRead old.rest piece events rest → StopsWithin def kind old.server old.written after events ending
      → IsOver def kind old left after ending
  no_way : (ending : Ending) → IsBroken ending → IsOver def kind old left after ending

-- ---- the conversation

-- the server before any message
abbrev pub at_start : Server
at_start = record { phase = phases.Before; encoding = encodings.Utf16; documents = [] }

-- The frames that were read are all taken, and the input ends, or can't be read further. Or the server ends with one of
-- them.
pub data Ends (def : Defined) (kind : Kind) (now before after : Option (List ℕ)) (events : List Event) : Ending
    → Type 0 where
  at_end : (server : Server) → AreTaken def kind at_start before events server after → IsAtEnd now
      → Ends def kind now before after events (endings.Told 0)
  at_fault : (server : Server) → AreTaken def kind at_start before events server after
      → Ends def kind now before after events endings.ReadFault
  within : (ending : Ending) → StopsWithin def kind at_start before after events ending
      → Ends def kind now before after events ending

-- The bytes that were taken from the input are those of some frames, however they were cut, and the server ends with
-- them.
pub record HasTalked (def : Defined) (kind : Kind) (left now before after : Option (List ℕ))
    (ending : Ending) : Type 0
  where
    pub bytes : List ℕ
    pub input : Consumes left now bytes
    pub events : List Event
    pub rest : Rest
    pub reads : Reads 0 bytes events rest
    pub ends : Ends def kind now before after events ending

abbrev pub Talks : Defined → Kind → (left now before after : Option (List ℕ)) → Ending → Type 0
Talks def kind left now before after ending = IsBroken ending ⊎ HasTalked def kind left now before after ending
