-- The frames of a list of bytes, whatever the pieces in which they are read.
use Rattle.std.specs.Prelude.{ℕ, ◌≡◌, ◌+◌, ◌-◌, ◌++◌, Bool, true, false, List, [], ◌∷◌, length, take, drop, flat_map}
use Rattle.std.specs.Prelude.{Option, MatchOption, codes, decimal, nat_lt, if◌then◌else◌}
use Rattle.psg_protocol.specs.Headers.{head_of}
use Rattle.psg_protocol.specs.declared.headers.Head.{Head}
use Rattle.psg_protocol.specs.declared.headers.Head.TheVariants as heads
use Rattle.psg_protocol.specs.declared.reader.Frame.{Frame}
use Rattle.psg_protocol.specs.declared.reader.Frame.TheVariants as frames

-- a longer body is passed over: 16 MiB
abbrev pub most_body : ℕ
most_body = 16_777_216

-- a body, the length of one that is passed over, or that nothing can be followed any more
pub data Event : Type 0 where
  body : (bytes : List ℕ) → Event
  long : (size : ℕ) → Event
  lost : Event

abbrev pub event_of : Frame → Event
event_of (frames.Body bytes) = body bytes.items
event_of (frames.TooLong size) = long size
event_of frames.Lost = lost

-- what some bytes begin with: nothing that is known yet, or an event and how many bytes it takes
pub data First : Type 0 where
  nothing : First
  found : (event : Event) (size : ℕ) → First

abbrev pub first_by : List ℕ → Head → First
first_by bytes heads.Waits = nothing
first_by bytes heads.Lost = found lost 0
first_by bytes (heads.Whole size n) =
    if nat_lt most_body n then found (long n) (size + n)
    else if nat_lt (length bytes) (size + n) then nothing
    else found (body (take n (drop size bytes))) (size + n)

abbrev pub first_of_all : List ℕ → First
first_of_all bytes = first_by bytes (head_of bytes)

-- What is kept between two pieces: how many bytes are to be passed over, the bytes of a frame that is not whole, and
-- whether nothing can be followed any more.
pub record Rest : Type 0 where
  pub passing : ℕ
  pub bytes : List ℕ
  pub stopped : Bool

-- nothing can be followed any more
abbrev pub at_stop : Rest
at_stop = record { passing = 0; bytes = []; stopped = true }

-- after an event there are the others, which are there by `Others`; after the last one there is none
abbrev pub Goes : Event → List Event → Rest → Type 0 → Type 0
Goes (body bytes) events rest Others = Others
Goes (long size) events rest Others = Others
Goes lost events rest Others = (events ≡ []) × (rest ≡ at_stop)

-- After `passing` bytes that are passed over, the text has these events, and then this rest.
abbrev pub Reads : ℕ → List ℕ → List Event → Rest → Type 0
Reads passing text [] rest =
    (first_of_all (drop passing text) ≡ nothing)
    × (rest ≡ record { passing = passing - length text; bytes = drop passing text; stopped = false })
Reads passing text (event ∷ events) rest =
    (size : ℕ) × (first_of_all (drop passing text) ≡ found event size)
    × Goes event events rest (Reads size (drop passing text) events rest)

abbrev pub is_lost : Event → Bool
is_lost (body bytes) = false
is_lost (long size) = false
is_lost lost = true

-- what is found in a text: its events, and what is kept of it then, if it is not the whole text
pub record Finds (passing : ℕ) (text : List ℕ) (events : List Event) (pass : ℕ) (kept : Option (List ℕ))
    (stopped : Bool) : Type 0 where
  pub rest : List ℕ
  pub reads : Reads passing text events (record { passing = pass; bytes = rest; stopped = stopped })
  pub keeps : MatchOption kept (rest ≡ text) (λ bytes. bytes ≡ rest)

-- what is read of a piece, where nothing can be followed any more, or where it can
abbrev pub HasReadBy : Bool → Rest → List ℕ → List Event → Rest → Type 0
HasReadBy true old piece events new = (events ≡ []) × (new ≡ old)
HasReadBy false old piece events new = Reads old.passing (old.bytes ++ piece) events new

abbrev pub HasRead : Rest → List ℕ → List Event → Rest → Type 0
HasRead old piece events new = HasReadBy old.stopped old piece events new

-- nothing was read yet
abbrev pub at_first : Rest
at_first = record { passing = 0; bytes = []; stopped = false }

-- what is read of pieces that are read one after the other
abbrev pub HasReadAll : Rest → List (List ℕ) → List Event → Rest → Type 0
HasReadAll old [] events new = (events ≡ []) × (new ≡ old)
HasReadAll old (piece ∷ pieces) events new =
    (some : List Event) × (between : Rest) × (more : List Event)
    × HasRead old piece some between × (events ≡ some ++ more) × HasReadAll between pieces more new

abbrev pub joined : List (List ℕ) → List ℕ
joined pieces = flat_map (λ piece. piece) pieces

-- the bytes of a frame with this message as its body
abbrev pub framed : List ℕ → List ℕ
framed message = codes "Content-Length: " ++ decimal (length message) ++ codes "\r\n\r\n" ++ message
