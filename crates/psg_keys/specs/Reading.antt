-- Keys from bytes that are read in pieces.
use Rattle.std.specs.Prelude.{ℕ, ◌≡◌, ◌==◌, ◌&&◌, ◌||◌, not, nat_le, Bool, true, false, List, [], ◌∷◌, ◌++◌, Some, None}
use Rattle.std.specs.Prelude.{length, drop, flat_map, slice_index, if◌then◌else◌}
use Rattle.psg_keys.specs.Sizes.{first_size, begins_sequence}
use Rattle.psg_keys.specs.Names.{key_of, goes_on}
use Rattle.psg_keys.specs.declared.key.Key.{Key}
use Rattle.psg_keys.specs.declared.key.Key.TheVariants as keys

-- a key with the bytes that it is
pub record Spelled : Type 0 where
  pub key : Key
  pub bytes : List ℕ

-- What is kept between two pieces: whether a paste goes on, whether the first byte that is kept is an escape that was
-- given as a key already, and the bytes that are kept, of which the first key is not known yet.
pub record Waiting : Type 0 where
  pub pasting : Bool
  pub late : Bool
  pub bytes : List ℕ

-- The text is the bytes of these keys, one after the other, and of a rest whose first key is not known yet. `after`
-- says whether a paste goes on then.
abbrev pub Reads : Bool → List ℕ → List Spelled → Bool → List ℕ → Type 0
Reads pasting text [] after rest = (first_size pasting text ≡ None) × (after ≡ pasting) × (rest ≡ text)
Reads pasting text (s ∷ more) after rest =
    (behind : List ℕ)
    × (text ≡ s.bytes ++ behind)
    × (first_size pasting text ≡ Some (length s.bytes))
    × (s.key ≡ key_of pasting s.bytes)
    × Reads (goes_on pasting s.key) behind more after rest

-- An escape that ended a piece was given as a key. It begins a sequence all the same where the next piece is `[` or `O`
-- and more: a slow line cut the sequence there. A `[` that is typed is sent alone.
abbrev pub is_continued : List ℕ → List ℕ → Bool
is_continued kept piece =
    nat_le 2 (length kept) || (nat_le 2 (length piece) && begins_sequence (slice_index piece 0))

abbrev pub is_late : Waiting → List ℕ → Bool
is_late waiting piece = waiting.late && is_continued waiting.bytes piece

-- the bytes that are read with a piece
abbrev pub text_of : Waiting → List ℕ → List ℕ
text_of waiting piece =
    if waiting.late && not (is_continued waiting.bytes piece) then piece else waiting.bytes ++ piece

-- the keys without an escape that was given before
abbrev pub without_escape : Bool → List Spelled → List Spelled
without_escape false read = read
without_escape true [] = []
without_escape true (s ∷ more) = record { key = s.key; bytes = drop 1 s.bytes } ∷ more

abbrev pub no_keys : List Spelled → Bool
no_keys [] = true
no_keys (s ∷ more) = false

-- the rest is an escape, which is a key at the end of a piece
abbrev pub is_escape : Bool → List ℕ → Bool
is_escape pasting rest = not pasting && (length rest == 1) && (slice_index rest 0 == 27)

abbrev pub last_keys : Bool → List Spelled
last_keys true = record { key = keys.Escape; bytes = 27 ∷ [] } ∷ []
last_keys false = []

-- what is read of a piece: the keys of its text, and an escape at its end
pub record HasRead (old : Waiting) (piece : List ℕ) (given : List Spelled) (new : Waiting) : Type 0 where
  pub read : List Spelled
  pub keys : Reads old.pasting (text_of old piece) read new.pasting new.bytes
  pub told : given ≡ without_escape (is_late old piece) read ++ last_keys (is_escape new.pasting new.bytes)
  pub marked : new.late
      ≡ (is_escape new.pasting new.bytes || (is_late old piece && no_keys read))

-- what is found in a text, of which the first byte may be an escape that was given before
pub record Finds (pasting late : Bool) (text : List ℕ) (given : List Spelled) (after still : Bool)
    (rest : List ℕ) : Type 0 where
  pub read : List Spelled
  pub keys : Reads pasting text read after rest
  pub told : given ≡ without_escape late read
  pub left : still ≡ (late && no_keys read)

-- the bytes that are in no key yet
abbrev pub unread : Waiting → List ℕ
unread waiting = if waiting.late then drop 1 waiting.bytes else waiting.bytes

-- the bytes of keys, one after the other
abbrev pub spelled : List Spelled → List ℕ
spelled given = flat_map (λ s. s.bytes) given

-- nothing was read yet
abbrev pub at_first : Waiting
at_first = record { pasting = false; late = false; bytes = [] }

-- what is read of pieces, one after the other
abbrev pub HasReadAll : Waiting → List (List ℕ) → List Spelled → Waiting → Type 0
HasReadAll old [] given new = (given ≡ []) × (new ≡ old)
HasReadAll old (piece ∷ pieces) given new =
    (first : List Spelled) × (between : Waiting) × (more : List Spelled)
    × HasRead old piece first between
    × (given ≡ first ++ more)
    × HasReadAll between pieces more new

-- the bytes of pieces, one after the other
abbrev pub joined : List (List ℕ) → List ℕ
joined pieces = flat_map (λ piece. piece) pieces

-- the piece does not end in an escape
abbrev pub EndsInNoEscape : List ℕ → Type 0
EndsInNoEscape piece = (front : List ℕ) → piece ≡ front ++ 27 ∷ [] → ⊥

-- none of the pieces ends in an escape
abbrev pub EndInNoEscape : List (List ℕ) → Type 0
EndInNoEscape [] = Unit {0}
EndInNoEscape (piece ∷ pieces) = EndsInNoEscape piece × EndInNoEscape pieces
