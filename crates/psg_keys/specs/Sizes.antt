-- How many bytes the first key of some bytes has. `None` says that more bytes must be read before it is known.
use Rattle.std.specs.Prelude.{ℕ, ◌+◌, ◌==◌, ◌&&◌, ◌||◌, not, Bool, true, false, List, [], ◌∷◌, Option, Some, None}
use Rattle.std.specs.Prelude.{length, take, position, slice_index, nat_lt, nat_le, if◌then◌else◌}
use Rattle.std.specs.Option.{option_map}

-- the byte is one of those from `low` up to `high`
abbrev pub is_between : ℕ → ℕ → ℕ → Bool
is_between low high b = nat_le low b && nat_le b high

-- the bytes inside a sequence are those from a space up to `?`
abbrev pub ends_sequence : ℕ → Bool
ends_sequence b = not (is_between 0x20 0x3F b)

-- the bytes of a character after its first one
abbrev pub ends_character : ℕ → Bool
ends_character b = not (is_between 0x80 0xBF b)

-- The length of the run of bytes up to one that ends it, which has at most `most` bytes. It is not known where the
-- bytes end first.
abbrev pub run_at : ℕ → List ℕ → Option ℕ → Option ℕ
run_at most bytes (Some place) = Some place
run_at most bytes None = if nat_lt (length bytes) most then None else Some most

abbrev pub run : (ℕ → Bool) → ℕ → List ℕ → Option ℕ
run ends most bytes = run_at most bytes (position ends (take most bytes))

-- A sequence after its first two bytes: inside bytes and one that ends it, from `@` up to `~`. Any other byte is not
-- part of it, and it has at most 30 bytes.
abbrev pub with_last : List ℕ → ℕ → ℕ
with_last bytes inside =
    if nat_lt inside 30 && is_between 0x40 0x7E (slice_index bytes inside) then inside + 1 else inside

abbrev pub body_size : List ℕ → Option ℕ
body_size bytes = option_map (with_last bytes) (run ends_sequence 30 bytes)

-- An escape begins a sequence before `[` or `O`. Before any other byte it is a key by itself.
abbrev pub begins_sequence : ℕ → Bool
begins_sequence b = (b == 91) || (b == 79)

abbrev pub escape_size : List ℕ → Option ℕ
escape_size [] = None
escape_size (b ∷ body) = if begins_sequence b then option_map (λ n. n + 2) (body_size body) else Some 1

-- how many bytes a character has after its first one; a byte that begins no character has none
abbrev pub follow_count : ℕ → ℕ
follow_count b =
    if nat_lt b 0xC2 then 0
    else if nat_lt b 0xE0 then 1
    else if nat_lt b 0xF0 then 2
    else if nat_lt b 0xF5 then 3 else 0

-- all bytes of the character, or the first one alone where it is not followed as it should be
abbrev pub character_size : ℕ → List ℕ → Option ℕ
character_size b rest =
    option_map (λ n. if n == follow_count b then n + 1 else 1) (run ends_character (follow_count b) rest)

-- whether the bytes begin with the mark, which is not known where they end first
abbrev pub begins_with : List ℕ → List ℕ → Option Bool
begins_with [] bytes = Some true
begins_with (m ∷ mark) [] = None
begins_with (m ∷ mark) (b ∷ bytes) = if m == b then begins_with mark bytes else Some false

-- the end of a paste after its escape: `[201~`
abbrev pub end_of_paste : List ℕ
end_of_paste = 91 ∷ 50 ∷ 48 ∷ 49 ∷ 126 ∷ []

-- an escape in a paste is the end of the paste, or a character of its own
abbrev pub pasted_escape_size : List ℕ → Option ℕ
pasted_escape_size rest = option_map (λ ends. if ends then 6 else 1) (begins_with end_of_paste rest)

-- the size of the first key of the bytes, in a paste or not
abbrev pub first_size : Bool → List ℕ → Option ℕ
first_size pasting [] = None
first_size pasting (b ∷ rest) =
    if b == 27 then (if pasting then pasted_escape_size rest else escape_size rest) else character_size b rest
