-- What is written of a row, and what a step of the writer adds.
use Rattle.std.specs.Prelude.{ℕ, ◌≡◌, ◌+◌, ◌*◌, ◌&&◌, not, Bool, false, cond, List, [], ◌∷◌}
use Rattle.std.specs.Prelude.{◌++◌, length, replicate, Option, Some, None, string_bytes}
use Rattle.std.specs.List.{list_any}
use Rattle.std.specs.Option.{option_or}
use Rattle.psg_grammar.specs.declared.types.Item.{Item}
use Rattle.psg_grammar.specs.declared.types.Item.TheVariants as items
use Rattle.psg_unparse.specs.Rows.{Piece, token, mark}
use Rattle.psg_unparse.specs.Layout.{is_line, is_tight, is_space, glues, last_in}
use Rattle.psg_unparse.specs.Layout.{marks_behind, open_behind, gap, laid}
use Rattle.psg_unparse.specs.Plain.{head_in, plain_in}
use Rattle.psg_unparse.specs.declared.layout.Writer.{Writer}

-- the writer has written the row
pub record IsWritten (w : Writer) (row : List Piece) : Type 0 where
  pub bytes : string_bytes w.out ≡ laid [] row
  pub last : w.last ≡ last_in None row
  pub levels : w.levels ≡ open_behind 0 row
  pub line : w.line ≡ list_any is_line (marks_behind [] row)
  pub tight : w.tight ≡ list_any is_tight (marks_behind [] row)
  pub space : w.space ≡ list_any is_space (marks_behind [] row)
  pub plain : w.plain ≡ plain_in None row
  pub head : w.head ≡ head_in row

-- the byte at which the first token of a row begins, after the row before it
abbrev pub first_in : List Piece → List Piece → Option ℕ
first_in before [] = None
first_in before (token t ∷ rest) = Some (length (laid [] before) + length (gap before t))
first_in before (mark i ∷ rest) = first_in (before ++ mark i ∷ []) rest

-- the pieces are added, whatever row was written before; the first token's place is kept unless there is one already
pub record Adds (pieces : List Piece) (old new : Writer) : Type 0 where
  pub written : (before : List Piece) → IsWritten old before → IsWritten new (before ++ pieces)
  pub first : (before : List Piece) → IsWritten old before → new.first ≡ option_or old.first (first_in before pieces)

-- an item in front of a part
abbrev pub piece : Item → Piece
piece (items.Word w) = token w
piece i = mark i

abbrev pub glues_with : ℕ → Option ℕ → Bool
glues_with c None = false
glues_with c (Some d) = glues c d

-- what the writer puts between the character and a token that begins with the other one
abbrev pub gap_behind : Writer → ℕ → Option ℕ → List ℕ
gap_behind w c begins =
    cond w.line (10 ∷ replicate (2 * w.levels) 32)
    (cond (w.tight && not w.space) (cond (glues_with c begins) (32 ∷ []) []) (32 ∷ []))

-- what the writer puts after the first character, where there is one, and before a token that begins with the second
abbrev pub gap_in : Writer → Option ℕ → Option ℕ → List ℕ
gap_in w None begins = []
gap_in w (Some c) begins = gap_behind w c begins

-- the first character of the first token, where the next one begins with this character
abbrev pub head_with : Option ℕ → Option ℕ → Option ℕ → Option ℕ
head_with None begins head = begins
head_with (Some c) begins head = head

-- the gap is written in front of a token that begins with the character
pub record IsBegun (begins : Option ℕ) (old new : Writer) : Type 0 where
  pub bytes : string_bytes new.out ≡ string_bytes old.out ++ gap_in old old.last begins
  pub first : new.first ≡ option_or old.first (Some (length (string_bytes new.out)))
  pub levels : new.levels ≡ old.levels
  pub plain : new.plain ≡ old.plain
  pub head : new.head ≡ head_with old.last begins old.head

-- the token's bytes are written, and its last character is kept
abbrev pub ended_by : ℕ → Writer → Writer
ended_by c w = record w { last = Some c; line = false; tight = false; space = false }
