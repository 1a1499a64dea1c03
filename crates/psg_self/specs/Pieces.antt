-- The parts of a line in a text, where names may have any letters. For proofs alone.
use Rattle.std.specs.Prelude.{ℕ, ◌≡◌, ◌<◌, ◌||◌, nat_le, Bool, true, false, List, [], ◌∷◌, ◌++◌, length, replicate}
use Rattle.std.specs.Prelude.{IsUtf8}
use Rattle.std.specs.List.{list_all}
use Rattle.psg_deflines.specs.Written.{goes_on_word}
use Rattle.psg_deflines.specs.WrittenTrees.{quoted_part}
use Rattle.psg_deflines.specs.Parts.{is_sigil, IsMarkPart}

-- letters, digits, `_` and `@`, and each byte of a character that is not ASCII
abbrev pub is_broad : ℕ → Bool
is_broad c = goes_on_word c || nat_le 128 c

abbrev pub begins_broad : List ℕ → Bool
begins_broad [] = false
begins_broad (c ∷ cs) = is_broad c

pub record IsRun (p : List ℕ) : Type 0 where
  pub long : 0 < length p
  pub run : list_all is_broad p ≡ true

-- a run, a run after a sigil, a mark, or a quoted text
pub data Piece (p : List ℕ) : Type 0 where
  run_piece : IsRun p → Piece p
  sign_piece : (sigil : ℕ) (name : List ℕ) → is_sigil sigil ≡ true → IsRun name → p ≡ sigil ∷ name → Piece p
  mark_piece : IsMarkPart p → Piece p
  quote_piece : (w : List ℕ) → p ≡ quoted_part w → IsUtf8 w → Piece p

-- what follows does not go on with the piece
abbrev pub IsEnded : {p : List ℕ} → Piece p → List ℕ → Type 0
IsEnded (run_piece r) x = begins_broad x ≡ false
IsEnded (sign_piece s n i r e) x = begins_broad x ≡ false
IsEnded (mark_piece m) x = Unit {0}
IsEnded (quote_piece w e u) x = Unit {0}

-- the text has these parts in order, with any number of spaces in front of each
abbrev pub Laid : List (List ℕ) → List ℕ → Type 0
Laid [] x = x ≡ []
Laid (p ∷ ps) x = (n : ℕ) × (rest : List ℕ) × (piece : Piece p) × (x ≡ replicate n 32 ++ (p ++ rest))
    × IsEnded piece rest
    × Laid ps rest
