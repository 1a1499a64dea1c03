-- What a quoted text has at a place inside it.
use Rattle.std.specs.Prelude.{ℕ, ◌≡◌, ◌≢◌, ◌⊎◌, ◌+◌, ◌≤◌, false, None, List, [], ◌∷◌, ◌++◌, length, encode_utf8}
use Rattle.std.specs.Prelude.{encode_utf8_all, chars, IsTrue, IsUtf8}
use Rattle.unicode_width.specs.Width.{char_width}
use Rattle.psg_lexis.specs.Classes.{Chars, is_escape, EndsBy}
use Rattle.psg_lexis.specs.Tokens.{is_content, escaped}
use Rattle.psg_lexis.specs.declared.literal.Piece.{Piece}
use Rattle.psg_lexis.specs.declared.literal.Piece.TheVariants as pieces

-- the text is this character of the contents, as it is written, and what follows
pub record IsContent (text : List ℕ) (c : ℕ) (rest : List ℕ) : Type 0 where
  pub content : IsTrue (is_content c)
  pub bytes : text ≡ encode_utf8_all (escaped c) ++ rest
  pub characters : chars text ≡ escaped c ++ chars rest
  pub size : length (encode_utf8 c) + length rest ≤ length text
  pub utf8 : IsUtf8 rest

-- the characters begin with one that has no width, and is neither a quote nor a backslash
pub record HasNoWidth (cs : Chars) : Type 0 where
  pub first : ℕ
  pub rest : Chars
  pub whole : cs ≡ first ∷ rest
  pub quote : first ≢ 34
  pub backslash : first ≢ 92
  pub line_end : first ≢ 10
  pub width : char_width false first ≡ None

-- what the text begins with, and what follows, inside a quoted text
abbrev pub IsPiece : List ℕ → Piece → Type 0
IsPiece text (pieces.Content c rest) = IsContent text c rest.now
IsPiece text pieces.Closing = (cs : Chars) × (chars text ≡ 34 ∷ cs)
IsPiece text pieces.LineEnd = (chars text ≡ []) ⊎ ((cs : Chars) × (chars text ≡ 10 ∷ cs))
IsPiece text pieces.NoWidth = HasNoWidth (chars text)
IsPiece text pieces.NoEscape = (cs : Chars) × (chars text ≡ 92 ∷ cs) × EndsBy is_escape cs
