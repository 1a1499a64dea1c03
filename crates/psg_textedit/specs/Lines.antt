-- The lines of a text on which bytes are replaced.
use Rattle.std.specs.Prelude.{ℕ, ◌≡◌, ◌⊎◌, List, [], ◌∷◌, ◌++◌, take, drop, IsUtf8}
use Rattle.psg_unparse.specs.Splicing.{IsOneLine}
use Rattle.psg_textedit.specs.Regions.{Typing}

-- there are no bytes, or they begin with a line feed
abbrev pub BeginsLine : List ℕ → Type 0
BeginsLine bs = (bs ≡ []) ⊎ ((rest : List ℕ) × (bs ≡ 10 ∷ rest))

-- The line is the last one of the text that the two parts are: it begins with the last line feed, or it is the whole
-- text, which has none.
abbrev pub IsLastLine : List ℕ → List ℕ → Type 0
IsLastLine front line =
    ((front ≡ []) × IsOneLine line) ⊎ ((rest : List ℕ) × (line ≡ 10 ∷ rest) × IsOneLine rest)

-- The bytes before the replaced ones, from the last line feed or the beginning of the text on, and those after them, up
-- to the first line feed or the end of the text.
pub record AreLines (e : Typing) (text before behind : List ℕ) : Type 0 where
  pub front : List ℕ
  pub back : List ℕ
  pub first : take e.start text ≡ front ++ before
  pub last : drop e.end text ≡ behind ++ back
  pub begins : IsLastLine front before
  pub ends : BeginsLine back
  pub one : IsOneLine behind
  pub front_utf8 : IsUtf8 front
  pub before_utf8 : IsUtf8 before
  pub behind_utf8 : IsUtf8 behind

-- these lines with the new bytes
abbrev pub lines_with : Typing → List ℕ → List ℕ → List ℕ
lines_with e before behind = before ++ (e.new ++ behind)
