-- What the lines of a file are together is sound.
use Rattle.std.specs.Prelude.{ℕ, true, ◌≡◌, ◌<◌, ◌+◌, ◌^◌, List, [], ◌∷◌, length}
use Rattle.std.specs.List.{AllByRecursion}
use Rattle.psg_terms.specs.Sound.{IsSound as IsSoundSignature}
use Rattle.psg_grammar.specs.declared.types.Definition.{Definition}
use Rattle.psg_grammar.specs.Sound.{IsSound}
use Rattle.psg_grammar.specs.WellFormed.{fixed_words}
use Rattle.psg_deflines.specs.Versions.{IsVersion, is_of}
use Rattle.psg_deflines.specs.Entries.{Entry, written, AreEntries, IsPlain}
use Rattle.psg_deflines.specs.declared.lines.Line.{Line}
use Rattle.psg_lexis.specs.Tokens.{IsFixedWord}
use Rattle.psg_defnumber.specs.Numbers.{IsNumbered}

-- the bytes of all texts
abbrev pub total : List (List ℕ) → ℕ
total [] = 0
total (text ∷ texts) = length text + total texts

-- the lines are those of a file of fewer than 2^32 bytes
pub record AreOfFile (file : List Line) : Type 0 where
  pub texts : List (List ℕ)
  pub entries : List Entry
  pub each : AreEntries [] texts entries
  pub lines : written entries ≡ file
  pub few : total texts < 2 ^ 32

-- a definition that the lines of a file of fewer than 2^32 bytes are together is sound
abbrev pub NumberedIsSound : Type 0
NumberedIsSound = (version : ℕ) (texts : List (List ℕ)) (entries : List Entry) (def : Definition) → IsVersion version
    → total texts < 2 ^ 32
    → AreEntries [] texts entries → AllByRecursion (λ line. is_of version line ≡ true) (written entries)
    → IsNumbered version (written entries) def → IsSoundSignature def.signature → IsSound def

-- each fixed word and each separator of such a definition is one token
abbrev pub WordsAreTokens : Type 0
WordsAreTokens = (version : ℕ) (entries : List Entry) (def : Definition)
    → AllByRecursion (IsPlain version) (written entries) → IsNumbered version (written entries) def
    → AllByRecursion IsFixedWord (fixed_words def)
