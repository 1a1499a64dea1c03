-- The first fault of the meaning of lines.
use Rattle.std.specs.Prelude.{◌≡◌, ◌+◌, Some, List, [], ◌∷◌, ◌++◌, length, Option, None}
use Rattle.std.specs.List.{AllByRecursion}
use Rattle.psg_deflines.specs.Entries.{Entry, written}
use Rattle.psg_deflines.specs.Refusals.{IsFirstOf}
use Rattle.psg_deflines.specs.declared.fault.DefCode.{DefCode}
use Rattle.psg_deflines.specs.declared.fault.DefCode.TheVariants as codes
use Rattle.psg_deflines.specs.declared.fault.DefFault.{DefFault}
use Rattle.psg_deflines.specs.declared.lines.Line.{Line}
use Rattle.psg_defcheck.specs.Meanings.{IsNew, IsKnown, IsCounted, IsSorted, HasEntity, HasGround, HasChoice}

-- the tests of a line's meaning
abbrev pub meaning_codes : List DefCode
meaning_codes =
    codes.Repeated ∷ codes.Unknown ∷ codes.Count ∷ codes.Sort ∷ codes.NoEntity ∷ codes.NoGround ∷ codes.OneWide ∷ []

-- The line passes the test of the code. `file` has all lines, `above` those before the line. A code that no test of
-- meaning has is always passed.
abbrev pub PassesMeaning : List Line → List Line → Line → DefCode → Type 0
PassesMeaning file above line codes.Repeated = IsNew above line
PassesMeaning file above line codes.Unknown = IsKnown file line
PassesMeaning file above line codes.Count = IsCounted file above line
PassesMeaning file above line codes.Sort = IsSorted file above line
PassesMeaning file above line codes.NoEntity = HasEntity file line
PassesMeaning file above line codes.NoGround = HasGround file line
PassesMeaning file above line codes.OneWide = HasChoice line
PassesMeaning file above line _ = Unit {0}

-- each of the lines, with those above it, passes all tests of its meaning
abbrev pub ArePassed : List Line → List Line → List Line → Type 0
ArePassed file above [] = Unit {0}
ArePassed file above (line ∷ rest) = AllByRecursion (PassesMeaning file above line) meaning_codes
    × ArePassed file (above ++ line ∷ []) rest

-- The first fault of a line's meaning: the lines before it have none. Entries are counted from line 2, which follows
-- the head.
pub record IsMeaningFault (entries : List Entry) (fault : DefFault) : Type 0 where
  pub front : List Entry
  pub line : Line
  pub behind : List Entry
  pub split : entries ≡ front ++ Some line ∷ behind
  pub passed : ArePassed (written entries) [] (written front)
  pub first : IsFirstOf (PassesMeaning (written entries) (written front) line) meaning_codes fault.code
  pub place : fault.line ≡ length front + 2

-- the first fault of a line, or none
abbrev pub IsLineFault : List Line → List Line → Line → Option DefCode → Type 0
IsLineFault file above line None = AllByRecursion (PassesMeaning file above line) meaning_codes
IsLineFault file above line (Some code) = IsFirstOf (PassesMeaning file above line) meaning_codes code
