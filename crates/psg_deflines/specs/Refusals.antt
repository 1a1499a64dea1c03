-- The first fault of the form of a file.
use Rattle.std.specs.Prelude.{ℕ, true, ◌≡◌, ◌<◌, ◌≤◌, ◌+◌, ◌==◌, ◌⊎◌, List, [], ◌∷◌, ◌++◌, cond, length, take, IsUtf8}
use Rattle.std.specs.List.{AllByRecursion}
use Rattle.std.specs.Str.Lines.{lines}
use Rattle.psg_deflines.specs.Forms.{HasFixedWords, IsShallow}
use Rattle.psg_deflines.specs.Versions.{is_of}
use Rattle.psg_deflines.specs.Entries.{IsSkipped, IsLineBehind, Entry, written, AreEntries, HasHead, behind_head}
use Rattle.psg_deflines.specs.Entries.{IsPlain}
use Rattle.psg_deflines.specs.declared.fault.DefCode.{DefCode}
use Rattle.psg_deflines.specs.declared.fault.DefCode.TheVariants as codes
use Rattle.psg_deflines.specs.declared.fault.DefFault.{DefFault}
use Rattle.psg_deflines.specs.declared.fault.ReadFault.{ReadFault}
use Rattle.psg_deflines.specs.declared.fault.ReadFault.TheVariants.{Def, Memory}
use Rattle.psg_deflines.specs.declared.lines.Line.{Line}

-- The code is the first of these whose test fails.
abbrev pub IsFirstOf : (DefCode → Type 0) → List DefCode → DefCode → Type 0
IsFirstOf Passes [] code = ⊥
IsFirstOf Passes (c ∷ rest) code = ((Passes c → ⊥) × (code ≡ c)) ⊎ (Passes c × IsFirstOf Passes rest code)

-- The tests of a text of the version after these lines, before its meaning is looked at. A text that is skipped passes;
-- no line begins as one does.
abbrev pub form_codes : List DefCode
form_codes = codes.Form ∷ codes.Token ∷ codes.Nested ∷ []

-- The text passes the test of the code. The tests of words and of nesting speak of what the text is as a line, so one
-- that is none passes them.
abbrev pub PassesForm : ℕ → List Line → List ℕ → DefCode → Type 0
PassesForm version above text codes.Form =
    IsSkipped text ⊎ ((line : Line) × IsLineBehind above text line × (is_of version line ≡ true))
PassesForm version above text codes.Token = (line : Line) → IsLineBehind above text line → HasFixedWords line
PassesForm version above text codes.Nested = (line : Line) → IsLineBehind above text line → IsShallow line
PassesForm version above text _ = Unit {0}

-- how many line feeds there are
abbrev pub line_feeds : List ℕ → ℕ
line_feeds [] = 0
line_feeds (c ∷ cs) = cond (c == 10) (1 + line_feeds cs) (line_feeds cs)

-- the first n bytes are the longest beginning that is UTF-8, and bytes follow
pub record IsFirstBad (bytes : List ℕ) (n : ℕ) : Type 0 where
  pub inside : n < length bytes
  pub before : IsUtf8 (take n bytes)
  pub longest : (m : ℕ) → n < m → m ≤ length bytes → IsUtf8 (take m bytes) → ⊥

-- A fault of a text in a file of the version, after which anything may follow: the texts before it are lines of the
-- version without a fault of form.
pub record HasFormFault (version : ℕ) (texts : List (List ℕ)) (fault : DefFault) : Type 0 where
  pub front : List (List ℕ)
  pub text : List ℕ
  pub behind : List (List ℕ)
  pub split : texts ≡ front ++ text ∷ behind
  pub entries : List Entry
  pub each : AreEntries [] front entries
  pub plain : AllByRecursion (IsPlain version) (written entries)
  pub first : IsFirstOf (PassesForm version (written entries) text) form_codes fault.code
  -- the head is line 1
  pub place : fault.line ≡ length front + 2

-- The first fault before the meaning of lines is looked at: of the bytes as a text, of the head, then of the form of
-- each line.
pub data FormRefusal (bytes : List ℕ) (fault : DefFault) : Type 0 where
  no_text : (n : ℕ) → IsFirstBad bytes n → fault.line ≡ line_feeds (take n bytes) + 1 → fault.code ≡ codes.NotText
      → FormRefusal bytes fault
  no_head : IsUtf8 bytes → ((version : ℕ) → HasHead version (lines bytes) → ⊥) → fault.line ≡ 1
      → fault.code ≡ codes.Version → FormRefusal bytes fault
  no_form : (version : ℕ) → IsUtf8 bytes → HasHead version (lines bytes)
      → HasFormFault version (behind_head (lines bytes)) fault → FormRefusal bytes fault

-- a fault is the first one of the bytes; memory may run out at any time
abbrev pub IsFormFault : List ℕ → ReadFault → Type 0
IsFormFault bytes (Def fault) = FormRefusal bytes fault
IsFormFault bytes Memory = Unit {0}
