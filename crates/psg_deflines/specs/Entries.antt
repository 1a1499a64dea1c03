-- The texts of a file as lines.
use Rattle.std.specs.Prelude.{ℕ, ◌+◌, ◌≡◌, Bool, true, false, Option, Some, None, List, [], ◌∷◌, ◌++◌, codes, IsTrue}
use Rattle.std.specs.List.{AllByRecursion}
use Rattle.psg_deflines.specs.Written.{IsWritten}
use Rattle.psg_deflines.specs.Forms.{SpellsLine, HasFixedWords, IsShallow}
use Rattle.psg_deflines.specs.Versions.{IsVersion, is_of}
use Rattle.psg_deflines.specs.declared.lines.Line.{Line}
use Rattle.psg_deflines.specs.declared.lines.Line.TheVariants as lines

-- an empty text, or a comment
abbrev pub IsSkipped : List ℕ → Type 0
IsSkipped [] = Unit {0}
IsSkipped (c ∷ cs) = c ≡ 35

-- the parts of the first line of a version
abbrev pub head_parts : ℕ → List (List ℕ)
head_parts version = codes "psg" ∷ ((48 + version) ∷ []) ∷ []

-- whether an operator is declared, so that a row may follow
abbrev pub takes_rows : List Line → Bool
takes_rows [] = false
takes_rows (lines.Operator name phylum scope level items ∷ rest) = true
takes_rows (_ ∷ rest) = takes_rows rest

-- Whether the last hole row has no specimen, so that a case may follow; `so_far` says it of the lines before.
abbrev pub takes_cases : Bool → List Line → Bool
takes_cases so_far [] = so_far
takes_cases so_far (lines.Hole kind term None ∷ rest) = takes_cases true rest
takes_cases so_far (lines.Hole kind term (Some specimen) ∷ rest) = takes_cases false rest
takes_cases so_far (_ ∷ rest) = takes_cases so_far rest

-- a row belongs to an operator above it, a case to a hole row without a specimen above it
abbrev pub HasPlace : List Line → Line → Type 0
HasPlace above (lines.Row head columns) = IsTrue (takes_rows above)
HasPlace above (lines.Case term specimen) = IsTrue (takes_cases false above)
HasPlace above _ = Unit {0}

-- after these lines the text is the line
pub record IsLineBehind (above : List Line) (text : List ℕ) (line : Line) : Type 0 where
  pub no_comment : IsSkipped text → ⊥
  pub spelled : SpellsLine text line
  pub place : HasPlace above line

-- what a text is: a line, or nothing where it is skipped
abbrev pub Entry : Type 0
Entry = Option Line

-- after these lines the text is this entry
abbrev pub IsEntry : List Line → List ℕ → Entry → Type 0
IsEntry above text None = IsSkipped text
IsEntry above text (Some line) = IsLineBehind above text line

-- the lines among entries, in order
abbrev pub written : List Entry → List Line
written [] = []
written (None ∷ rest) = written rest
written (Some line ∷ rest) = line ∷ written rest

-- after these lines each text has its entry
abbrev pub AreEntries : List Line → List (List ℕ) → List Entry → Type 0
AreEntries above [] [] = Unit {0}
AreEntries above [] (e ∷ entries) = ⊥
AreEntries above (text ∷ texts) [] = ⊥
AreEntries above (text ∷ texts) (e ∷ entries) = IsEntry above text e
    × AreEntries (above ++ written (e ∷ [])) texts entries

-- the first text is the head of the version
abbrev pub HasHead : ℕ → List (List ℕ) → Type 0
HasHead version [] = ⊥
HasHead version (text ∷ texts) = IsVersion version × IsWritten (head_parts version) text

-- the texts after the first one
abbrev pub behind_head : List (List ℕ) → List (List ℕ)
behind_head [] = []
behind_head (text ∷ texts) = texts

-- the texts are the head of the version, and then these entries, whose lines are of that version
pub record AreSpelled (version : ℕ) (texts : List (List ℕ)) (entries : List Entry) : Type 0 where
  pub head : HasHead version texts
  pub each : AreEntries [] (behind_head texts) entries
  pub of_version : AllByRecursion (λ line. is_of version line ≡ true) (written entries)

-- what holds of each line of a version before its meaning is looked at
pub record IsPlain (version : ℕ) (line : Line) : Type 0 where
  pub of_version : is_of version line ≡ true
  pub words : HasFixedWords line
  pub shallow : IsShallow line
