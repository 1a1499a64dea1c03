-- What is found in a program, in order, and the lines that tell it.
use Rattle.std.specs.Prelude.{ℕ, ◌==◌, Bool, true, false, List, [], ◌∷◌, ◌++◌, codes, decimal}
use Rattle.std.specs.List.{list_any}
use Rattle.std.specs.List.Sorted.{IsPermutation, IsSorted, IsStable}
use Rattle.std.specs.Ordering.{nat_cmp}
use Rattle.std.specs.declared.cmp.Ordering.{Ordering}
use Rattle.psg_grammar.specs.Keys.{then_by}
use Rattle.psg_program.specs.Places.{IsAt}
use Rattle.psg_recover.specs.declared.finding.Finding.{Finding}
use Rattle.psg_recover.specs.declared.finding.Grade.{Grade}
use Rattle.psg_recover.specs.declared.finding.Grade.TheVariants as grades

abbrev pub grade_text : Grade → List ℕ
grade_text grades.Error = codes "error"
grade_text grades.Warning = codes "warning"
grade_text grades.Note = codes "note"

-- errors are reported before warnings, and these before notes
abbrev pub rank : Grade → ℕ
rank grades.Error = 0
rank grades.Warning = 1
rank grades.Note = 2

abbrev pub error_at : ℕ → List ℕ → Finding
error_at byte message = record { byte = byte; grade = grades.Error; message = message }

abbrev pub warning_at : ℕ → List ℕ → Finding
warning_at byte message = record { byte = byte; grade = grades.Warning; message = message }

abbrev pub note_at : ℕ → List ℕ → Finding
note_at byte message = record { byte = byte; grade = grades.Note; message = message }

abbrev pub is_error : Finding → Bool
is_error f = rank f.grade == 0

abbrev pub has_error : List Finding → Bool
has_error found = list_any is_error found

-- ---- their order: by byte, then by grade; those of one byte and grade stay as they are

abbrev pub order : Finding → Finding → Ordering
order f g = then_by (nat_cmp f.byte g.byte) (nat_cmp (rank f.grade) (rank g.grade))

pub record AreInOrder (found sorted : List Finding) : Type 0 where
  pub same : IsPermutation found sorted
  pub order_is : IsSorted order sorted
  pub stable : IsStable order found sorted

-- ---- their lines

-- `FILE:LINE:COLUMN: GRADE: MESSAGE`
abbrev pub finding_line : List ℕ → ℕ → ℕ → Finding → List ℕ
finding_line file line column f =
    file ++ (58 ∷ decimal line) ++ (58 ∷ decimal column) ++ codes ": " ++ grade_text f.grade ++ codes ": " ++ f.message

-- a line for each of what was found in the text, and one where more may follow
pub data AreLines (file text : List ℕ) : List Finding → Bool → List (List ℕ) → Type 0 where
  all_told : AreLines file text [] false []
  more_may_follow : AreLines file text [] true ((file ++ codes ": note: more may follow") ∷ [])
  one_more : {found : List Finding} {more : Bool} {lines : List (List ℕ)} (f : Finding) (line column : ℕ)
      → IsAt text f.byte line column → AreLines file text found more lines
      → AreLines file text (f ∷ found) more (finding_line file line column f ∷ lines)

-- the lines, each with its line feed
abbrev pub with_feeds : List (List ℕ) → List ℕ
with_feeds [] = []
with_feeds (line ∷ lines) = line ++ 10 ∷ with_feeds lines
