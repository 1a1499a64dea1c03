-- The report of the bytes of a file, and its lines.
use Rattle.std.specs.Prelude.{ℕ, ◌≡◌, Bool, List}
use Rattle.std.specs.Str.{IsUtf8}
use Rattle.psg_grammar.specs.declared.types.Definition.{Definition}
use Rattle.psg_grammar.specs.declared.types.Kind.{Kind}
use Rattle.psg_program.specs.Decoding.{unmarked}
use Rattle.psg_lint.specs.declared.reporting.Report.{Report}
use Rattle.psg_recover.specs.Findings.{AreLines, with_feeds}
use Rattle.psg_lint.specs.Reports.{IsReport}

-- with the text in which its places are
pub record IsReportOf (def : Definition) (kind : Kind) (bytes : List ℕ) (report : Report) : Type 0 where
  pub text : List ℕ
  -- whether the search met a limit
  pub limited : Bool
  pub is : IsReport def kind bytes text limited report.found.items report.more

-- of a text, whatever mark is in front of its bytes
abbrev pub IsTextReport : Definition → Kind → List ℕ → Report → Type 0
IsTextReport def kind text report = (bytes : List ℕ) → unmarked bytes ≡ text → IsUtf8 text
    → IsReportOf def kind bytes report

-- the lines of the report, in the text in which its places are
pub record IsShownReport (text file : List ℕ) (report : Report) (shown : List ℕ) : Type 0 where
  pub lines : List (List ℕ)
  pub are : AreLines file text report.found.items report.more lines
  pub shown_is : shown ≡ with_feeds lines
