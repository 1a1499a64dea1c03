-- What is published of a document: what is found in its text, and nothing else.
use Rattle.std.specs.Prelude.{ℕ, ℤ, ◌≡◌, ◌+◌, ◌-◌, ◌||◌, ◌&&◌, ◌==◌, Bool, true, false}
use Rattle.std.specs.Prelude.{List, [], ◌∷◌, length, drop, Option, Some, None}
use Rattle.std.specs.Prelude.{codes, min, nat_le, not, position, unwrap_or, if◌then◌else◌}
use Rattle.serde_json.specs.Data.{Data, array, number, unsigned, string, object, member, no_members}
use Rattle.serde_json.specs.Find.{of_integer}
use Rattle.serde_json.specs.View.{items_of}
use Rattle.psg_documents.specs.declared.encoding.Encoding.{Encoding}
use Rattle.psg_grammar.specs.declared.types.Definition.{Definition}
use Rattle.psg_grammar.specs.declared.types.Kind.{Kind}
use Rattle.psg_lint.specs.Reports.{IsReport}
use Rattle.psg_messages.specs.Answers.{note_of}
use Rattle.psg_program.specs.Decoding.{unmarked}
use Rattle.psg_recover.specs.declared.finding.Finding.{Finding}
use Rattle.psg_recover.specs.declared.finding.Grade.{Grade}
use Rattle.psg_recover.specs.declared.finding.Grade.TheVariants as grades
use Rattle.psg_server.specs.declared.documents.Document.{Document}
use Rattle.psg_server.specs.declared.judging.Defined.{Defined}
use Rattle.psg_server.specs.Judging.{OfJudged}
use Rattle.psg_server.specs.Ranges.{IsRange}

-- an error, a warning, and a hint
abbrev pub severity_of : Grade → ℕ
severity_of grades.Error = 1
severity_of grades.Warning = 2
severity_of grades.Note = 4

-- ---- what is marked

-- a byte of a word: a digit, a letter, `_`, or one of a character beyond ASCII
abbrev pub is_word : ℕ → Bool
is_word b = (nat_le 48 b && nat_le b 57) || (nat_le 65 b && nat_le b 90) || (nat_le 97 b && nat_le b 122) || b == 95
    || nat_le 128 b

-- how many bytes of a word are at the beginning
abbrev pub word_length : List ℕ → ℕ
word_length bytes = unwrap_or (position (λ b. not (is_word b)) bytes) (length bytes)

-- How many bytes are marked from the beginning on: a word, with `?` in front of it or without; else one character; and
-- nothing where there is a blank or a line ends.
abbrev pub marked : List ℕ → ℕ
marked [] = 0
marked (b ∷ bytes) = if is_word b || b == 63 then 1 + word_length bytes else if nat_le b 32 then 0 else 1

-- A byte order mark at the beginning is no part of what is judged. The byte of the whole text is this one.
abbrev pub byte_in : List ℕ → ℕ → ℕ
byte_in text byte = length text - length (unmarked text) + min (length (unmarked text)) byte

-- ---- the values

abbrev pub diagnostic_data : Data → ℕ → List ℕ → Data
diagnostic_data range severity message = object (member (codes "message") (string message) (member (codes "range") range
    (member (codes "severity") (number (unsigned severity))
    (member (codes "source") (string (codes "psg")) no_members))))

-- what is marked from the byte on
abbrev pub IsMarked : Encoding → List ℕ → ℕ → Data → Type 0
IsMarked encoding text from range = IsRange encoding text from (from + marked (drop from text)) range

-- a diagnostic at the byte of what was found
pub record IsDiagnostic (encoding : Encoding) (text : List ℕ) (f : Finding) (d : Data) : Type 0 where
  pub range : Data
  pub is_range : IsMarked encoding text (byte_in text f.byte) range
  pub is : d ≡ diagnostic_data range (severity_of f.grade) f.message

-- a diagnostic for each of what was found, in order, and a hint at the beginning of the text where more may follow
pub data AreDiagnostics (encoding : Encoding) (text : List ℕ) : List Finding → Bool → List Data → Type 0 where
  all_told : AreDiagnostics encoding text [] false []
  more_may_follow : (range : Data) → IsRange encoding text 0 0 range
      → AreDiagnostics encoding text [] true (diagnostic_data range 4 (codes "more may follow") ∷ [])
  one_more : {found : List Finding} {more : Bool} {ds : List Data} (f : Finding) (d : Data)
      → IsDiagnostic encoding text f d → AreDiagnostics encoding text found more ds
      → AreDiagnostics encoding text (f ∷ found) more (d ∷ ds)

-- the note with the diagnostics of a document
abbrev pub publish_params : (address : List ℕ) (version : ℤ) (diagnostics : List Data) → Data
publish_params address version diagnostics = object (member (codes "diagnostics") (array (items_of diagnostics))
    (member (codes "uri") (string address) (member (codes "version") (number (of_integer version)) no_members)))

abbrev pub publish_data : (address : List ℕ) (version : ℤ) (diagnostics : List Data) → Data
publish_data address version diagnostics =
    note_of (codes "textDocument/publishDiagnostics") (publish_params address version diagnostics)

-- The note says what is found in what is judged of a text, which is to be a program of the kind, at its places in the
-- text.
pub record IsReported (def : Definition) (kind : Kind) (encoding : Encoding) (address : List ℕ) (version : ℤ)
    (text judged : List ℕ) (told : Data) : Type 0 where
  pub part : List ℕ
  pub limited : Bool
  pub found : List Finding
  pub more : Bool
  pub report : IsReport def kind judged part limited found more
  pub diagnostics : List Data
  pub are : AreDiagnostics encoding text found more diagnostics
  pub is : told ≡ publish_data address version diagnostics

-- the note that a document has no diagnostics
abbrev pub cleared_params : List ℕ → Data
cleared_params address =
    object (member (codes "diagnostics") (array (items_of [])) (member (codes "uri") (string address) no_members))

abbrev pub cleared_data : List ℕ → Data
cleared_data address = note_of (codes "textDocument/publishDiagnostics") (cleared_params address)

-- what is published of a text, and where the text is not known
abbrev pub IsPublishedOf : Defined → Kind → Encoding → List ℕ → ℤ → Option (List ℕ) → Data → Type 0
IsPublishedOf def kind encoding address version None told = told ≡ cleared_data address
IsPublishedOf def kind encoding address version (Some text) told =
    OfJudged def text (λ comments judged. IsReported def.language kind encoding address version text judged told)

-- what is published of a document
abbrev pub IsPublished : Defined → Kind → Encoding → Document → Data → Type 0
IsPublished def kind encoding d told = IsPublishedOf def kind encoding d.address d.version d.text told
