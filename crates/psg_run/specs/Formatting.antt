-- What `format` reads and prints: a file with a program of a kind, and the text that it is to have.
use Rattle.std.specs.Prelude.{ℕ, ◌≡◌, Bool, true, false, List, [], ◌++◌, Option, Some, None, codes, decimal}
use Rattle.psg_terms.specs.Names.{Name}
use Rattle.psg_grammar.specs.declared.types.Definition.{Definition}
use Rattle.psg_grammar.specs.declared.types.Kind.{Kind}
use Rattle.psg_grammar.specs.Fragments.{Fragment}
use Rattle.psg_grammar.specs.Kinds.{kind_name_of}
use Rattle.psg_grammar.specs.WellFormed.{fixed_words}
use Rattle.psg_lexis.specs.declared.token.Spanned.{Spanned}
use Rattle.psg_class.specs.Texts.{TextTokens}
use Rattle.psg_comments.specs.declared.finding.Comment.{Comment}
use Rattle.psg_commented.specs.Keeping.{IsWithComments}
use Rattle.psg_unparse.specs.Layout.{text_of}
use Rattle.psg_program.specs.Decoding.{unmarked}
use Rattle.psg_program.specs.Formatted.{IsFirstDifference, formatted}
use Rattle.psg_program.specs.Programs.{HasCounted, IsFaulty, IsProgram}
use Rattle.psg_specimen.specs.Languages.{IsDeclaringPhylum}
use Rattle.psg_session.specs.Replies.{feed}
use Rattle.psg_run.specs.declared.status.Status.{Status}
use Rattle.psg_run.specs.declared.status.Status.TheVariants as ends_with
use Rattle.psg_run.specs.Reading.{Reads}
use Rattle.psg_run.specs.Without.{IsWithout}
use Rattle.psg_run.specs.Worlds.{Act, Puts, World}

-- the most bytes that a program file may have
abbrev pub most_program_bytes : ℕ
most_program_bytes = 4194304

-- ---- the kind

module _ (def : Definition) (name : Name) (Next : Kind → Act) where
  -- The name is that of a phylum or a list of the definition, and the run goes on with it. Or it ends here, and the
  -- line of the refusal is put: there is none of the name, or it is a phylum that declares.
  pub data OnKind (old new : World) : Status → Type 0 where
    is_kind : {status : Status} (kind : Kind) → kind_name_of def kind ≡ Some name → (IsDeclaringPhylum def kind → ⊥)
        → Next kind old new status → OnKind old new status
    is_unknown : {status : Status} → ((kind : Kind) → kind_name_of def kind ≡ Some name → ⊥)
        → Puts (feed (codes "refused 4")) ends_with.Wrong old new status → OnKind old new status
    is_declaring : {status : Status} (kind : Kind) → kind_name_of def kind ≡ Some name → IsDeclaringPhylum def kind
        → Puts (feed (codes "refused 21")) ends_with.Wrong old new status → OnKind old new status

-- ---- what is said of a program file

-- an error at a place of a file
abbrev pub error_line : Name → ℕ → ℕ → List ℕ → List ℕ
error_line file line column message =
    file ++ (codes ":" ++ (decimal line ++ (codes ":" ++ (decimal column ++ (codes ": error: " ++ message)))))

-- What the bytes are to be, where they are this program without these comments: the printed text with the comments.
abbrev pub IsWanted : Definition → Option Name → List ℕ → List Comment → List ℕ → Fragment → List ℕ → Type 0
IsWanted def None bytes comments own f wanted = wanted ≡ formatted def f
IsWanted def (Some token) bytes comments own f wanted =
    (ts : List Spanned) × TextTokens def (unmarked own) ts
    × IsWithComments (fixed_words def) token (unmarked bytes) ts comments (text_of def f) wanted

module _ (def : Definition) (comment : Option Name) (file : Name) (kind : Kind) (bytes : List ℕ)
    (comments : List Comment) (own : List ℕ) where
  -- Where the bytes without their comments are a program, the text that they are to be is printed. Otherwise a
  -- line says why they are none.
  pub data IsFormat : List ℕ → Status → Type 0 where
    is_formatted : (f : Fragment) (wanted : List ℕ) → IsProgram def kind own f
        → IsWanted def comment bytes comments own f wanted → IsFormat wanted ends_with.Done
    is_faulty : (line column : ℕ) (message : List ℕ) → IsFaulty def kind own line column message
        → IsFormat (feed (error_line file line column message)) ends_with.Wrong

  -- Where the bytes are the text that they are to be, nothing is printed. Otherwise a line says in which line they are
  -- not it first, and what that line is to be, or why they are no program.
  pub data IsFormatCheck : List ℕ → Status → Type 0 where
    is_as_it_is_to_be : (f : Fragment) → IsProgram def kind own f → IsWanted def comment bytes comments own f bytes
        → IsFormatCheck [] ends_with.Done
    is_not_formatted : (f : Fragment) (wanted : List ℕ) (line : ℕ) (text : List ℕ) → IsProgram def kind own f
        → IsWanted def comment bytes comments own f wanted → IsFirstDifference bytes wanted line text
        → IsFormatCheck (feed (error_line file line 1 (codes "not formatted: " ++ text))) ends_with.Wrong
    is_no_program : (line column : ℕ) (message : List ℕ) → IsFaulty def kind own line column message
        → IsFormatCheck (feed (error_line file line column message)) ends_with.Wrong

  -- what is printed, with the word `--check` or without
  abbrev pub IsTold : Bool → List ℕ → Status → Type 0
  IsTold false = IsFormat
  IsTold true = IsFormatCheck

-- the world with this many evaluations
abbrev pub with_ticks : World → ℕ → World
with_ticks old ticks = record {
  files = old.files;
  input = old.input;
  ticks = ticks;
  written = old.written;
  count = old.count;
}

module _ (def : Definition) (bytes : List ℕ) (Tells : List ℕ → Status → Type 0) where
  -- What is said of the bytes is put, and the run ends with the status that it has. Or memory ran out before it was
  -- known, and nothing was put. A token of the text counts as an evaluation at most.
  pub data TellsProgram (old new : World) : Status → Type 0 where
    tells_program : {status : Status} (ticks : ℕ) (text : List ℕ) (done : Status)
        → HasCounted def (unmarked bytes) old.ticks ticks → Tells text done
        → Puts text done (with_ticks old ticks) new status → TellsProgram old new status
    no_room_for_program : (ticks : ℕ) → HasCounted def (unmarked bytes) old.ticks ticks
        → new ≡ with_ticks old ticks → TellsProgram old new ends_with.Memory

module _ (checks : Bool) (def : Definition) (comment : Option Name) (file : Name) (kind : Kind) (bytes : List ℕ) where
  -- That is said of the bytes without their comments. Or memory ran out before these were known, and nothing was put.
  pub data FormatsFile (old new : World) : Status → Type 0 where
    formats_file : {status : Status} (comments : List Comment) (own : List ℕ)
        → IsWithout (fixed_words def) comment bytes comments own
        → TellsProgram def own (IsTold def comment file kind bytes comments own checks) old new status
        → FormatsFile old new status
    no_room_to_format : new ≡ old → FormatsFile old new ends_with.Memory

-- the kind is looked up before the file is read
abbrev pub Formats : Bool → Definition → Option Name → Name → Name → Act
Formats checks def comment name file =
    OnKind def name (λ kind. Reads file most_program_bytes (FormatsFile checks def comment file kind))
