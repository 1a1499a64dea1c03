-- What `lint` reads and prints: a file that is to be a program of a kind, and all that is found in it.
use Rattle.std.specs.Prelude.{ℕ, ◌≡◌, Bool, cond, Option, List}
use Rattle.psg_terms.specs.Names.{Name}
use Rattle.psg_grammar.specs.declared.types.Definition.{Definition}
use Rattle.psg_grammar.specs.declared.types.Kind.{Kind}
use Rattle.psg_grammar.specs.WellFormed.{fixed_words}
use Rattle.psg_comments.specs.declared.finding.Comment.{Comment}
use Rattle.psg_recover.specs.declared.finding.Finding.{Finding}
use Rattle.psg_recover.specs.Findings.{AreLines, has_error, with_feeds}
use Rattle.psg_lint.specs.Reports.{IsReport}
use Rattle.psg_run.specs.declared.status.Status.{Status}
use Rattle.psg_run.specs.declared.status.Status.TheVariants as ends_with
use Rattle.psg_run.specs.Formatting.{OnKind, most_program_bytes, with_ticks}
use Rattle.psg_run.specs.Reading.{Reads}
use Rattle.psg_run.specs.Without.{IsWithout}
use Rattle.psg_run.specs.Worlds.{Act, Puts, World}

-- how a run ends that has told of these: one of them is an error, or none is
abbrev pub ending : List Finding → Status
ending found = cond (has_error found) ends_with.Wrong ends_with.Done

module _ (def : Definition) (file : Name) (kind : Kind) (bytes : List ℕ) where
  -- a line for all that is found in the bytes
  pub record IsLint (told : List ℕ) (done : Status) : Type 0 where
    pub text : List ℕ
    pub found : List Finding
    pub limited : Bool
    pub more : Bool
    pub report : IsReport def kind bytes text limited found more
    pub lines : List (List ℕ)
    pub are_lines : AreLines file text found more lines
    pub told_is : told ≡ with_feeds lines
    pub done_is : done ≡ ending found

  -- What is said of the bytes is put, and the run ends with the status that it has. Or memory ran out before it was
  -- known, and nothing was put.
  pub data TellsLint (old new : World) : Status → Type 0 where
    tells_lint : {status : Status} (ticks : ℕ) (told : List ℕ) (done : Status) → IsLint told done
        → Puts told done (with_ticks old ticks) new status → TellsLint old new status
    no_room_for_lint : (ticks : ℕ) → new ≡ with_ticks old ticks → TellsLint old new ends_with.Memory

module _ (def : Definition) (comment : Option Name) (file : Name) (kind : Kind) (bytes : List ℕ) where
  -- That is said of the bytes without their comments. Or memory ran out before these were known, and nothing was put.
  pub data LintsFile (old new : World) : Status → Type 0 where
    lints_file : {status : Status} (comments : List Comment) (own : List ℕ)
        → IsWithout (fixed_words def) comment bytes comments own
        → TellsLint def file kind own old new status → LintsFile old new status
    no_room_without : new ≡ old → LintsFile old new ends_with.Memory

-- the kind is looked up before the file is read
abbrev pub Lints : Definition → Option Name → Name → Name → Act
Lints def comment name file =
    OnKind def name (λ kind. Reads file most_program_bytes (LintsFile def comment file kind))
