-- The plain editor gives each script one output and lacks none; its trees stay of their kinds; arranged text reads
-- back; and a run for which nothing goes wrong outside ends well.
use Rattle.std.specs.Prelude.{ℕ, ◌≡◌, ◌≤◌, ◌++◌, ◌⊎◌, Bool, true, false, List, [], ◌∷◌, length}
use Rattle.std.specs.Prelude.{Option, Some, None, codes}
use Rattle.std.specs.Io.KnownBytes.{append_known}
use Rattle.psg_terms.specs.Names.{Name}
use Rattle.psg_grammar.specs.declared.types.Definition.{Definition}
use Rattle.psg_grammar.specs.declared.types.Kind.{Kind}
use Rattle.psg_grammar.specs.Fragments.{Fragment}
use Rattle.psg_grammar.specs.Kinds.{kind_name_of}
use Rattle.psg_langs.specs.declared.named.TheConstants.{MINI, SELF}
use Rattle.psg_layout.specs.declared.layout.Layout.{Layout}
use Rattle.psg_layout.specs.Layouts.{LayoutRefusal}
use Rattle.psg_lint.specs.Reports.{IsReport}
use Rattle.psg_program.specs.Programs.{IsFaulty, IsProgram}
use Rattle.psg_recover.specs.declared.finding.Finding.{Finding}
use Rattle.psg_recover.specs.Findings.{has_error}
use Rattle.psg_self.specs.SelfLanguage.{IsSelf}
use Rattle.psg_specimen.specs.Languages.{IsDeclaringPhylum}
use Rattle.psg_unparse.specs.Spaced.{Put, SpacedReadsBack, text_in}
use Rattle.psg_world.specs.Files.{Held, bytes_of}
use Rattle.psg_world.specs.Sinks.{HasRisen}
use Rattle.psg_session.specs.Exchanges.{Outside}
use Rattle.psg_session.specs.Formed.{IsFormedState}
use Rattle.psg_session.specs.Lines.{HasAnswered, to_nothing, to_command}
use Rattle.psg_session.specs.PlainState.{Answer, Opened, State, not_asked, stored, got, lost}
use Rattle.psg_session.specs.Replies.{Reply, feed}
use Rattle.psg_session.specs.SomeStep.{CannotLack}
use Rattle.psg_run.specs.declared.status.Status.{Status}
use Rattle.psg_run.specs.declared.status.Status.TheVariants as ends_with
use Rattle.psg_run.specs.Arranging.{Arranges, most_layout_bytes}
use Rattle.psg_run.specs.Chain.{Point, Runs, first_point, rests, goes}
use Rattle.psg_run.specs.Editing.{Editor, IsReplied, new_editor}
use Rattle.psg_run.specs.Live.{IsRepliedLive, heard, with_input}
use Rattle.psg_run.specs.Formatting.{IsWanted, most_program_bytes}
use Rattle.psg_run.specs.Promise.{Form, IsRunOf, check, edit, live, windows, gen, layout, itself, format, check_format}
use Rattle.psg_run.specs.Promise.{explain, framed, lint}
use Rattle.psg_run.specs.Without.{IsWithout}
use Rattle.psg_grammar.specs.WellFormed.{fixed_words}
use Rattle.psg_defcomment.specs.Reading.{comment_of}
use Rattle.psg_comments.specs.declared.finding.Comment.{Comment}
use Rattle.psg_run.specs.Reading.{IsAccepted, most_definition_bytes, most_script_bytes}
use Rattle.psg_run.specs.Worlds.{IsFrontOf, World, with_failed_read}

-- ---- one output

module _ (def : Definition) where
  -- what the files answered at a line; nothing, where it asked nothing
  abbrev pub answer_in : {s t : State} {line : List ℕ} {before after : Outside} {from to : ℕ} {reply : Reply}
      → HasAnswered def s t line before after from to reply → Answer
  answer_in (to_nothing none state files count is) = not_asked
  answer_in (to_command command spells applied) = applied.answer

  -- what the files answered, line by line
  abbrev pub answers_in : {s t : Point Editor} {lines : List (List ℕ)} {texts : List ℕ}
      → Runs Editor (IsReplied def) s lines texts t → List Answer
  answers_in rests = []
  answers_in (goes mid text texts line more) = answer_in line.0.answers ∷ answers_in more

  -- Lines that lead from one state, with the same answers of the files, get the same replies and lead to one state.
  -- With fewer lines and the first of the answers, they get a front of the replies.
  pub record HasOneOutput : Type 0 where
    pub whole : (s s' t t' : Point Editor) (lines : List (List ℕ)) (texts texts' : List ℕ)
        (a : Runs Editor (IsReplied def) s lines texts t) (b : Runs Editor (IsReplied def) s' lines texts' t')
        → s'.state.state ≡ s.state.state → answers_in b ≡ answers_in a
        → (texts' ≡ texts) × (t'.state.state ≡ t.state.state)
    pub front : (s s' t t' : Point Editor) (first more : List (List ℕ)) (texts texts' : List ℕ)
        (answers : List Answer)
        (a : Runs Editor (IsReplied def) s first texts t) (b : Runs Editor (IsReplied def) s' (first ++ more) texts' t')
        → s'.state.state ≡ s.state.state → answers_in b ≡ answers_in a ++ answers → IsFrontOf texts texts'

  -- ---- some output

  -- Of the calls of the files those fail for which this says so, in order; after its end none fails.
  abbrev pub FailBy : List Bool → List Answer → Type 0
  FailBy fails [] = Unit {0}
  FailBy fails (not_asked ∷ answers) = FailBy fails answers
  FailBy [] (lost ∷ answers) = ⊥
  FailBy [] (stored ∷ answers) = FailBy [] answers
  FailBy [] (got bytes ∷ answers) = FailBy [] answers
  FailBy (true ∷ fails) (lost ∷ answers) = FailBy fails answers
  FailBy (true ∷ fails) (stored ∷ answers) = ⊥
  FailBy (true ∷ fails) (got bytes ∷ answers) = ⊥
  FailBy (false ∷ fails) (lost ∷ answers) = ⊥
  FailBy (false ∷ fails) (stored ∷ answers) = FailBy fails answers
  FailBy (false ∷ fails) (got bytes ∷ answers) = FailBy fails answers

  -- the lines have replies from here on, while these calls of the files fail
  pub record HasReplies (s : Point Editor) (lines : List (List ℕ)) (fails : List Bool) : Type 0 where
    pub texts : List ℕ
    pub end : Point Editor
    pub runs : Runs Editor (IsReplied def) s lines texts end
    pub fail : FailBy fails (answers_in runs)

  -- From a state whose trees are printable and of their kinds no lines lack replies, whatever the files hold, and
  -- whichever of their calls fail.
  abbrev pub HasSomeOutput : Type 0
  HasSomeOutput = (s : Point Editor) (lines : List (List ℕ)) (fails : List Bool) → IsFormedState def s.state.state
      → CannotLack (HasReplies s lines fails)

  -- ---- the states on the way

  -- Lines lead from a state whose trees are printable and of their kinds to such a state.
  abbrev pub KeepsForms : Type 0
  KeepsForms = (s t : Point Editor) (lines : List (List ℕ)) (texts : List ℕ)
      → Runs Editor (IsReplied def) s lines texts t → IsFormedState def s.state.state → IsFormedState def t.state.state

-- ---- the lines of an input, and a script that is made

-- what the editor is given for the lines of an input, in order
abbrev pub live_lines : List (List ℕ) → List (List ℕ)
live_lines [] = []
live_lines (piece ∷ pieces) = heard piece ++ live_lines pieces

-- Lines that are read from an input are replied to as those of a script.
abbrev pub RepliesAlike : Definition → Type 0
RepliesAlike def = (s t : Point Editor) (pieces : List (List ℕ)) (texts : List ℕ)
    → Runs Editor (IsRepliedLive def) s pieces texts t
    → Runs Editor (IsReplied def) (with_input s t.input) (live_lines pieces) texts t

-- `gen` leaves the files as they were.
abbrev pub LeavesFiles : Type 0
LeavesFiles = (number : ℕ) (old new : World) (status : Status) → IsRunOf (gen number) old new status
    → new.files ≡ old.files

-- ---- arranged text

module _ (def : Definition) where
  -- The text is that of tokens which read back as the opened fragment, and are the tokens of its plain text. Where
  -- nothing is opened, it is the word `none`.
  pub data ReadsBackAs : Option Opened → List ℕ → Type 0 where
    of_nothing : ReadsBackAs None (codes "none")
    of_opened : (old : Opened) (puts : List Put) → SpacedReadsBack def old.tree old.kind puts
        → ReadsBackAs (Some old) (text_in puts)

  -- Where the lines were played and the arranged text was put, what was put is one line feed after a text that reads
  -- back as the fragment which is opened after the lines. The replies to the lines are not put.
  abbrev pub ArrangedReadsBack : Type 0
  ArrangedReadsBack = (by : Layout) (columns : ℕ) (lines : List (List ℕ)) (old new : World)
      → Arranges def by columns lines old new ends_with.Done
      → (end : Point Editor) × (replies : List ℕ) × (text : List ℕ)
      × Runs Editor (IsReplied def) (first_point Editor new_editor old) lines replies end
      × ReadsBackAs end.state.state.opened text
      × (new.written ≡ append_known old.written (feed text))

-- ---- runs for which nothing goes wrong outside

-- the file is known, and short enough for this limit
pub record IsShort (world : World) (file : Name) (limit : ℕ) : Type 0 where
  pub held : Held
  pub known : world.files.held ≡ Some held
  pub short : length (bytes_of held file) ≤ limit

-- the file is known, short enough, and an accepted definition
pub record HasDefinition (world : World) (file : Name) : Type 0 where
  pub held : Held
  pub known : world.files.held ≡ Some held
  pub short : length (bytes_of held file) ≤ most_definition_bytes
  pub def : Definition
  pub accepted : IsAccepted (bytes_of held file) def

-- the file of a layout is known, short enough, and no line of it is refused for the definition that the other file
-- holds
pub record HasLayout (world : World) (definition rules : Name) : Type 0 where
  pub held : Held
  pub known : world.files.held ≡ Some held
  pub short : length (bytes_of held rules) ≤ most_layout_bytes
  pub faultless : (def : Definition) → IsAccepted (bytes_of held definition) def
      → (line code : ℕ) → LayoutRefusal def (bytes_of held rules) line code → ⊥

-- The name is that of a kind of which a program may be, and the bytes without their comments are a program of it. Where
-- it is asked for, the bytes are the text that they are to be.
pub record IsRight (def : Definition) (comment : Option Name) (name : Name) (bytes : List ℕ) (checks : Bool)
    : Type 0 where
  pub some_kind : ((kind : Kind) → kind_name_of def kind ≡ Some name → ⊥) → ⊥
  pub quiet : (kind : Kind) → kind_name_of def kind ≡ Some name → IsDeclaringPhylum def kind → ⊥
  pub faultless : (kind : Kind) → kind_name_of def kind ≡ Some name → (comments : List Comment) (own : List ℕ)
      → IsWithout (fixed_words def) comment bytes comments own → (line column : ℕ) (message : List ℕ)
      → IsFaulty def kind own line column message → ⊥
  pub is_formatted : checks ≡ true → (kind : Kind) → kind_name_of def kind ≡ Some name → (comments : List Comment)
      (own : List ℕ) → IsWithout (fixed_words def) comment bytes comments own → (f : Fragment) (wanted : List ℕ)
      → IsProgram def kind own f → IsWanted def comment bytes comments own f wanted → bytes ≡ wanted

-- the file of a program is known, short enough, and right for the definition that the other file holds
pub record HasProgram (world : World) (definition name program : Name) (checks : Bool) : Type 0 where
  pub held : Held
  pub known : world.files.held ≡ Some held
  pub short : length (bytes_of held program) ≤ most_program_bytes
  pub right : (def : Definition) → IsAccepted (bytes_of held definition) def
      → IsRight def (comment_of (bytes_of held definition)) name (bytes_of held program) checks

-- The name is that of a kind of which a program may be, and no report of the bytes without their comments has an error.
pub record IsFaultless (def : Definition) (comment : Option Name) (name : Name) (bytes : List ℕ) : Type 0 where
  pub some_kind : ((kind : Kind) → kind_name_of def kind ≡ Some name → ⊥) → ⊥
  pub quiet : (kind : Kind) → kind_name_of def kind ≡ Some name → IsDeclaringPhylum def kind → ⊥
  pub faultless : (kind : Kind) → kind_name_of def kind ≡ Some name → (comments : List Comment)
      (own : List ℕ) → IsWithout (fixed_words def) comment bytes comments own
      → (text : List ℕ) (limited : Bool) (found : List Finding)
      (more : Bool) → IsReport def kind own text limited found more → has_error found ≡ false

-- the file of a program is known, short enough, and without errors for the definition that the other file holds
pub record HasFaultless (world : World) (definition name program : Name) : Type 0 where
  pub held : Held
  pub known : world.files.held ≡ Some held
  pub short : length (bytes_of held program) ≤ most_program_bytes
  pub right : (def : Definition) → IsAccepted (bytes_of held definition) def
      → IsFaultless def (comment_of (bytes_of held definition)) name (bytes_of held program)

-- The run did not end at its own read of the file. A read by a command may fail.
abbrev pub WasRead : World → World → Name → Type 0
WasRead old new file = new ≡ with_failed_read old file → ⊥

-- the definition is accepted, the script is short, and the run's own reads of both did not fail
abbrev pub ScriptGoesWell : World → World → Name → Name → Type 0
ScriptGoesWell old new definition script =
    HasDefinition old definition × WasRead old new definition × IsShort old script most_script_bytes
    × WasRead old new script

-- The definition is accepted, the files are short, a layout has no fault, a program is right or no error is found in
-- it, the run's own reads of them and of the input did not fail, and the sink's count has not risen.
abbrev pub GoesWell : Form → World → World → Type 0
GoesWell (check d) old new = HasDefinition old d × WasRead old new d × (HasRisen old.count new.count → ⊥)
GoesWell (edit d s) old new = ScriptGoesWell old new d s × (HasRisen old.count new.count → ⊥)
GoesWell (live d) old new =
    HasDefinition old d × WasRead old new d × (new.input.missed ≡ old.input.missed)
    × (HasRisen old.count new.count → ⊥)
GoesWell (framed d) old new =
    HasDefinition old d × WasRead old new d × (new.input.missed ≡ old.input.missed)
    × (HasRisen old.count new.count → ⊥)
GoesWell (windows d s) old new = ScriptGoesWell old new d s × (HasRisen old.count new.count → ⊥)
GoesWell (gen number) old new =
    ((def : Definition) × IsAccepted MINI.now def) × (HasRisen old.count new.count → ⊥)
GoesWell (layout d s rules columns) old new =
    ScriptGoesWell old new d s × HasLayout old d rules × WasRead old new rules × (HasRisen old.count new.count → ⊥)
GoesWell (itself s file) old new =
    ((def : Definition) × IsAccepted SELF.now def × IsSelf def) × IsShort old s most_script_bytes × WasRead old new s
    × (HasRisen old.count new.count → ⊥)
GoesWell (format d k p) old new =
    HasDefinition old d × WasRead old new d × HasProgram old d k p false × WasRead old new p
    × (HasRisen old.count new.count → ⊥)
GoesWell (check_format d k p) old new =
    HasDefinition old d × WasRead old new d × HasProgram old d k p true × WasRead old new p
    × (HasRisen old.count new.count → ⊥)
GoesWell (lint d k p) old new =
    HasDefinition old d × WasRead old new d × HasFaultless old d k p × WasRead old new p
    × (HasRisen old.count new.count → ⊥)
GoesWell (explain d s) old new = ScriptGoesWell old new d s × (HasRisen old.count new.count → ⊥)

-- Where nothing goes wrong outside, the run ends well, or memory ran out.
abbrev pub EndsWell : Type 0
EndsWell = (form : Form) (old new : World) (status : Status) → IsRunOf form old new status → GoesWell form old new
    → (status ≡ ends_with.Done) ⊎ (status ≡ ends_with.Memory)

-- Two runs of one form on the definition, which is in this file, that ended well, over files that held the same and
-- none of whose calls failed, wrote the same and left the same in the files.
abbrev pub HasOneRunOf : Definition → Form → Name → Type 0
HasOneRunOf def form definition = (held : Held) (old new old' new' : World)
    → IsAccepted (bytes_of held definition) def
    → IsRunOf form old new ends_with.Done → IsRunOf form old' new' ends_with.Done
    → old.files.held ≡ Some held → old'.files.held ≡ Some held
    → new.files.entries ≡ old.files.entries → new'.files.entries ≡ old'.files.entries
    → (output : List ℕ) × (new.written ≡ append_known old.written output)
    × (new'.written ≡ append_known old'.written output) × (new'.files.held ≡ new.files.held)

-- That is so of each form that plays a script on a file's definition.
pub record HasOneRun (def : Definition) : Type 0 where
  pub edits : (definition script : Name) → HasOneRunOf def (edit definition script) definition
  pub windowed : (definition script : Name) → HasOneRunOf def (windows definition script) definition
  pub layouts : (definition script rules : Name) (columns : ℕ)
      → HasOneRunOf def (layout definition script rules columns) definition
