-- All that is found in a program file.
use Rattle.std.specs.Prelude.{chars, None, ℕ, ◌≡◌, ◌⊎◌, ◌↔◌, Bool, true, false, List, [], ◌∷◌, ◌++◌, take, Some}
use Rattle.std.specs.Str.{IsUtf8, IsValidUpTo}
use Rattle.psg_grammar.specs.declared.types.Kind.{Kind}
use Rattle.psg_grammar.specs.declared.types.Definition.{Definition}
use Rattle.psg_grammar.specs.Fragments.{Fragment}
use Rattle.psg_grammar.specs.Legal.{IsCompletable}
use Rattle.psg_grammar.specs.Open.{IsOpen}
use Rattle.psg_grammar.specs.Sizes.{IsBig}
use Rattle.psg_grammar.specs.WellFormed.{WellFormed, fixed_words}
use Rattle.psg_cache.specs.declared.note.NoteFault.{NoteFault}
use Rattle.psg_cache.specs.Notes.{IsNoteFault, IsWithin}
use Rattle.psg_lexis.specs.Faults.{HasFault}
use Rattle.psg_lexis.specs.declared.token.LexFault.{LexFault}
use Rattle.psg_lexis.specs.declared.token.Spanned.{Spanned}
use Rattle.psg_parse.specs.Answers.{HasDeep, IsParsed}
use Rattle.psg_places.specs.Answers.{IsOfTree}
use Rattle.psg_program.specs.Decoding.{unmarked}
use Rattle.psg_program.specs.Messages.{byte_of, deep_message, large_message, lexical_message, no_utf8_message}
use Rattle.psg_program.specs.Programs.{IsProgram, goal_of}
use Rattle.psg_recover.specs.declared.finding.Finding.{Finding}
use Rattle.psg_recover.specs.Findings.{AreInOrder, error_at, has_error}
use Rattle.psg_uses.specs.Free.{free_uses}
use Rattle.psg_lint.specs.Warnings.{warnings}
use Rattle.psg_recover.specs.Grammars.{quiet}
use Rattle.psg_recover.specs.Lost.{left_out}
use Rattle.psg_lint.specs.OpenPlaces.{AreNotes}
use Rattle.psg_recover.specs.Recovery.{HasStops}
use Rattle.psg_recover.specs.TextPlaces.{IsRead, Read}
use Rattle.psg_lint.specs.Wrongs.{AreWrong, limit_told, wide_path}

module _ (def : Definition) (text : List ℕ) (f : Fragment) (r : Read) where
  -- What is found in a program, in no order. Nothing is reported about open places where something is wrong, or where
  -- reading had stopped.
  pub data AreFound (stopped : Bool) : (limited : Bool) → List Finding → Bool → Type 0 where
    found_limit : (fault : NoteFault) → IsNoteFault def f fault → IsOfTree fault
        → AreFound stopped false (limit_told def r fault (wide_path fault) ∷ []) false
    found_wrong : (limited : Bool) (found : List Finding) (more : Bool) → IsWithin def f
        → AreWrong def text f r limited found more → (IsOpen def f → ⊥) ⊎ (stopped ≡ true)
        → AreFound stopped limited (found ++ warnings def r (free_uses def f)) more
    found_open : (notes : List Finding) → IsWithin def f → IsOpen def f → stopped ≡ false → AreNotes def f r notes
        → AreFound stopped false (warnings def r (free_uses def f) ++ notes) false

-- The tokens are those of a tree of the kind in which elements may be lost, or of one that is too deep. What is left is
-- a tree of the kind in the language. It is within the limits, or it is reported that it is not.
pub data AreJudged (def : Definition) (kind : Kind) (text : List ℕ) (stopped : Bool) (tokens : List Spanned)
    : (limited : Bool) → List Finding → Bool → Type 0 where
  deep : HasDeep (quiet def) (goal_of kind) tokens
      → AreJudged def kind text stopped tokens false (error_at 0 deep_message ∷ []) false
  large : (whole : Fragment) → IsParsed (quiet def) (goal_of kind) tokens whole → IsBig (left_out def whole)
      → AreJudged def kind text stopped tokens false (error_at 0 large_message ∷ []) false
  judged : (r : Read) (limited : Bool) (found : List Finding) (more : Bool) → r.tokens ≡ tokens
      → IsParsed (quiet def) (goal_of kind) tokens r.whole → IsRead def kind tokens r.whole r.nodes
      → WellFormed def (left_out def r.whole) kind → (IsBig (left_out def r.whole) → ⊥)
      → AreFound def text (left_out def r.whole) r stopped limited found more
      → AreJudged def kind text stopped tokens limited found more

-- What is found in the bytes, with the text whose lines and columns are given, and whether the search met a limit.
-- Where the bytes are no UTF-8 the text is the longest one in front. Where the text has stops they are reported, and
-- also what is found in what is read at last.
pub data IsReport (def : Definition) (kind : Kind) (bytes : List ℕ) : List ℕ → (limited : Bool) → List Finding → Bool
    → Type 0 where
  no_text : (count : ℕ) → IsValidUpTo (unmarked bytes) count
      → IsReport def kind bytes (take count (unmarked bytes)) false (error_at count no_utf8_message ∷ []) false
  no_tokens : (fault : LexFault) → IsUtf8 (unmarked bytes)
      → HasFault (fixed_words def) (chars (unmarked bytes)) 0 fault
      → IsReport def kind bytes (unmarked bytes) false (error_at (byte_of fault) (lexical_message fault) ∷ []) false
  only_stops : (stops sorted : List Finding) → IsUtf8 (unmarked bytes) → HasStops def kind (unmarked bytes) stops None
      → AreInOrder stops sorted → IsReport def kind bytes (unmarked bytes) false sorted false
  is_judged : (stops found sorted : List Finding) (tokens : List Spanned) (limited more : Bool)
      → IsUtf8 (unmarked bytes) → HasStops def kind (unmarked bytes) stops (Some tokens)
      → AreJudged def kind (unmarked bytes) (has_error stops) tokens limited found more
      → AreInOrder (stops ++ found) sorted → IsReport def kind bytes (unmarked bytes) limited sorted more

-- ---- what laws are to state

-- Two reports are one, if the search met no limit.
abbrev pub HasOneReport : Definition → Type 0
HasOneReport def = (kind : Kind) (bytes one two : List ℕ) (first second : List Finding) (more less : Bool)
    → IsReport def kind bytes one false first more → IsReport def kind bytes two false second less
    → (one ≡ two) × (first ≡ second) × (more ≡ less)

-- The bytes are a program of the kind, within the limits, that has a legal completion.
pub record IsFine (def : Definition) (kind : Kind) (bytes : List ℕ) : Type 0 where
  pub tree : Fragment
  pub program : IsProgram def kind bytes tree
  pub within : IsWithin def tree
  pub good : IsCompletable def tree

-- No line is an error exactly if the bytes are such a program.
abbrev pub IsFineExactly : Definition → Type 0
IsFineExactly def = (kind : Kind) (bytes text : List ℕ) (limited more : Bool) (found : List Finding)
    → IsReport def kind bytes text limited found more → (has_error found ≡ false) ↔ IsFine def kind bytes
