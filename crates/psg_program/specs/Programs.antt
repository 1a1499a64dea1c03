-- The program that bytes are, or why they are none.
use Rattle.std.specs.Prelude.{ℕ, ◌≡◌, ◌<◌, ◌≤◌, ◌⊎◌, ◌↔◌, ◌+◌, true, List, length, take, chars, string_bytes}
use Rattle.std.specs.Str.{IsUtf8, IsValidUpTo}
use Rattle.psg_grammar.specs.declared.types.Kind.{Kind}
use Rattle.psg_grammar.specs.declared.types.Definition.{Definition}
use Rattle.psg_grammar.specs.Fragments.{Fragment}
use Rattle.psg_grammar.specs.Sizes.{IsBig, IsDeep}
use Rattle.psg_grammar.specs.WellFormed.{WellFormed, fixed_words}
use Rattle.psg_lexis.specs.declared.token.LexFault.{LexFault}
use Rattle.psg_lexis.specs.declared.token.Spanned.{Spanned}
use Rattle.psg_lexis.specs.Faults.{HasFault}
use Rattle.psg_class.specs.Terminals.{Token}
use Rattle.psg_class.specs.Texts.{ReadsAs, TextTokens, tokens_of}
use Rattle.psg_class.specs.Yields.{Yields}
use Rattle.psg_parse.specs.declared.fault.Goal.{Goal}
use Rattle.psg_parse.specs.Stops.{IsStop, MayEnd}
use Rattle.psg_stop.specs.declared.stopping.Stop.{Stop}
use Rattle.psg_stop.specs.Wanted.{AreWanted, wanted_terminals}
use Rattle.psg_program.specs.declared.fault.ProgramFault.{ProgramFault}
use Rattle.psg_program.specs.declared.fault.ProgramFault.TheVariants.{Syntax, Memory}
use Rattle.psg_program.specs.declared.reading.Program.{Program}
use Rattle.psg_program.specs.Decoding.{unmarked}
use Rattle.psg_program.specs.Expected.{AreExpected}
use Rattle.psg_program.specs.Messages.{byte_of, deep_message, large_message, lexical_message, no_utf8_message}
use Rattle.psg_program.specs.Messages.{stop_byte, stop_message}
use Rattle.psg_program.specs.Places.{IsAt}

-- how many pairs of brackets may be inside each other
abbrev pub most_brackets : ℕ
most_brackets = 400

-- a program of the kind, with no brackets around it
abbrev pub goal_of : Kind → Goal
goal_of kind = record { kind = kind; least = 0; around = 0 }

module _ (def : Definition) (kind : Kind) where
  -- The text is read as the tree, with brackets nested so deep, and both are within the limits.
  pub record IsProgramText (text : List ℕ) (f : Fragment) : Type 0 where
    pub nesting : ℕ
    pub reads : ReadsAs def kind 0 text f nesting
    pub formed : WellFormed def f kind
    pub depth : IsDeep f → ⊥
    pub brackets : nesting ≤ most_brackets
    pub small : IsBig f → ⊥

  -- The text is no program, with the byte at which that is reported, and the message. The tests are: it has tokens,
  -- they are a tree, the tree is not too deep, and it is not too large.
  pub data HasNoProgram (text : List ℕ) : ℕ → List ℕ → Type 0 where
    no_tokens : (fault : LexFault) → HasFault (fixed_words def) (chars text) 0 fault
        → HasNoProgram text (byte_of fault) (lexical_message fault)
    no_tree : (ts : List Spanned) (stop : ℕ) (words : List (List ℕ)) → TextTokens def text ts
        → (MayEnd def kind 0 (tokens_of ts) → ⊥) → IsStop def kind 0 (tokens_of ts) stop
        → AreExpected def kind (take stop (tokens_of ts)) words
        → HasNoProgram text (stop_byte ts stop) (stop_message text ts stop words)
    too_deep : (f : Fragment) (nesting : ℕ) → ReadsAs def kind 0 text f nesting
        → IsDeep f ⊎ (most_brackets < nesting) → HasNoProgram text 0 deep_message
    too_large : (f : Fragment) (nesting : ℕ) → ReadsAs def kind 0 text f nesting → (IsDeep f → ⊥)
        → nesting ≤ most_brackets → IsBig f → HasNoProgram text 0 large_message

  -- the text of the bytes is UTF-8, and the tree is read from it
  pub record IsProgram (bytes : List ℕ) (f : Fragment) : Type 0 where
    pub is_text : IsUtf8 (unmarked bytes)
    pub is_read : IsProgramText (unmarked bytes) f

  -- The bytes are no program, with the line and the column at which that is reported, and the message. A byte order
  -- mark at their beginning is passed over, and takes no column.
  pub data IsFaulty (bytes : List ℕ) : ℕ → ℕ → List ℕ → Type 0 where
    no_utf8 : (count line column : ℕ) → IsValidUpTo (unmarked bytes) count
        → IsAt (take count (unmarked bytes)) count line column → IsFaulty bytes line column no_utf8_message
    no_program : (byte line column : ℕ) (message : List ℕ) → IsUtf8 (unmarked bytes)
        → HasNoProgram (unmarked bytes) byte message → IsAt (unmarked bytes) byte line column
        → IsFaulty bytes line column message

  -- ---- what the calls of this crate answer

  -- where the tokens stop to begin a program, and what may be there
  pub record IsStopOf (ts : List Token) (s : Stop) : Type 0 where
    pub stop : IsStop def kind 0 ts s.tokens
    pub ends : (s.may_end ≡ true) ↔ MayEnd def kind 0 (take s.tokens ts)
    pub wanted : AreWanted def kind 0 (take s.tokens ts) (wanted_terminals s.wanted.items)

  -- the tokens of the program are those of the text
  pub record IsReadFrom (text : List ℕ) (p : Program) : Type 0 where
    pub tokens : TextTokens def text p.tokens.items
    pub nesting : ℕ
    pub yields : Yields def p.tree kind 0 nesting (tokens_of p.tokens.items)

  -- the text is no program for this reason, or memory ran out
  abbrev pub IsTextFault : List ℕ → ProgramFault → Type 0
  IsTextFault text (Syntax e) =
      (byte : ℕ) × HasNoProgram text byte (string_bytes e.message) × IsAt text byte e.place.line e.place.column
  IsTextFault text Memory = Unit {0}

  -- the bytes are no program for this reason, or memory ran out
  abbrev pub IsProgramFault : List ℕ → ProgramFault → Type 0
  IsProgramFault bytes (Syntax e) = IsFaulty bytes e.place.line e.place.column (string_bytes e.message)
  IsProgramFault bytes Memory = Unit {0}

-- the message is reported at the byte of the text, or memory ran out
abbrev pub IsToldAt : List ℕ → ℕ → List ℕ → ProgramFault → Type 0
IsToldAt text byte message (Syntax e) =
    (string_bytes e.message ≡ message) × IsAt text byte e.place.line e.place.column
IsToldAt text byte message Memory = Unit {0}

-- nothing was counted, or at most one for each token of the text
abbrev pub HasCounted : Definition → List ℕ → ℕ → ℕ → Type 0
HasCounted def text from to =
    (to ≡ from) ⊎ ((ts : List Spanned) × TextTokens def text ts × (to ≤ from + length ts))
