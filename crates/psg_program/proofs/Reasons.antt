-- Why a text is no program, from what the lexer, the parser and the stop say.
use Rattle.std.proofs.Common.{◌≡◌, inl, inr, ℕ, ◌+◌, ◌<◌, ◌≤◌, List, take, chars, Result, Ok, Err, IfOk, IfErr, sym, subst, arith}
use Rattle.std.specs.Prelude.{string_bytes}
use Rattle.std.specs.Str.{IsUtf8, IsValidUpTo}
use Rattle.psg_grammar.specs.declared.types.Kind.{Kind}
use Rattle.psg_grammar.specs.declared.types.Definition.{Definition}
use Rattle.psg_grammar.specs.Fragments.{Fragment}
use Rattle.psg_grammar.specs.Sizes.{IsBig, IsDeep}
use Rattle.psg_grammar.specs.WellFormed.{WellFormed, fixed_words}
use Rattle.psg_lexis.specs.declared.token.LexFault.{LexFault}
use Rattle.psg_lexis.specs.declared.token.LexFault.TheVariants as lex_faults
use Rattle.psg_lexis.specs.declared.token.Spanned.{Spanned}
use Rattle.psg_lexis.specs.Faults.{HasFault, OrMemory}
use Rattle.psg_class.specs.Texts.{TextTokens, tokens_of}
use Rattle.psg_parse.specs.Answers.{HasDeep, IsParsed}
use Rattle.psg_parse.specs.Stops.{MayEnd}
use Rattle.psg_stop.specs.declared.stopping.Stop.{Stop}
use Rattle.psg_program.specs.declared.fault.ProgramFault.{ProgramFault}
use Rattle.psg_program.specs.declared.fault.ProgramFault.TheVariants.{Syntax, Memory}
use Rattle.psg_program.specs.declared.fault.SyntaxError.{SyntaxError}
use Rattle.psg_program.specs.declared.reading.Program.{Program}
use Rattle.psg_program.specs.Decoding.{unmarked}
use Rattle.psg_program.specs.Expected.{AreExpected}
use Rattle.psg_program.specs.Messages.{byte_of, deep_message, large_message, lexical_message, no_utf8_message, stop_byte, stop_message}
use Rattle.psg_program.specs.Places.{IsAt}
use Rattle.psg_program.specs.Programs.{HasCounted, HasNoProgram, IsFaulty, IsProgram, IsProgramFault, IsProgramText, IsReadFrom, IsStopOf, IsTextFault, IsToldAt, goal_of, no_program, no_tokens, no_tree, no_utf8, too_deep, too_large}

module _ (def : Definition) (kind : Kind) (text : List ℕ) where
  -- a message with its place, where the text is no program for it
  pub told_text : (byte : ℕ) (message : List ℕ) → HasNoProgram def kind text byte message → (fault : ProgramFault)
      → IsToldAt text byte message fault → IsTextFault def kind text fault
  told_text byte message none (Syntax e) (is, at) =
      (byte, subst (HasNoProgram def kind text byte) (sym is) none, at)
  told_text byte message none Memory told = tt

  -- the text has no tokens
  pub lexical : (fault : LexFault) → (fault ≡ lex_faults.Memory → ⊥)
      → OrMemory (HasFault (fixed_words def) (chars text) 0) fault → (answer : ProgramFault)
      → IsToldAt text (byte_of fault) (lexical_message fault) answer → IsTextFault def kind text answer
  lexical fault never (inl memory) answer told = absurd (never memory)
  lexical fault never (inr h) answer told =
      told_text (byte_of fault) (lexical_message fault) (no_tokens fault h) answer told

  module _ (ts : List Spanned) (are : TextTokens def text ts) where
    -- its tokens are no tree
    pub stopped : (MayEnd def kind 0 (tokens_of ts) → ⊥) → (stop : Stop) → IsStopOf def kind (tokens_of ts) stop
        → (words : List (List ℕ)) → AreExpected def kind (take stop.tokens (tokens_of ts)) words → (e : SyntaxError)
        → string_bytes e.message ≡ stop_message text ts stop.tokens words → (byte : ℕ)
        → byte ≡ stop_byte ts stop.tokens → IsAt text byte e.place.line e.place.column
        → IsTextFault def kind text (Syntax e)
    stopped none stop is words expected e message byte there at = (
      stop_byte ts stop.tokens,
      subst (HasNoProgram def kind text (stop_byte ts stop.tokens)) (sym message)
          (no_tree ts stop.tokens words are none is.stop expected),
      subst (λ b. IsAt text b e.place.line e.place.column) there at,
    )

    -- the tree is too deep
    pub nested : HasDeep def (goal_of kind) ts → (answer : ProgramFault) → IsToldAt text 0 deep_message answer
        → IsTextFault def kind text answer
    nested h answer told =
        told_text 0 deep_message
        (too_deep h.tree h.nesting (record { tokens = ts; are = are; yields = h.reads })
        (elim h.deep [
          | inl d ↦ inl d
          | inr nests ↦ (let n : 400 < h.nesting + 0 = nests in inr (omega (arith, n)))
        ])) answer told

    module _ (f : Fragment) (p : IsParsed def (goal_of kind) ts f) where
      not_deep : IsDeep f → ⊥
      not_deep d = let le = p.depth in omega (arith, le, d)

      within : p.nesting ≤ 400
      within = let h : p.nesting + 0 ≤ 400 = p.brackets in omega (arith, h)

      -- it is too large
      pub large : IsBig f → (answer : ProgramFault) → IsToldAt text 0 large_message answer → IsTextFault def kind text answer
      large big answer told =
          told_text 0 large_message
          (too_large f p.nesting (record { tokens = ts; are = are; yields = p.reads }) not_deep within big) answer told

      -- it is a program
      pub parsed : WellFormed def f kind → (IsBig f → ⊥) → IsProgramText def kind text f
      parsed formed small = record {
        nesting = p.nesting;
        reads = record { tokens = ts; are = are; yields = p.reads };
        formed = formed;
        depth = not_deep;
        brackets = within;
        small = small;
      }

-- ---- bytes

module _ (def : Definition) (kind : Kind) (bytes text : List ℕ) (same : text ≡ unmarked bytes) where
  pub is_program : IsUtf8 text → (r : Result Program ProgramFault) → IfOk r (λ p. IsProgramText def kind text p.tree)
      → IfOk r (λ p. IsProgram def kind bytes p.tree)
  is_program utf8 (Ok p) h = record {
    is_text = subst IsUtf8 same utf8;
    is_read = subst (λ t. IsProgramText def kind t p.tree) same h;
  }
  is_program utf8 (Err e) h = tt

  pub is_read : (r : Result Program ProgramFault) → IfOk r (IsReadFrom def kind text)
      → IfOk r (IsReadFrom def kind (unmarked bytes))
  is_read (Ok p) h = subst (λ t. IsReadFrom def kind t p) same h
  is_read (Err e) h = tt

  faulty : (fault : ProgramFault) → IsUtf8 text → IsTextFault def kind text fault → IsProgramFault def kind bytes fault
  faulty (Syntax e) utf8 (byte, none, at) =
      no_program byte e.place.line e.place.column (string_bytes e.message) (subst IsUtf8 same utf8)
      (subst (λ t. HasNoProgram def kind t byte (string_bytes e.message)) same none)
      (subst (λ t. IsAt t byte e.place.line e.place.column) same at)
  faulty Memory utf8 h = tt

  pub is_faulty : IsUtf8 text → (r : Result Program ProgramFault) → IfErr r (IsTextFault def kind text)
      → IfErr r (IsProgramFault def kind bytes)
  is_faulty utf8 (Ok p) h = tt
  is_faulty utf8 (Err e) h = faulty e utf8 h

  pub has_counted : (from to : ℕ) → HasCounted def text from to → HasCounted def (unmarked bytes) from to
  has_counted from to h = subst (λ t. HasCounted def t from to) same h

  -- they are no text
  pub no_text : (count : ℕ) → IsValidUpTo text count → (fault : ProgramFault)
      → IsToldAt (take count text) count no_utf8_message fault → IsProgramFault def kind bytes fault
  no_text count valid (Syntax e) (is, at) =
      subst (IsFaulty def kind bytes e.place.line e.place.column) (sym is)
      (no_utf8 count e.place.line e.place.column (subst (λ t. IsValidUpTo t count) same valid)
      (subst (λ t. IsAt (take count t) count e.place.line e.place.column) same at))
  no_text count valid Memory told = tt
