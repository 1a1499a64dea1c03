-- What is known of a text that is to be a program.
use Rattle.std.specs.Prelude.{ℕ, ◌≡◌, Bool, true, false, List, Option, Some, None}
use Rattle.std.specs.Str.{IsUtf8}
use Rattle.psg_grammar.specs.declared.types.Definition.{Definition}
use Rattle.psg_grammar.specs.declared.types.Kind.{Kind}
use Rattle.psg_grammar.specs.Fragments.{Fragment}
use Rattle.psg_cache.specs.Annotated.{tree_in}
use Rattle.psg_cache.specs.Notes.{IsNoteFault}
use Rattle.psg_cache.specs.declared.note.NoteFault.{NoteFault}
use Rattle.psg_class.specs.Texts.{TextTokens, tokens_of}
use Rattle.psg_class.specs.Yields.{Yields}
use Rattle.psg_places.specs.Answers.{IsOfTree}
use Rattle.psg_program.specs.declared.fault.ProgramFault.{ProgramFault}
use Rattle.psg_program.specs.declared.fault.ProgramFault.TheVariants as faults
use Rattle.psg_program.specs.Decoding.{unmarked}
use Rattle.psg_program.specs.Programs.{IsFaulty, IsProgramText}
use Rattle.psg_ranges.specs.Forests.{Forest, nodes_of, ranges_in}
use Rattle.psg_asking.specs.Asked.{IsKnown}
use Rattle.psg_pointing.specs.declared.judging.Judged.{Judged}

-- memory ran out
abbrev pub is_memory : ProgramFault → Bool
is_memory (faults.Syntax e) = false
is_memory faults.Memory = true

-- the program passes a limit of the evaluator
abbrev pub IsLimited : Definition → Fragment → Type 0
IsLimited def f = (fault : NoteFault) × IsNoteFault def f fault × IsOfTree fault

module _ (def : Definition) (kind : Kind) where
  -- The text, which has no byte order mark, is a program. What is kept is its tokens, where its nodes are among them,
  -- its tree with what is known of it, whether it is wrong, and its wrong places.
  pub record IsJudged (own : List ℕ) (j : Judged) : Type 0 where
    pub is_text : IsUtf8 own
    pub program : IsProgramText def kind own (tree_in j.note)
    pub tokens : TextTokens def own j.tokens.items
    pub nesting : ℕ
    pub yields : Yields def (tree_in j.note) kind 0 nesting (tokens_of j.tokens.items)
    pub ranges : j.ranges.nodes
        ≡ ranges_in (nodes_of def (tree_in j.note) kind 0 nesting (tokens_of j.tokens.items) yields)
    pub known : IsKnown def kind j.note j.wrong j.repair

  -- the nodes of the program
  abbrev pub nodes_in : {own : List ℕ} (j : Judged) → IsJudged own j → Forest
  nodes_in j is = nodes_of def (tree_in j.note) kind 0 is.nesting (tokens_of j.tokens.items) is.yields

  -- the program of the text is not known: it passes a limit of the evaluator
  abbrev pub IsTooMuch : List ℕ → Type 0
  IsTooMuch own = (f : Fragment) × IsProgramText def kind own f × IsLimited def f

  -- the bytes are no program, as is said at a place of them
  abbrev pub IsNoProgram : List ℕ → Type 0
  IsNoProgram bytes = (line : ℕ) × (column : ℕ) × (message : List ℕ) × IsFaulty def kind bytes line column message

  -- what is known of a text
  pub data IsKnownOf (own : List ℕ) : Option Judged → Type 0 where
    limited : IsTooMuch own → IsKnownOf own None
    judged : (j : Judged) → IsJudged own j → IsKnownOf own (Some j)

  -- what is known of bytes, which may begin with a byte order mark
  pub data IsJudgement (bytes : List ℕ) : Option Judged → Type 0 where
    no_program : IsNoProgram bytes → IsJudgement bytes None
    program : (o : Option Judged) → IsKnownOf (unmarked bytes) o → IsJudgement bytes o
