-- What is left of what was read is a tree of the definition, and nothing is lost of a program.
use Rattle.std.specs.Prelude.{ℕ, ◌≡◌, ◌⊎◌, true, false, List, [], ◌∷◌, Option, Some, slice_get}
use Rattle.std.specs.List.{AllByRecursion}
use Rattle.psg_grammar.specs.declared.types.Kind.{Kind}
use Rattle.psg_grammar.specs.declared.types.Phylum.{Phylum}
use Rattle.psg_grammar.specs.declared.types.Definition.{Definition}
use Rattle.psg_grammar.specs.Fragments.{Fragment, hole, ending, cell, operator, with_child, with_name, with_number}
use Rattle.psg_grammar.specs.Fragments.{with_text, anything, observed}
use Rattle.psg_grammar.specs.WellFormed.{WellFormed}
use Rattle.psg_lexis.specs.declared.token.Spanned.{Spanned}
use Rattle.psg_class.specs.Terminals.{Token, placeholder}
use Rattle.psg_class.specs.Texts.{ReadsAs, tokens_of}
use Rattle.psg_class.specs.Yields.{Yields}
use Rattle.psg_parse.specs.Answers.{IsParsed}
use Rattle.psg_program.specs.Programs.{HasNoProgram, goal_of}
use Rattle.psg_recover.specs.declared.finding.Finding.{Finding}
use Rattle.psg_recover.specs.Findings.{error_at}
use Rattle.psg_recover.specs.Grammars.{quiet}
use Rattle.psg_recover.specs.Lost.{is_lost, left_out}
use Rattle.psg_recover.specs.Recovery.{HasStops, may_stand}

-- each placeholder of the tree may take the place of tokens
abbrev pub AreStandIns : Definition → Fragment → Type 0
AreStandIns def (hole p) = may_stand def p ≡ true
AreStandIns def (ending l u) = Unit {0}
AreStandIns def (cell l e r) = AreStandIns def e × AreStandIns def r
AreStandIns def (operator o) = Unit {0}
AreStandIns def (with_child f t) = AreStandIns def f × AreStandIns def t
AreStandIns def (with_name f x) = AreStandIns def f
AreStandIns def (with_number f x) = AreStandIns def f
AreStandIns def (with_text f x) = AreStandIns def f
AreStandIns def anything = Unit {0}
AreStandIns def (observed f) = AreStandIns def f

-- if the token is a placeholder of a phylum, that may take the place of tokens
abbrev pub IsStandIn : Definition → Token → Type 0
IsStandIn def (placeholder name) = (p : ℕ) (phylum : Phylum) → slice_get def.phyla p ≡ Some phylum
    → phylum.name ≡ name → may_stand def p ≡ true
IsStandIn def _ = Unit {0}

-- ---- what laws state

-- The placeholders of the tokens that are read at last may take the place of tokens.
abbrev pub ReadStandIns : Definition → Type 0
ReadStandIns def = (kind : Kind) (text : List ℕ) (found : List Finding) (last : Option (List Spanned))
    (tokens : List Spanned) → HasStops def kind text found last → last ≡ Some tokens
    → AllByRecursion (IsStandIn def) (tokens_of tokens)

-- So may those of the tree that they are.
abbrev pub YieldStandIns : Definition → Type 0
YieldStandIns def = (whole : Fragment) (kind : Kind) (level nesting : ℕ) (ts : List Token)
    → Yields (quiet def) whole kind level nesting ts → AllByRecursion (IsStandIn def) ts → AreStandIns def whole

-- What is left of such a tree is one of the kind, if it is not lost as a whole.
abbrev pub LeavesTrees : Definition → Type 0
LeavesTrees def = (kind : Kind) (whole : Fragment) → WellFormed (quiet def) whole kind → AreStandIns def whole
    → is_lost def whole ≡ false → WellFormed def (left_out def whole) kind

-- A text that is a program has no stops, and its tree is what is read: nothing is lost in it.
pub record LosesNothing (def : Definition) (kind : Kind) (text : List ℕ) (f : Fragment) : Type 0 where
  pub tokens : List Spanned
  pub stops : (found : List Finding) (last : Option (List Spanned)) → HasStops def kind text found last
      → (found ≡ []) × (last ≡ Some tokens)
  pub whole : (whole : Fragment) → IsParsed (quiet def) (goal_of kind) tokens whole → whole ≡ f
  pub left : left_out def f ≡ f

abbrev pub ProgramsLoseNothing : Definition → Type 0
ProgramsLoseNothing def = (kind : Kind) (text : List ℕ) (f : Fragment) (nesting : ℕ) → ReadsAs def kind 0 text f nesting
    → LosesNothing def kind text f

-- The first of the stops is what `format` reports. There are none where the text is too deep or too large.
abbrev pub BeginsAsFormat : Definition → Type 0
BeginsAsFormat def = (kind : Kind) (text : List ℕ) (byte : ℕ) (message : List ℕ)
    → HasNoProgram def kind text byte message → (stops : List Finding) (last : Option (List Spanned))
    → HasStops def kind text stops last → (stops ≡ [])
    ⊎ ((more : List Finding) × (stops ≡ error_at byte message ∷ more))
