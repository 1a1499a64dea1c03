-- What a text is read as, in a definition's language.
use Rattle.std.specs.Prelude.{ℕ, List, map, chars}
use Rattle.psg_grammar.specs.declared.types.Kind.{Kind}
use Rattle.psg_grammar.specs.declared.types.Definition.{Definition}
use Rattle.psg_grammar.specs.Fragments.{Fragment}
use Rattle.psg_grammar.specs.WellFormed.{fixed_words}
use Rattle.psg_lexis.specs.Tokens.{HasTokens}
use Rattle.psg_lexis.specs.Faults.{HasFault}
use Rattle.psg_lexis.specs.declared.token.Token.{Token}
use Rattle.psg_lexis.specs.declared.token.Spanned.{Spanned}
use Rattle.psg_lexis.specs.declared.token.LexFault.{LexFault}
use Rattle.psg_class.specs.Yields.{Yields}

-- the tokens without their places
abbrev pub tokens_of : List Spanned → List Token
tokens_of ts = map (λ (s : Spanned). s.token) ts

-- the tokens of the bytes of a text
abbrev pub TextTokens : Definition → List ℕ → List Spanned → Type 0
TextTokens def text ts = HasTokens (fixed_words def) (chars text) 0 ts

-- The text has tokens, and the tree of the kind and level yields them, with brackets nested so deep. A definition of
-- the class and a text fix the tree and the nesting.
pub record ReadsAs (def : Definition) (kind : Kind) (level : ℕ) (text : List ℕ) (f : Fragment)
    (nesting : ℕ) : Type 0 where
  pub tokens : List Spanned
  pub are : TextTokens def text tokens
  pub yields : Yields def f kind level nesting (tokens_of tokens)

-- the text has a fault; the empty text has none
abbrev pub HasNoTokens : Definition → List ℕ → Type 0
HasNoTokens def text = (fault : LexFault) × HasFault (fixed_words def) (chars text) 0 fault

-- the text has tokens, and no tree of the kind has them
pub record HasNoTree (def : Definition) (kind : Kind) (text : List ℕ) : Type 0 where
  pub tokens : List Spanned
  pub are : TextTokens def text tokens
  pub none : (f : Fragment) (nesting : ℕ) → Yields def f kind 0 nesting (tokens_of tokens) → ⊥
