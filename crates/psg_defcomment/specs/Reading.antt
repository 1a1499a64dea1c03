-- What it means that bytes are a definition, and which token begins its comments.
use Rattle.std.specs.Prelude.{ℕ, Option, Some, None, List, [], ◌∷◌}
use Rattle.psg_terms.specs.Names.{Name}
use Rattle.psg_grammar.specs.WellFormed.{fixed_words}
use Rattle.psg_grammar.specs.declared.types.Definition.{Definition}
use Rattle.psg_defread.specs.Reading.{IsReadAs}
use Rattle.psg_comments.specs.Fitting.{IsFit}
use Rattle.psg_defcomment.specs.Plain.{named_in, plain_of}
use Rattle.psg_defcomment.specs.declared.lines.Named.{Named}

-- no line names a token, or one line alone, and its token may begin comments beside these fixed words
abbrev pub AreFit : List Name → List Named → Type 0
AreFit fixed [] = Unit {0}
AreFit fixed (named ∷ []) = IsFit fixed named.token
AreFit fixed (named ∷ other ∷ rest) = ⊥

-- the token of the first of the lines, if there is one
abbrev pub first_token : List Named → Option Name
first_token [] = None
first_token (named ∷ rest) = Some named.token

-- the token that begins the comments of program files, if there is one
abbrev pub comment_of : List ℕ → Option Name
comment_of bytes = first_token (named_in bytes)

-- there is no token, or one that may begin comments beside these fixed words
abbrev pub IsCommentOf : List Name → Option Name → Type 0
IsCommentOf fixed None = Unit {0}
IsCommentOf fixed (Some token) = IsFit fixed token

-- The file without its lines on comments is read as the definition, and it names one token at most, which fits the
-- words of the language.
pub record IsCommented (bytes : List ℕ) (def : Definition) : Type 0 where
  pub read : IsReadAs (plain_of bytes) def
  pub fit : AreFit (fixed_words def) (named_in bytes)
