-- A text that is one token, of a kind that a fixed word may be.
use Rattle.std.specs.Prelude.{ℕ, ◌≡◌, List, [], ◌∷◌}
use Rattle.psg_lexis.specs.declared.token.Token.{Token}
use Rattle.psg_lexis.specs.declared.token.Token.TheVariants as tokens
use Rattle.psg_lexis.specs.declared.token.Spanned.{Spanned}

-- a token that a fixed word may be: a word, a solo character or a symbol
abbrev pub IsFixedToken : Token → Type 0
IsFixedToken (tokens.Word w) = Unit {0}
IsFixedToken (tokens.Solo c) = Unit {0}
IsFixedToken (tokens.Symbol w) = Unit {0}
IsFixedToken _ = ⊥

-- one token, which takes all the bytes
pub record IsOneToken (found : List Spanned) (len : ℕ) : Type 0 where
  pub token : Spanned
  pub only : found ≡ token ∷ []
  pub starts : token.start ≡ 0
  pub ends : token.end ≡ len
  pub kind : IsFixedToken token.token
