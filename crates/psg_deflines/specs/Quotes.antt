-- Quoted texts as parts of a line.
use Rattle.std.specs.Prelude.{ℕ, ◌≡◌, ◌+◌, ◌&&◌, ◌==◌, not, Bool, cond, Option, Some, None, option_map, List, [], ◌∷◌}
use Rattle.psg_lexis.specs.declared.token.Token.TheVariants as tokens
use Rattle.psg_lexis.specs.declared.token.Spanned.{Spanned}
use Rattle.psg_deflines.specs.WrittenTrees.{IsQuotable, quoted_part}

-- The index of the first quote that has no backslash before it, or only one that is escaped itself; `escaped` says that
-- a backslash is before the bytes.
abbrev pub closing : Bool → List ℕ → Option ℕ
closing escaped [] = None
closing escaped (c ∷ cs) = cond (not escaped && (c == 34)) (Some 0)
    (option_map (λ n. 1 + n) (closing (not escaped && (c == 92)) cs))

-- one quoted text, which takes all the bytes
pub record IsTextAlone (found : List Spanned) (len : ℕ) (contents : List ℕ) : Type 0 where
  pub token : Spanned
  pub only : found ≡ token ∷ []
  pub starts : token.start ≡ 0
  pub ends : token.end ≡ len
  pub kind : token.token ≡ tokens.Text contents

-- the tokens are not one quoted text that takes all the bytes
abbrev pub HasNoTextAlone : List Spanned → ℕ → Type 0
HasNoTextAlone found len = (contents : List ℕ) → IsTextAlone found len contents → ⊥

-- the part is these contents in quotes
pub record IsQuoteOf (part contents : List ℕ) : Type 0 where
  pub quotable : IsQuotable contents
  pub written : quoted_part contents ≡ part

-- the part is no quoted text
abbrev pub HasNoQuote : List ℕ → Type 0
HasNoQuote part = (contents : List ℕ) → IsQuoteOf part contents → ⊥
