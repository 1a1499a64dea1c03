-- Which token may begin the comments of a language.
use Rattle.std.specs.Prelude.{ℕ, ◌≡◌, ◌==◌, ◌&&◌, Bool, true, false, List, [], ◌∷◌, chars}
use Rattle.std.specs.List.{list_any}
use Rattle.psg_terms.specs.Names.{Name}
use Rattle.psg_lexis.specs.Classes.{Chars, is_symbol, All, BeginsBy}
use Rattle.psg_lexis.specs.Tokens.{dots}

-- the characters begin with these
abbrev pub begins_with : Chars → Chars → Bool
begins_with cs [] = true
begins_with [] (d ∷ ds) = false
begins_with (c ∷ cs) (d ∷ ds) = (c == d) && begins_with cs ds

-- The token is one run of symbols, and neither `...` nor a fixed word begins with it. So where it begins a run of
-- symbols, that run is no token of the language.
pub record IsFit (fixed : List Name) (token : List ℕ) : Type 0 where
  pub begins : BeginsBy is_symbol (chars token)
  pub symbols : All is_symbol (chars token)
  pub no_dots : begins_with dots (chars token) ≡ false
  pub no_word : list_any (λ word. begins_with (chars word) (chars token)) fixed ≡ false
