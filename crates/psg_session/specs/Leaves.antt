-- The names and literals that the text of a command's arguments gives.
use Rattle.std.specs.Prelude.{ℕ, ◌≡◌, List, map, Option, Some, None, chars}
use Rattle.psg_grammar.specs.declared.types.Definition.{Definition}
use Rattle.psg_grammar.specs.Insertion.{Leaf as PlainLeaf, a_name, a_number, a_text, AreLeaves}
use Rattle.psg_grammar.specs.Lookups.{operator_at, items_of}
use Rattle.psg_grammar.specs.WellFormed.{fixed_words}
use Rattle.psg_terms.specs.Words.{IsWord}
use Rattle.psg_lexis.specs.Tokens.{HasTokens}
use Rattle.psg_lexis.specs.declared.token.Spanned.{Spanned}
use Rattle.psg_lexis.specs.declared.token.Token.{Token}
use Rattle.psg_lexis.specs.declared.token.Token.TheVariants as tokens

-- the leaf that a token is: a word is a name, a number and a text are themselves, and no other token is a leaf
abbrev pub leaf_of : Token → Option PlainLeaf
leaf_of (tokens.Word w) = Some (a_name w)
leaf_of (tokens.Number n) = Some (a_number n)
leaf_of (tokens.Text t) = Some (a_text t)
leaf_of _ = None

-- the leaf that a token gives, if it is one
abbrev pub given : Spanned → Option PlainLeaf
given s = leaf_of s.token

-- a name is a word, which may be a fixed one
abbrev pub HasWord : PlainLeaf → Type 0
HasWord (a_name n) = IsWord (chars n)
HasWord (a_number n) = Unit {0}
HasWord (a_text t) = Unit {0}

-- The text has tokens, each of which is a leaf, and these are one for each name position, number and text of the
-- operator, in order and of their kinds.
abbrev pub GivesLeaves : Definition → ℕ → List ℕ → List PlainLeaf → Type 0
GivesLeaves def o args leaves =
    (found : List Spanned) × HasTokens (fixed_words def) (chars args) 0 found × (map given found ≡ map Some leaves)
    × AreLeaves def (items_of (operator_at def o)) leaves
