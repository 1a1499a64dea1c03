-- What the grammar sees of a token: its terminal.
use Rattle.std.specs.Prelude.{ℕ, ◌&&◌, not, Bool, true, false, List, [], ◌∷◌, Option}
use Rattle.std.specs.Prelude.{Some, None, bytes_eq, chars, encode_utf8_all, codes}
use Rattle.std.specs.List.{list_all}
use Rattle.psg_terms.specs.Names.{Name, is_among}
use Rattle.psg_terms.specs.Words.{starts_word, goes_on_word}
use Rattle.psg_lexis.specs.Classes.{is_solo, is_symbol}
use Rattle.psg_lexis.specs.Tokens.{dots as dots_run}
use Rattle.psg_grammar.specs.declared.types.Item.{Item}
use Rattle.psg_grammar.specs.declared.types.Item.TheVariants as items
use Rattle.psg_grammar.specs.declared.types.Definition.{Definition}
use Rattle.psg_grammar.specs.WellFormed.{fixed_words}
pub use Rattle.psg_lexis.specs.declared.token.Token.{Token}
pub use Rattle.psg_lexis.specs.declared.token.Token.TheVariants.{Word as word, Number as numeral, Text as quoted}
pub use Rattle.psg_lexis.specs.declared.token.Token.TheVariants.{Solo as solo, Symbol as symbols}
pub use Rattle.psg_lexis.specs.declared.token.Token.TheVariants.{Hole as placeholder, More as dots}

pub data Terminal : Type 0 where
  fixed : (word : Name) → Terminal
  a_name : Terminal
  a_number : Terminal
  a_text : Terminal
  a_hole : (phylum : Name) → Terminal
  a_more : Terminal
  -- of a token that no text has, as a symbol token with the letters of a word
  stray : Terminal

abbrev pub open_bracket : Terminal
open_bracket = fixed (codes "(")

abbrev pub close_bracket : Terminal
close_bracket = fixed (codes ")")

-- these characters are a word
abbrev pub are_word : List ℕ → Bool
are_word [] = false
are_word (c ∷ cs) = starts_word c && list_all goes_on_word cs

-- these bytes are the text of a word
abbrev pub is_word : Name → Bool
is_word w = are_word (chars w) && bytes_eq (encode_utf8_all (chars w)) w

-- these bytes are a run of symbols other than `...`
abbrev pub is_run : Name → Bool
is_run [] = false
is_run (b ∷ bs) = list_all is_symbol (b ∷ bs) && not (bytes_eq (b ∷ bs) dots_run)

-- a word is a fixed one, or a name
abbrev pub word_terminal : Name → Bool → Bool → Terminal
word_terminal w true true = fixed w
word_terminal w true false = a_name
word_terminal w false _ = stray

abbrev pub fixed_if : Bool → Name → Terminal
fixed_if true w = fixed w
fixed_if false w = stray

-- The brackets of bracketed phyla are fixed words too, but no words, so no name is lost where they are left out.
abbrev pub terminal_of : Definition → Token → Terminal
terminal_of def (word w) = word_terminal w (is_word w) (is_among (fixed_words def) w)
terminal_of def (numeral n) = a_number
terminal_of def (quoted t) = a_text
terminal_of def (solo c) = fixed_if (is_solo c) (c ∷ [])
terminal_of def (symbols w) = fixed_if (is_run w) w
terminal_of def (placeholder p) = a_hole p
terminal_of def dots = a_more

-- the terminal of a token item
abbrev pub item_terminal : Item → Option Terminal
item_terminal (items.Word w) = Some (fixed w)
item_terminal (items.Refers s) = Some a_name
item_terminal (items.Declares s) = Some a_name
item_terminal items.Number = Some a_number
item_terminal items.Text = Some a_text
item_terminal _ = None

-- the next token's terminal
abbrev pub next_terminal : Definition → List Token → Option Terminal
next_terminal def [] = None
next_terminal def (t ∷ ts) = Some (terminal_of def t)
