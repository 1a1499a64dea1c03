-- What may follow tokens that begin a tree.
use Rattle.std.specs.Prelude.{ℕ, ◌≡◌, ◌↔◌, ◌⊎◌, List, [], ◌∷◌, ◌++◌, map}
use Rattle.psg_terms.specs.Names.{Name}
use Rattle.psg_terms.specs.Relations.{IsIn}
use Rattle.psg_grammar.specs.declared.types.Kind.{Kind}
use Rattle.psg_grammar.specs.declared.types.Phylum.{Phylum}
use Rattle.psg_grammar.specs.declared.types.Definition.{Definition}
use Rattle.psg_grammar.specs.WellFormed.{fixed_words}
use Rattle.psg_class.specs.Terminals.{Terminal, Token, fixed, a_name, a_number, a_text, a_hole, a_more, terminal_of}
use Rattle.psg_class.specs.Terminals.{open_bracket, close_bracket}
use Rattle.psg_parse.specs.Stops.{Begins}
use Rattle.psg_stop.specs.declared.wanted.Wanted.{Wanted}
use Rattle.psg_stop.specs.declared.wanted.Wanted.TheVariants as wants

module _ (def : Definition) (kind : Kind) (level : ℕ) where
  -- the tokens and then some token of the terminal begin a tree
  pub record GoesWith (ts : List Token) (terminal : Terminal) : Type 0 where
    pub token : Token
    pub is : terminal_of def token ≡ terminal
    pub begins : Begins def kind level (ts ++ token ∷ [])

  -- exactly the terminals that go on with the tokens
  abbrev pub AreWanted : List Token → List Terminal → Type 0
  AreWanted ts wanted = (terminal : Terminal) → IsIn terminal wanted ↔ GoesWith ts terminal

abbrev pub wanted_terminal : Wanted → Terminal
wanted_terminal (wants.Fixed w) = fixed w
wanted_terminal wants.Name = a_name
wanted_terminal wants.Number = a_number
wanted_terminal wants.Text = a_text
wanted_terminal (wants.Hole p) = a_hole p
wanted_terminal wants.More = a_more

abbrev pub wanted_terminals : List Wanted → List Terminal
wanted_terminals ws = map wanted_terminal ws

-- of a fixed word
abbrev pub word_terminal : Name → Terminal
word_terminal w = fixed w

-- of the placeholder of a phylum
abbrev pub hole_terminal : Phylum → Terminal
hole_terminal p = a_hole p.name

abbrev pub other_terminals : List Terminal
other_terminals = open_bracket ∷ close_bracket ∷ a_name ∷ a_number ∷ a_text ∷ a_more ∷ []

-- all that a token of a tree can be
abbrev pub all_terminals : Definition → List Terminal
all_terminals def = (other_terminals ++ map word_terminal (fixed_words def)) ++ map hole_terminal def.phyla

-- a kind of token was asked for: it is reported exactly where it goes on
abbrev pub IsAsked : Definition → Kind → ℕ → List Token → Terminal → List Terminal → List Terminal → Type 0
IsAsked def kind level ts terminal old new =
    (GoesWith def kind level ts terminal × (new ≡ old ++ terminal ∷ []))
    ⊎ ((GoesWith def kind level ts terminal → ⊥) × (new ≡ old))
