-- What may follow tokens that begin a program, in words.
use Rattle.std.specs.Prelude.{ℕ, ◌≡◌, List, [], ◌∷◌, ◌++◌, map, codes}
use Rattle.std.specs.Cmp.Lexicographic.{slice_cmp}
use Rattle.std.specs.Ordering.{nat_cmp}
use Rattle.psg_terms.specs.Names.{Name}
use Rattle.psg_grammar.specs.declared.types.Kind.{Kind}
use Rattle.psg_grammar.specs.declared.types.Definition.{Definition}
use Rattle.psg_grammar.specs.Keys.{placed}
use Rattle.psg_grammar.specs.WellFormed.{fixed_words}
use Rattle.psg_class.specs.Terminals.{Terminal, Token, fixed, a_name, a_number, a_text, a_hole, a_more, stray}
use Rattle.psg_parse.specs.Stops.{MayEnd}
use Rattle.psg_stop.specs.Wanted.{GoesWith, hole_terminal, word_terminal}

-- ---- the order in which they are reported

-- the word at its place in the order of bytes, if it is not there
abbrev pub insert_word : Name → List Name → List Name
insert_word w [] = w ∷ []
insert_word w (v ∷ vs) = placed (slice_cmp nat_cmp w v) w v vs (insert_word w vs)

-- the words, each put at its place among those that are in order
abbrev pub with_words : List Name → List Name → List Name
with_words placed_words [] = placed_words
with_words placed_words (w ∷ ws) = with_words (insert_word w placed_words) ws

-- the fixed words and the brackets in the order of their bytes, each once
abbrev pub words_in_order : Definition → List Name
words_in_order def = with_words [] (codes "(" ∷ codes ")" ∷ fixed_words def)

-- all that a token of a program can be, in the order in which it is reported
abbrev pub terminals_in_order : Definition → List Terminal
terminals_in_order def =
    map word_terminal (words_in_order def)
    ++ (a_name ∷ a_number ∷ a_text ∷ map hole_terminal def.phyla ++ a_more ∷ [])

-- ---- the words

abbrev pub in_backquotes : List ℕ → List ℕ
in_backquotes text = 96 ∷ text ++ 96 ∷ []

-- what is reported about a terminal
abbrev pub told_of : Terminal → List ℕ
told_of (fixed w) = in_backquotes w
told_of a_name = codes "a name"
told_of a_number = codes "a number"
told_of a_text = codes "a text"
told_of (a_hole p) = in_backquotes (63 ∷ p)
told_of a_more = in_backquotes (codes "...")
told_of stray = []

-- those of the terminals are reported, in their order, for which this holds
pub data AreTold (Goes : Terminal → Type 0) : List Terminal → List (List ℕ) → Type 0 where
  none_told : AreTold Goes [] []
  one_told : {terminal : Terminal} {rest : List Terminal} {words : List (List ℕ)} → Goes terminal
      → AreTold Goes rest words → AreTold Goes (terminal ∷ rest) (told_of terminal ∷ words)
  one_left_out : {terminal : Terminal} {rest : List Terminal} {words : List (List ℕ)} → (Goes terminal → ⊥)
      → AreTold Goes rest words → AreTold Goes (terminal ∷ rest) words

-- it is reported that the text may end, if it may
pub data IsEndTold (Ends : Type 0) : List (List ℕ) → Type 0 where
  end_told : Ends → IsEndTold Ends (codes "the end of the text" ∷ [])
  end_left_out : (Ends → ⊥) → IsEndTold Ends []

-- words of which this holds were added
pub record IsAdded (Holds : List (List ℕ) → Type 0) (old new : List (List ℕ)) : Type 0 where
  pub words : List (List ℕ)
  pub holds : Holds words
  pub whole : new ≡ old ++ words

-- Exactly those of the terminals are reported for which the one holds, and the end of the text where the other does.
pub record AreToldBoth (Goes : Terminal → Type 0) (Ends : Type 0) (all : List Terminal)
    (words : List (List ℕ)) : Type 0 where
  pub terminals : List (List ℕ)
  pub ends : List (List ℕ)
  pub are_told : AreTold Goes all terminals
  pub is_end_told : IsEndTold Ends ends
  pub whole : words ≡ terminals ++ ends

-- What may follow the tokens: exactly the terminals that go on with them, and that they are a whole program where they
-- are.
abbrev pub AreExpected : Definition → Kind → List Token → List (List ℕ) → Type 0
AreExpected def kind ts words =
    AreToldBoth (GoesWith def kind 0 ts) (MayEnd def kind 0 ts) (terminals_in_order def) words
