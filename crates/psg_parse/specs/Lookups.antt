-- What the look-up of a definition's operators finds.
use Rattle.std.specs.Prelude.{ℕ, ◌≡◌, ◌⊎◌, false, List, [], ◌∷◌, Option, Some, None, slice_get}
use Rattle.std.specs.HashMap.{get_by_text}
use Rattle.psg_grammar.specs.declared.types.Item.{Item}
use Rattle.psg_grammar.specs.declared.types.Item.TheVariants as items
use Rattle.psg_grammar.specs.declared.types.Definition.{Definition}
use Rattle.psg_grammar.specs.Levels.{is_mark}
use Rattle.psg_class.specs.Terminals.{Terminal, fixed, a_name, a_number, a_text, a_hole, a_more, stray, item_terminal}
use Rattle.psg_grammar.specs.declared.types.Operator.{Operator}
use Rattle.psg_class.specs.Places.{solid}
use Rattle.psg_parse.specs.declared.lookup.Openers.{Openers}
use Rattle.psg_parse.specs.declared.tables.Place.{Place}
use Rattle.psg_parse.specs.declared.tables.Place.TheVariants as places

-- the first item, if there is one, is no mark for the layout
abbrev pub IsBare : List Item → Type 0
IsBare [] = Unit {0}
IsBare (i ∷ more) = is_mark i ≡ false

-- the operator of the terminal
abbrev pub opener : Openers → Terminal → Option ℕ
opener os (fixed w) = get_by_text os.words w
opener os a_name = os.name
opener os a_number = os.number
opener os a_text = os.text
opener os (a_hole p) = None
opener os a_more = None
opener os stray = None

abbrev pub opener_of : Option Openers → Terminal → Option ℕ
opener_of None terminal = None
opener_of (Some os) terminal = opener os terminal

-- the operator of the phylum and the terminal
abbrev pub opener_at : List Openers → ℕ → Terminal → Option ℕ
opener_at table p terminal = opener_of (slice_get table p) terminal

-- the terminal of the item has the operator, and each other one what it had before
abbrev pub Puts : Openers → Item → ℕ → Openers → Type 0
Puts old item op new =
    (terminal : Terminal)
    → ((item_terminal item ≡ Some terminal) × (opener new terminal ≡ Some op))
    ⊎ ((item_terminal item ≡ Some terminal → ⊥) × (opener new terminal ≡ opener old terminal))

-- an operator with the property, or none where there is none
abbrev pub Finds : (ℕ → Type 0) → Option ℕ → Type 0
Finds Has None = (n : ℕ) → Has n → ⊥
Finds Has (Some n) = Has n

-- ---- the place of the item by which an operator is looked up

-- the items after the first one, where that is a slot; else none
abbrev pub behind_slot : List Item → List Item
behind_slot [] = []
behind_slot (items.Slot k ∷ rest) = rest
behind_slot (_ ∷ rest) = []

abbrev pub from_place : Place → Operator → List Item
from_place places.First o = solid o.items
from_place places.BehindSlot o = behind_slot (solid o.items)

abbrev pub first_terminal : List Item → Option Terminal
first_terminal [] = None
first_terminal (i ∷ rest) = item_terminal i

-- the terminal of the operator's item at the place, where that is a token item
abbrev pub terminal_at : Place → Operator → Option Terminal
terminal_at place o = first_terminal (from_place place o)

-- the operator n of the phylum has the terminal at the place
pub record Has (def : Definition) (place : Place) (p n : ℕ) (terminal : Terminal) : Type 0 where
  pub o : Operator
  pub found : slice_get def.operators n ≡ Some o
  pub phylum : o.phylum ≡ p
  pub begins : terminal_at place o ≡ Some terminal

-- Openers of each phylum: the phylum and the terminal of the item have the operator, all others what they had before.
abbrev pub PutsAt : List Openers → ℕ → Item → ℕ → List Openers → Type 0
PutsAt old phylum item op new =
    (p : ℕ) (terminal : Terminal)
    → ((p ≡ phylum) × (item_terminal item ≡ Some terminal) × (opener_at new p terminal ≡ Some op))
    ⊎ ((p ≡ phylum → item_terminal item ≡ Some terminal → ⊥) × (opener_at new p terminal ≡ opener_at old p terminal))
