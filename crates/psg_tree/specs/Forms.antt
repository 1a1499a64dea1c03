-- Which parts are those of an operator's items.
use Rattle.std.specs.Prelude.{ℕ, ◌↔◌, ◌<◌, ◌≤◌, ◌^◌, List, [], ◌∷◌, length, drop, Option, None, Some, IsUtf8}
use Rattle.psg_terms.specs.Names.{Name}
use Rattle.psg_grammar.specs.declared.types.Item.{Item}
use Rattle.psg_grammar.specs.declared.types.Item.TheVariants as items
use Rattle.psg_grammar.specs.declared.types.Definition.{Definition}
use Rattle.psg_grammar.specs.Fragments.{Fragment}
use Rattle.psg_grammar.specs.Lookups.{part_items}
use Rattle.psg_grammar.specs.WellFormed.{WellFormed, IsName}
use Rattle.psg_tree.specs.declared.tree.Part.{Part}
use Rattle.psg_tree.specs.declared.tree.Part.TheVariants.{Sub, Name as Named, Number, Text}

-- the number may be the part of the item
abbrev pub NumberFits : ℕ → Item → Type 0
NumberFits n items.Number = n < 2 ^ 128
NumberFits n _ = ⊥

-- the text may be the part of the item
abbrev pub TextFits : List ℕ → Item → Type 0
TextFits t items.Text = IsUtf8 t
TextFits t _ = ⊥

module _ (def : Definition) where
  abbrev pub TreeFits : Fragment → Item → Type 0
  TreeFits f (items.Slot k) = WellFormed def f k
  TreeFits f _ = ⊥

  abbrev pub NameFits : Name → Item → Type 0
  NameFits n (items.Refers s) = IsName def n
  NameFits n (items.Declares s) = IsName def n
  NameFits n _ = ⊥

  abbrev pub PartFits : Part → Item → Type 0
  PartFits (Sub f) i = TreeFits f i
  PartFits (Named n) i = NameFits n i
  PartFits (Number n) i = NumberFits n i
  PartFits (Text t) i = TextFits t i

  abbrev pub PartsFit : List Part → List Item → Type 0
  PartsFit [] [] = Unit {0}
  PartsFit [] (i ∷ is) = ⊥
  PartsFit (p ∷ ps) [] = ⊥
  PartsFit (p ∷ ps) (i ∷ is) = PartFits p i × PartsFit ps is

  -- the parts from the number on are those of the item and the rest, just where those from the next number on are those
  -- of the rest
  abbrev pub IsNextPart : List Part → ℕ → Item → Option ℕ → Type 0
  IsNextPart ps n i None = (rest : List Item) → PartsFit (drop n ps) (part_items (i ∷ rest)) → ⊥
  IsNextPart ps n i (Some next) = (next ≤ length ps)
      × ((rest : List Item) → PartsFit (drop n ps) (part_items (i ∷ rest)) ↔ PartsFit (drop next ps) (part_items rest))
