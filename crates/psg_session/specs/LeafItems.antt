-- Which leaves an operator's items take, item by item.
use Rattle.std.specs.Prelude.{ℕ, ◌↔◌, ◌<◌, ◌≤◌, ◌^◌, Bool, true, false, List, ◌∷◌, length, drop, map, Option, None}
use Rattle.std.specs.Prelude.{Some, IsUtf8}
use Rattle.psg_grammar.specs.declared.types.Item.{Item}
use Rattle.psg_grammar.specs.declared.types.Item.TheVariants as items
use Rattle.psg_grammar.specs.declared.types.Definition.{Definition}
use Rattle.psg_grammar.specs.Insertion.{AreLeaves, Leaf as PlainLeaf, a_name, a_number, a_text}
use Rattle.psg_grammar.specs.Lookups.{part_items}
use Rattle.psg_grammar.specs.WellFormed.{IsName}
use Rattle.psg_session.specs.declared.leaves.Leaf.{Leaf}
use Rattle.psg_session.specs.Views.{plain_leaf}

-- whether an item takes a leaf
abbrev pub has_leaf : Item → Bool
has_leaf (items.Refers s) = true
has_leaf (items.Declares s) = true
has_leaf items.Number = true
has_leaf items.Text = true
has_leaf _ = false

-- a number below 2^128
abbrev pub IsNumberLeaf : PlainLeaf → Type 0
IsNumberLeaf (a_number n) = n < 2 ^ 128
IsNumberLeaf _ = ⊥

-- a text of UTF-8
abbrev pub IsTextLeaf : PlainLeaf → Type 0
IsTextLeaf (a_text t) = IsUtf8 t
IsTextLeaf _ = ⊥

module _ (def : Definition) where
  abbrev pub IsNameLeaf : PlainLeaf → Type 0
  IsNameLeaf (a_name n) = IsName def n
  IsNameLeaf _ = ⊥

  -- the leaf is one for the item
  abbrev pub Suits : Item → PlainLeaf → Type 0
  Suits (items.Refers s) leaf = IsNameLeaf leaf
  Suits (items.Declares s) leaf = IsNameLeaf leaf
  Suits items.Number leaf = IsNumberLeaf leaf
  Suits items.Text leaf = IsTextLeaf leaf
  Suits _ leaf = ⊥

  -- the leaves from the number on are those of the item and the rest, exactly if those from the next number on are
  -- those of the rest
  abbrev pub IsNextLeaf : List Leaf → ℕ → Item → Option ℕ → Type 0
  IsNextLeaf leaves n i None = (rest : List Item)
      → AreLeaves def (part_items (i ∷ rest)) (map plain_leaf (drop n leaves)) → ⊥
  IsNextLeaf leaves n i (Some next) =
      (next ≤ length leaves)
      × ((rest : List Item)
      → AreLeaves def (part_items (i ∷ rest)) (map plain_leaf (drop n leaves))
      ↔ AreLeaves def (part_items rest) (map plain_leaf (drop next leaves)))
