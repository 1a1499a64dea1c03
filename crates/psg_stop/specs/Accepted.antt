-- A sound definition in which no slot is of a phylum that declares, and each fixed word is a token; and what it has.
use Rattle.std.specs.Prelude.{ℕ, ◌≡◌, List, [], ◌∷◌, ◌++◌, Some, slice_get}
use Rattle.std.specs.List.{AllByRecursion}
use Rattle.psg_lexis.specs.Tokens.{IsFixedWord}
use Rattle.psg_grammar.specs.declared.types.Item.{Item}
use Rattle.psg_grammar.specs.declared.types.Item.TheVariants as items
use Rattle.psg_grammar.specs.declared.types.Operator.{Operator}
use Rattle.psg_grammar.specs.declared.types.Phylum.{Phylum}
use Rattle.psg_grammar.specs.declared.types.ListKind.{ListKind}
use Rattle.psg_grammar.specs.declared.types.Kind.TheVariants as kinds
use Rattle.psg_grammar.specs.declared.types.Definition.{Definition}
use Rattle.psg_grammar.specs.Declaring.{HasHoles}
use Rattle.psg_grammar.specs.Sound.{IsSound}
use Rattle.psg_grammar.specs.WellFormed.{fixed_words}
use Rattle.psg_parse.specs.Stops.{Begins}

-- no slot is of a phylum that declares
abbrev pub HasQuietSlots : Definition → Type 0
HasQuietSlots def = (n : ℕ) (o : Operator) (front : List Item) (p : ℕ) (behind : List Item)
    → slice_get def.operators n ≡ Some o → o.items ≡ front ++ items.Slot (kinds.Phylum p) ∷ behind
    → HasHoles def (kinds.Phylum p)

pub record CanEnd (def : Definition) : Type 0 where
  pub sound : IsSound def
  pub quiet : HasQuietSlots def
  pub words : AllByRecursion IsFixedWord (fixed_words def)

-- Each kind has a tree: a phylum one of the level 0, and one of each level where it has placeholders. A list has no
-- level.
pub record HasTrees (def : Definition) : Type 0 where
  pub phyla : (p : ℕ) (phylum : Phylum) → slice_get def.phyla p ≡ Some phylum → Begins def (kinds.Phylum p) 0 []
  pub holes : (p : ℕ) (phylum : Phylum) → slice_get def.phyla p ≡ Some phylum → HasHoles def (kinds.Phylum p)
      → (level : ℕ) → Begins def (kinds.Phylum p) level []
  pub lists : (l : ℕ) (list : ListKind) → slice_get def.lists l ≡ Some list
      → (level : ℕ) → Begins def (kinds.List l) level []
