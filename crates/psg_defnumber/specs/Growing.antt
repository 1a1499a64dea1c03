-- What holds of a definition while it is made, and goes on to hold.
use Rattle.std.specs.Prelude.{ℕ, ◌≡◌, Some, List, slice_get}
use Rattle.psg_grammar.specs.declared.types.Definition.{Definition}

-- what is at a place stays there
abbrev pub Grows : {X : Type 0} → List X → List X → Type 0
Grows {X} xs ys = (k : ℕ) (x : X) → slice_get xs k ≡ Some x → slice_get ys k ≡ Some x

-- the definition is the other one, or a part of it
pub record Keeps (def full : Definition) : Type 0 where
  pub signature : def.signature ≡ full.signature
  pub spaces : Grows def.spaces full.spaces
  pub phyla : Grows def.phyla full.phyla
  pub lists : Grows def.lists full.lists
  pub operators : Grows def.operators full.operators

-- it holds of each definition of which this one is a part
abbrev pub Lasts : Definition → (Definition → Type 0) → Type 0
Lasts def Holds = (full : Definition) → Keeps def full → Holds full
