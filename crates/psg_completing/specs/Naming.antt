-- The name that an entry has where no name is given.
use Rattle.std.specs.Prelude.{ℕ, zero, suc, ◌≡◌, ◌<◌, List, [], ◌∷◌, ◌++◌, codes}
use Rattle.psg_terms.specs.Names.{Name}
use Rattle.psg_terms.specs.Words.{IsFreeWord}
use Rattle.psg_grammar.specs.declared.types.Definition.{Definition}
use Rattle.psg_grammar.specs.WellFormed.{fixed_words}

-- so many `_`
abbrev pub strokes : ℕ → List ℕ
strokes zero = []
strokes (suc n) = 95 ∷ strokes n

-- `name` with so many `_` after it
abbrev pub name_with : ℕ → Name
name_with n = codes "name" ++ strokes n

-- the word `name` with the fewest `_` after it that is none of the fixed words
pub record IsSampleOf (words : List Name) (name : Name) : Type 0 where
  pub many : ℕ
  pub is : name ≡ name_with many
  pub free : IsFreeWord words name
  pub fewest : (n : ℕ) → n < many → IsFreeWord words (name_with n) → ⊥

-- so it is a name of the language
abbrev pub IsSampleName : Definition → Name → Type 0
IsSampleName def name = IsSampleOf (fixed_words def) name
