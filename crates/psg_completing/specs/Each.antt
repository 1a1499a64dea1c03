-- Each operator of a list has an entry.
use Rattle.std.specs.Prelude.{ℕ, ◌≡◌, List, [], ◌∷◌, map, Some}
use Rattle.psg_terms.specs.Names.{Name}
use Rattle.psg_grammar.specs.declared.types.Definition.{Definition}
use Rattle.psg_grammar.specs.Kinds.{op_name_of}
use Rattle.psg_completing.specs.declared.offering.Entry.{Entry}

-- The names are those of the operators in their order, each of them once or more often in a row, without those that are
-- no operators of the language.
pub data AreEach (def : Definition) : List Name → List Name → Type 0 where
  none_left : AreEach def [] []
  once : {op : Name} {ops names : List Name} (o : ℕ) → op_name_of def o ≡ Some op → AreEach def ops names
      → AreEach def (op ∷ ops) (op ∷ names)
  again : {op : Name} {ops names : List Name} → AreEach def (op ∷ ops) (op ∷ names)
      → AreEach def (op ∷ ops) (op ∷ (op ∷ names))
  no_operator : {op : Name} {ops names : List Name} → ((o : ℕ) → op_name_of def o ≡ Some op → ⊥)
      → AreEach def ops names → AreEach def (op ∷ ops) names

-- the operators of the entries
abbrev pub entry_operators : List Entry → List Name
entry_operators entries = map (λ (e : Entry). e.operator) entries
