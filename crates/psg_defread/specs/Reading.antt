-- What it means that bytes spell a definition.
use Rattle.std.specs.Prelude.{ℕ, List, IsUtf8}
use Rattle.std.specs.Str.Lines.{lines}
use Rattle.psg_grammar.specs.declared.types.Definition.{Definition}
use Rattle.psg_deflines.specs.Entries.{Entry, written, AreSpelled}
use Rattle.psg_defnumber.specs.Numbers.{IsNumbered}
use Rattle.psg_defread.specs.Refusals.{Refusal}
use Rattle.psg_deflines.specs.declared.fault.DefFault.{DefFault}

-- The bytes are UTF-8; their lines, each less one carriage return in front of its line feed, spell lines of a
-- definition, which are together all of the definition.
pub record Spells (bytes : List ℕ) (def : Definition) : Type 0 where
  pub utf8 : IsUtf8 bytes
  pub version : ℕ
  pub entries : List Entry
  pub spelled : AreSpelled version (lines bytes) entries
  pub numbered : IsNumbered version (written entries) def

-- nothing is refused
abbrev pub IsFaultless : List ℕ → Type 0
IsFaultless bytes = (fault : DefFault) → Refusal bytes fault → ⊥

-- the bytes spell the definition without a fault
pub record IsReadAs (bytes : List ℕ) (def : Definition) : Type 0 where
  pub spells : Spells bytes def
  pub faultless : IsFaultless bytes
