-- What the parse table of a definition holds.
use Rattle.std.specs.Prelude.{ℕ, ◌≡◌, ◌↔◌, Bool, true, Some, length, slice_get}
use Rattle.psg_grammar.specs.declared.types.Kind.TheVariants as kinds
use Rattle.psg_grammar.specs.declared.types.Definition.{Definition}
use Rattle.psg_grammar.specs.declared.types.Phylum.{Phylum}
use Rattle.psg_grammar.specs.WellFormed.{fixed_words}
use Rattle.psg_grammar.specs.Declaring.{HasHoles}
use Rattle.psg_class.specs.Terminals.{Terminal, a_hole, open_bracket}
use Rattle.psg_class.specs.Follow.{Leads, Led}
use Rattle.psg_parse.specs.Lookups.{Finds, opener_at}
use Rattle.psg_parse.specs.declared.tables.ParseTable.{ParseTable}

pub record IsParseTable (def : Definition) (l : ParseTable) : Type 0 where
  pub words : l.lexis ≡ fixed_words def
  pub count : length l.holes.items ≡ length def.phyla
  pub holes : (p : ℕ) (b : Bool) → slice_get l.holes.items p ≡ Some b → (b ≡ true) ↔ HasHoles def (kinds.Phylum p)
  pub leading : (p : ℕ) (terminal : Terminal)
      → Finds (λ n. Leads def p n terminal) (opener_at l.leading.items p terminal)
  pub led : (p : ℕ) (terminal : Terminal) → Finds (λ n. Led def p n terminal) (opener_at l.led.items p terminal)

-- the terminal is a placeholder of the phylum
pub record OpensHole (def : Definition) (p : ℕ) (terminal : Terminal) : Type 0 where
  pub phylum : Phylum
  pub found : slice_get def.phyla p ≡ Some phylum
  pub holes : HasHoles def (kinds.Phylum p)
  pub is : terminal ≡ a_hole phylum.name

-- the terminal opens a bracket of the phylum
pub record OpensBracket (def : Definition) (p : ℕ) (terminal : Terminal) : Type 0 where
  pub phylum : Phylum
  pub found : slice_get def.phyla p ≡ Some phylum
  pub bracketed : phylum.bracketed ≡ true
  pub is : terminal ≡ open_bracket
