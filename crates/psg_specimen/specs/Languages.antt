-- An accepted definition with what an editor makes of it once.
use Rattle.std.specs.Prelude.{ℕ, ◌≡◌, true}
use Rattle.std.specs.List.{AllByRecursion}
use Rattle.psg_grammar.specs.declared.types.Kind.{Kind}
use Rattle.psg_grammar.specs.declared.types.Kind.TheVariants as kinds
use Rattle.psg_grammar.specs.declared.types.Definition.{Definition}
use Rattle.psg_grammar.specs.Declaring.{is_declaring}
use Rattle.psg_grammar.specs.Sound.{IsSound}
use Rattle.psg_grammar.specs.WellFormed.{fixed_words}
use Rattle.psg_lexis.specs.Tokens.{IsFixedWord}
pub use Rattle.psg_eval.specs.Starts.{AreTables}
use Rattle.psg_parse.specs.Tables.{IsParseTable}
use Rattle.psg_specimen.specs.Refusal.{IsAccepted}
use Rattle.psg_specimen.specs.declared.language.LanguageParts.{LanguageParts}

-- a phylum that declares names; a placeholder of it would not say which
abbrev pub IsDeclaringPhylum : Definition → Kind → Type 0
IsDeclaringPhylum def (kinds.Phylum p) = (space : ℕ) × (is_declaring def space (kinds.Phylum p) ≡ true)
IsDeclaringPhylum def (kinds.List l) = ⊥

-- a sound and accepted definition, each of whose fixed words is one token, with what is made of it
pub record IsLanguage (l : LanguageParts) : Type 0 where
  pub sound : IsSound l.definition
  pub tables : AreTables l.definition l.tables
  pub words : l.lexis ≡ fixed_words l.definition
  pub accepted : IsAccepted l.definition
  pub tokens : AllByRecursion IsFixedWord (fixed_words l.definition)
  pub table : IsParseTable l.definition l.table
