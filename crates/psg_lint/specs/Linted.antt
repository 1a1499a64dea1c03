-- What reads and judges a text.
use Rattle.std.specs.Prelude.{◌≡◌}
use Rattle.std.specs.List.{AllByRecursion}
use Rattle.psg_grammar.specs.WellFormed.{fixed_words}
use Rattle.psg_lexis.specs.Tokens.{IsFixedWord}
use Rattle.psg_specimen.specs.Languages.{IsDeclaringPhylum}
use Rattle.psg_specimen.specs.Refusal.{IsAccepted}
use Rattle.psg_recover.specs.Readers.{IsReader}
use Rattle.psg_lint.specs.declared.reporting.Linting.{Linting}

pub record IsLinting (l : Linting) : Type 0 where
  pub reader : IsReader l.reader
  pub same : l.reader.known.definition.now ≡ l.language.now
  pub quiet : IsDeclaringPhylum l.language.now l.reader.kind → ⊥
  pub accepted : IsAccepted l.language.now
  pub words : AllByRecursion IsFixedWord (fixed_words l.language.now)
