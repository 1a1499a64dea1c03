use Rattle.std.proofs.Common.{◌∙◌, ap, sym}
use Rattle.std.specs.Prelude.{option_copied}
use Rattle.std.proofs.lemmas.Option.{none-some}
use Rattle.psg_cache.proofs.note.Note.owners.Goals as goal

pub returns-in-Some : goal.returns-in-Some
returns-in-Some c = record {
  none = λ e. absurd (none-some c.in-Some.note.now (sym e ∙ (sym c.at.ensures ∙ ap option_copied c.in-Some.is)));
}
