use Rattle.std.proofs.Common.{◌∙◌, ap, sym}
use Rattle.std.specs.Prelude.{option_copied}
use Rattle.psg_cache.proofs.AllNoted.{no_summary_at, summary_at}
use Rattle.psg_cache.proofs.note.Note.summary.Goals as goal

pub returns-in-Some-clause-some : goal.returns-in-Some-clause-some
returns-in-Some-clause-some c =
    summary_at c.args.self.now c.args.path.now c.in-Some.note.now _ (sym c.at.ensures ∙ ap option_copied c.in-Some.is)
    c.root.ensures

pub returns-in-None-clause-none : goal.returns-in-None-clause-none
returns-in-None-clause-none c =
    no_summary_at c.args.self.now c.args.path.now (sym c.at.ensures ∙ ap option_copied c.in-None.is)
