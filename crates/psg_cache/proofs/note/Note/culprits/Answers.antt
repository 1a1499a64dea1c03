use Rattle.std.proofs.Common.{◌∙◌, ◌++◌, ap}
use Rattle.psg_cache.specs.Blames.{culprits_in}
use Rattle.psg_cache.proofs.MarkLaws.{marked}
use Rattle.psg_cache.proofs.note.Note.culprits.Goals as goal

pub returns-clause-culprits : goal.returns-clause-culprits
returns-clause-culprits c =
    marked c.args.self.now c.blame.new.found.items
    (c.in_ok-blame.ensures ∙ ap (λ l. l ++ culprits_in c.args.self.now) c.new-found.ensures.items)
