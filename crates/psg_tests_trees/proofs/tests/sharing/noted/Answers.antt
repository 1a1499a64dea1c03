use Rattle.std.proofs.Common.{subst, sym}
use Rattle.psg_cache.specs.Notes.{IsNoteOf}
use Rattle.psg_tests_trees.proofs.tests.sharing.noted.Goals as goal

pub returns : goal.returns
returns g c =
    let h = c.in_ok-note.ensures.note in
    subst (λ t. IsNoteOf c.args.definition.now t c.in_ok-note.note) (sym h.tree) h
