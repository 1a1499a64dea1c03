use Rattle.std.proofs.Common.{sym, subst}
use Rattle.psg_cache.specs.Annotated.{tree_in}
use Rattle.psg_cache.specs.Notes.{IsNoteOf}
use Rattle.psg_tui.specs.Editing.{IsShown}
use Rattle.psg_tui.proofs.EditingLaws.{at_note, program_is, with_known}
use Rattle.psg_tui.proofs.editing.Editing.find_repair.Goals as goal

pub find_in-requires-clause-noted : goal.find_in-requires-clause-noted
find_in-requires-clause-noted g c =
    subst (λ d. IsNoteOf d (tree_in c.note_of-note.result.now) c.note_of-note.result.now) (sym c.language.ensures.same)
    (program_is c.args.self.now c.note_of-note.result.now c.note_of-note.ensures c.requires.editing).noted

pub find_in-requires-clause-shown : goal.find_in-requires-clause-shown
find_in-requires-clause-shown g c =
    subst (λ d. IsShown d (tree_in c.note_of-note.result.now) c.args.self.now.shown) (sym c.language.ensures.same)
    ((at_note c.args.self.now c.note_of-note.result.now c.note_of-note.ensures c.requires.editing).shown
    c.requires.settled)

pub returns-clause-left : goal.returns-clause-left
returns-clause-left g c =
    with_known c.args.self.now c.note_of-note.result.now c.note_of-note.ensures c.language.result.now
    c.language.ensures.same c.find_in.new.shown c.find_in.ensures.shown
