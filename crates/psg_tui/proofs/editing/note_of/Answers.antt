use Rattle.psg_tui.proofs.EditingLaws.{no_note, some_note}
use Rattle.psg_tui.proofs.editing.note_of.Goals as goal

pub unreachable-requires : goal.unreachable-requires
unreachable-requires c =
    no_note c.args.session.now c.note.result c.in-None.is c.note.ensures.noted c.requires.0 c.requires.1 c.requires.2

pub returns : goal.returns
returns c =
    some_note c.args.session.now c.note.result c.in-Some.note c.in-Some.is c.note.ensures.noted c.note.ensures.formed
