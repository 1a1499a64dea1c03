use Rattle.std.proofs.Common.{sym, subst}
use Rattle.psg_cache.specs.Annotated.{tree_in}
use Rattle.psg_cache.specs.Notes.{IsNoteOf}
use Rattle.psg_tui.proofs.TuiLaws.{begun_so, not_settled}
use Rattle.psg_tui.proofs.tui.Tui.new.Goals as goal

pub note_of-note-requires : goal.note_of-note-requires
note_of-note-requires c = (c.args.kind, c.requires.0, c.requires.1)

pub shown_of-requires : goal.shown_of-requires
shown_of-requires c =
    subst (λ d. IsNoteOf d (tree_in c.note_of-note.result.now) c.note_of-note.result.now) (sym c.language.ensures.same)
    (c.note_of-note.ensures c.args.kind c.requires.0 c.requires.1).1.noted

pub invariant_of-tui : goal.invariant_of-tui
invariant_of-tui c = (c.requires.0, record { opened = c.requires.1; shown = λ aim. absurd (not_settled aim) })

pub returns-clause-begun : goal.returns-clause-begun
returns-clause-begun c = λ tree at.
    begun_so c.args.session.language c.language.result.now tree (tree_in c.note_of-note.result.now) c.in_ok-face.face
    c.args.file c.in_ok-written.written c.args.writes c.args.rows c.args.cols c.in_ok-shown.shown c.in_ok-face.ensures
    c.in_ok-written.ensures c.in_ok-shown.ensures c.language.ensures.same
    (c.note_of-note.ensures c.args.kind tree at.opened).0
