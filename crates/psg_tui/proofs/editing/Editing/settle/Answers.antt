use Rattle.std.proofs.Common.{sym, subst}
use Rattle.psg_cache.specs.Annotated.{tree_in}
use Rattle.psg_cache.specs.Notes.{IsNoteOf}
use Rattle.psg_tui.proofs.EditingLaws.{as_before, program_is, settled_so, with_same_face}
use Rattle.psg_tui.proofs.editing.Editing.settle.Goals as goal

pub shown_of-requires : goal.shown_of-requires
shown_of-requires c =
    subst (λ d. IsNoteOf d (tree_in c.note_of-note.result.now) c.note_of-note.result.now) (sym c.language.ensures.same)
    (program_is c.args.self.now c.note_of-note.result.now c.note_of-note.ensures c.requires).noted

pub returns-then-settled-clause-settled : goal.returns-then-settled-clause-settled
returns-then-settled-clause-settled c = c.is_settled-settled.ensures.0 c.if-settled.true

pub returns-then-settled-clause-left : goal.returns-then-settled-clause-left
returns-then-settled-clause-left c = as_before c.args.self.now

pub returns-in_err-shown-clause-left : goal.returns-in_err-shown-clause-left
returns-in_err-shown-clause-left c = as_before c.args.self.now

pub returns-in_err-choose-clause-left : goal.returns-in_err-choose-clause-left
returns-in_err-choose-clause-left c =
    with_same_face c.args.self.now c.choose.new.face c.in_err-choose.ensures.memory

pub returns-clause-left : goal.returns-clause-left
returns-clause-left c =
    settled_so c.args.self.now c.note_of-note.result.now c.note_of-note.ensures c.tree.result.now c.tree.ensures
    c.choose.new.face c.in_ok-choose.ensures.chosen c.language.result.now c.language.ensures.same
    c.in_ok-shown.shown c.in_ok-shown.ensures
