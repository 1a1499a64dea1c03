use Rattle.std.specs.Option.{option_copied}
use Rattle.psg_tui.proofs.EditingLaws.{at_note, program_is, tree_is}
use Rattle.psg_tui.proofs.ShownLaws.{known_all, known_so}
use Rattle.psg_tui.proofs.editing.Editing.known.Goals as goal

pub returns-clause-known : goal.returns-clause-known
returns-clause-known c =
    known_all c.args.self.now.session.language c.language.result.now c.args.self.now.kind c.note_of.result.now
    c.is_wrong.result _ (option_copied c.as_ref.result) c.args.self.now.shown.repair c.language.ensures.same
    c.is_wrong.ensures c.as_ref.ensures.value
    (known_so c.args.self.now.session.language c.args.self.now.kind c.note_of.result.now
    (program_is c.args.self.now c.note_of.result.now c.note_of.ensures c.requires.editing) c.args.self.now.shown
    ((at_note c.args.self.now c.note_of.result.now c.note_of.ensures c.requires.editing).shown c.requires.settled)
    c.requires.tried)

pub returns-clause-tree : goal.returns-clause-tree
returns-clause-tree c = λ t a. tree_is c.args.self.now c.note_of.result.now c.note_of.ensures t a
