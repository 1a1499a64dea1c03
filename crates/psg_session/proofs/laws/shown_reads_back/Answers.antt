use Rattle.psg_unparse.proofs.PrintedTree.{printed_reads_back}
use Rattle.psg_session.proofs.laws.shown_reads_back.Goals as goal

pub returns : goal.returns
returns c = λ s old formed opened.
    printed_reads_back c.args.definition.now c.requires.sound c.requires.words c.requires.class old.tree
    (formed.printable.opened old opened) old.kind (formed.opened old opened)
