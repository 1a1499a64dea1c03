use Rattle.psg_tui.proofs.ReplyLaws.{far_so}
use Rattle.psg_tui.proofs.editing.Editing.take_far.Goals as goal

pub returns-clause-heard : goal.returns-clause-heard
returns-clause-heard c = λ tree.
    far_so c.args.self.now tree c.args.command.now c.said_after.result c.versions_after-self.result c.said_after.ensures
    c.versions_after-self.ensures
