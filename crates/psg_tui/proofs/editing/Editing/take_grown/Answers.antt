use Rattle.psg_tui.proofs.ReplyLaws.{grown_so}
use Rattle.psg_tui.proofs.editing.Editing.take_grown.Goals as goal

pub returns-clause-heard : goal.returns-clause-heard
returns-clause-heard c = λ tree.
    grown_so c.args.self.now tree c.args.command.now c.said_after.result c.versions_after-self.result c.said_after.ensures
    c.versions_after-self.ensures c.args.path c.aim_in-self.result c.aim_in-self.ensures
