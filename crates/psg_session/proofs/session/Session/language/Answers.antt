use Rattle.psg_session.proofs.Applying.{formed_in}
use Rattle.psg_session.proofs.session.Session.language.Goals as goal

pub returns-clause-formed : goal.returns-clause-formed
returns-clause-formed c = formed_in c.self.inside.parts c.args.self.now c.self.view_is c.self.invariant.session
