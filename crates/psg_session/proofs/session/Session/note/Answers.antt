use Rattle.psg_session.proofs.Applying.{formed_in, note_in}
use Rattle.psg_session.proofs.session.Session.note.Goals as goal

pub returns-in-Some-clause-noted : goal.returns-in-Some-clause-noted
returns-in-Some-clause-noted c = note_in c.self.inside.parts c.args.self.now c.self.view_is c.self.invariant.session c.in-Some.held c.in-Some.is

pub returns-in-Some-clause-formed : goal.returns-in-Some-clause-formed
returns-in-Some-clause-formed c = formed_in c.self.inside.parts c.args.self.now c.self.view_is c.self.invariant.session

pub returns-in-None-clause-formed : goal.returns-in-None-clause-formed
returns-in-None-clause-formed c = formed_in c.self.inside.parts c.args.self.now c.self.view_is c.self.invariant.session
