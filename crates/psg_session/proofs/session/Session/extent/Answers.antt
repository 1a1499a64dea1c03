use Rattle.psg_session.proofs.Measured.{extent_in, held_noted}
use Rattle.psg_session.proofs.session.Session.extent.Goals as goal

pub measured-requires : goal.measured-requires
measured-requires c =
    record { noted = held_noted c.self.inside.parts c.self.invariant.session c.in-Some.held c.in-Some.is }

pub returns-in_ok-extent-in-Some : goal.returns-in_ok-extent-in-Some
returns-in_ok-extent-in-Some c =
    extent_in c.self.inside.parts c.args.self.now c.self.view_is c.in-Some.held c.in-Some.is
    c.in_ok-extent-in-Some.extent c.in_ok-extent-in-Some.ensures
