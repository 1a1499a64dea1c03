use Rattle.std.proofs.Common.{ap}
use Rattle.psg_tui.proofs.DueLaws.{text_by}
use Rattle.psg_tui.proofs.editing.Editing.text_of.Goals as goal

pub returns-clause-text : goal.returns-clause-text
returns-clause-text g c = λ tree at.
    text_by c.args.self.now.session.language _ c.args.self.now.kind _ tree _ _ _ _ _ c.args.op.now c.args.args
    c.in_ok-text.text c.known-known.ensures.language c.known-known.ensures.kind (c.known-known.ensures.tree tree at)
    (ap (λ p. p.spans) (at.shown c.requires.settled).printed)
    (ap (λ t. record { target = t; place = c.args.self.now.face.place }) c.in_ok-target.ensures)
    c.in_ok-text.ensures.text
