use Rattle.psg_menu.specs.Sharing.{rise_of}
use Rattle.psg_menu.proofs.Moving.{put_ok, raised_usual}
use Rattle.psg_menu.proofs.sharing.raised_entry.Goals as goal

pub returns-clause-raised : goal.returns-clause-raised
returns-clause-raised g c =
    put_ok c.args.way.definition.now (rise_of c.args.way.rung) c.args.own.now c.in_ok-next.next c.args.shared c.put.new.self.all.items c.in_ok-to.to c.raise-made.result c.raise-made.ensures.answer
    c.in_ok-next.ensures c.in_ok-to.ensures.place

pub returns-clause-usual : goal.returns-clause-usual
returns-clause-usual g c = λ kind up can usual all.
    let def = c.args.way.definition.now in
    c.in_ok-to.ensures.usual def up all
    (raised_usual def (rise_of c.args.way.rung) kind up c.args.own.now c.in_ok-next.next c.raise-made.result can usual c.raise-made.ensures.summary c.raise-made.ensures.kind c.raise-made.ensures.seen
    c.in_ok-next.ensures)
