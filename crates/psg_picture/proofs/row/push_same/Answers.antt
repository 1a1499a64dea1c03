use Rattle.psg_picture.proofs.RowLaws.{same-step}
use Rattle.psg_picture.proofs.row.push_same.Goals as goal

pub loop-preserved : goal.loop-preserved
loop-preserved c =
    same-step c.args.row.now.items c.loop.row.items c.push.new.self.items c.args.style c.loop.counter c.args.c c.loop.invariant
    c.in_ok-push.ensures.items
