use Rattle.psg_class.specs.Grids.{given}
use Rattle.psg_class.proofs.Closing.{closed}
use Rattle.psg_class.proofs.grid.saturate.Goals as goal

pub loop-init : goal.loop-init
loop-init c = record { size = c.in_ok-spread.ensures.size; keeps = c.in_ok-spread.ensures.keeps; sound = c.in_ok-spread.ensures.right c.args.grid.now (λ r k cell e. given e) }

pub returns-clause-exact : goal.returns-clause-exact
returns-clause-exact c =
    closed c.args.links.now c.args.grid.now c.loop.grid c.follow_all.new.grid c.requires.grid c.requires.links c.loop.invariant.size c.loop.invariant.keeps c.loop.invariant.sound
    c.loop-test.ensures.step c.loop-test.ensures.followed
