use Rattle.std.specs.Cmp.Lexicographic.{other_text}
use Rattle.psg_world.proofs.PlaceLaws.{absent-take}
use Rattle.psg_world.proofs.store.position.Goals as goal

pub loop-index-preserved : goal.loop-index-preserved
loop-index-preserved c =
    absent-take _ _ _ c.index-files-index.result c.loop-index-test.true c.index-files-index.is c.loop-index.invariant
    (rw c.as_str.ensures.value at (other_text c.as_str.result.now c.args.name.now c.if-eq.ensures))
