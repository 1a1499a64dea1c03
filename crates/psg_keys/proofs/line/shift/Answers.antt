use Rattle.std.proofs.Common.{refl}
use Rattle.std.proofs.Math.ListN.{set}
use Rattle.psg_keys.proofs.LineLaws.{moved_start, moved_step}
use Rattle.psg_keys.proofs.line.shift.Goals as goal

pub moving-init : goal.moving-init
moving-init c = moved_start c.args.text.now c.args.from c.args.to c.requires.order

pub moving-preserved : goal.moving-preserved
moving-preserved c =
    moved_step c.args.text.now c.args.from c.args.to c.moving.text (set c.moving.text c.moving.place c.index-text-source.result)
    c.moving.place c.moving.source c.requires.order c.moving.auto.source c.moving-test.true c.moving.invariant
    c.index-text-source.result c.index-text-source.is refl
