use Rattle.std.proofs.Common.{◌∙◌}
use Rattle.std.specs.Prelude.{reverse}
use Rattle.psg_keeping.proofs.LineLaws.{before_is}
use Rattle.psg_keeping.proofs.moving.place_before.Goals as goal

pub returns : goal.returns
returns c = λ steps a n.
    c.saturating_sub.ensures
    ∙ before_is steps c.args.places.now c.args.count c.saturating_sub-left.result c.place_at.result c.args.all a n
    c.saturating_sub-left.ensures (c.place_at.ensures (reverse steps) a)
