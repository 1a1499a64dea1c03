use Rattle.std.proofs.Common.{refl}
use Rattle.psg_keeping.proofs.LineLaws.{place_is}
use Rattle.psg_keeping.proofs.moving.place_at.Goals as goal

pub returns : goal.returns
returns c = λ steps a. place_is steps c.args.places.now c.args.count c.min-at.result _ a c.min-at.ensures refl
