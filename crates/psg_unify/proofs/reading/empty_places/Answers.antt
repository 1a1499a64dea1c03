use Rattle.std.proofs.Common.{length, ap}
use Rattle.psg_unify.proofs.ReadSteps.{none_at_all}
use Rattle.psg_unify.proofs.reading.empty_places.Goals as goal

pub loop-place-init : goal.loop-place-init
loop-place-init c = (none_at_all c.in_ok-places.places.items c.in_ok-places.ensures.items, ap length c.in_ok-places.ensures.items)
