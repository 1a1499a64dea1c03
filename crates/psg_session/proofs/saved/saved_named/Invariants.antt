use Rattle.std.proofs.Common.{◌≡◌, drop}
use Rattle.psg_session.specs.Shelf.{saved_at}
use Rattle.psg_session.proofs.saved.saved_named.Given as goal

abbrev pub invariant-loop-fragment : goal.invariant-loop-fragment
invariant-loop-fragment l = saved_at (drop l.fragment-index l.saved) l.name ≡ saved_at l.saved l.name
