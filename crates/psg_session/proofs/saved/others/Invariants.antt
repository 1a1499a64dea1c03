use Rattle.std.proofs.Common.{◌≡◌, ◌++◌, drop}
use Rattle.psg_session.specs.Shelf.{others}
use Rattle.psg_session.proofs.saved.others.Given as goal

abbrev pub invariant-loop-fragment : goal.invariant-loop-fragment
invariant-loop-fragment l = l.kept.items ++ others l.name (drop l.fragment-index l.saved) ≡ others l.name l.saved
