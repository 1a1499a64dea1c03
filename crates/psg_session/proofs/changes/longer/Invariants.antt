use Rattle.std.proofs.Common.{◌≡◌, take}
use Rattle.psg_session.proofs.changes.longer.Given as goal

abbrev pub invariant-loop-known : goal.invariant-loop-known
invariant-loop-known l = l.steps.items ≡ take l.known-index l.known-items
