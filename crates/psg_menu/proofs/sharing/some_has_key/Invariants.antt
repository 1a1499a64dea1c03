use Rattle.std.proofs.Common.{◌≡◌, drop}
use Rattle.psg_menu.specs.Sharing.{some_has_key}
use Rattle.psg_menu.proofs.sharing.some_has_key.Given as goal

abbrev pub invariant-loop-place : goal.invariant-loop-place
invariant-loop-place l = some_has_key (drop l.place l.summaries) l.name ≡ some_has_key l.summaries l.name
