use Rattle.std.proofs.Common.{◌≡◌, drop}
use Rattle.psg_links.specs.Links.{first_key}
use Rattle.psg_links.proofs.around.first_key.Given as goal

abbrev pub invariant-loop-place : goal.invariant-loop-place
invariant-loop-place l = first_key l.name l.names ≡ first_key l.name (drop l.place l.names)
