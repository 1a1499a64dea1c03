use Rattle.std.proofs.Common.{◌≡◌, ◌≤◌, take}
use Rattle.psg_places.specs.NewNames.{beginning}
use Rattle.psg_places.proofs.fronts.count.Given as goal

abbrev pub invariant-loop-name : goal.invariant-loop-name
invariant-loop-name l = record { exact : l.total ≡ beginning l.front (take l.name-index l.names); few : l.total ≤ l.name-index }
