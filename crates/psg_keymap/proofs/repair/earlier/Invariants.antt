use Rattle.std.proofs.Common.{◌≡◌, ◌≤◌, take}
use Rattle.psg_places.specs.Ways.{earlier}
use Rattle.psg_keymap.proofs.repair.earlier.Given as goal

abbrev pub invariant-loop-place : goal.invariant-loop-place
invariant-loop-place l = record {
  exact : l.total ≡ earlier (take l.place-index l.blamed) l.path l.many;
  few : l.total ≤ l.place-index;
}
