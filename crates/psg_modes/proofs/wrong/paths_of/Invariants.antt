use Rattle.std.proofs.Common.{◌≡◌, ◌++◌, drop}
use Rattle.std.specs.Prelude.{map}
use Rattle.psg_keymap.specs.Repairs.{place_path}
use Rattle.psg_modes.proofs.wrong.paths_of.Given as goal

abbrev pub invariant-loop-i : goal.invariant-loop-i
invariant-loop-i l = l.paths.items ++ map place_path (drop l.i l.places) ≡ map place_path l.places
