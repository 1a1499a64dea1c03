use Rattle.std.proofs.Common.{◌≡◌, ◌++◌, drop, map}
use Rattle.psg_windows.specs.Moving.{other_moved}
use Rattle.psg_windows.proofs.moving.others_moved.Given as goal

abbrev pub invariant-loop-cursor : goal.invariant-loop-cursor
invariant-loop-cursor l =
    l.moved.items ++ map (other_moved l.command) (drop l.cursor-index l.cursors) ≡ map (other_moved l.command) l.cursors
