use Rattle.std.proofs.Common.{◌+◌, ◌≤◌, take}
use Rattle.std.specs.List.{AllByRecursion}
use Rattle.psg_menu.specs.Sharing.{IsMove, rise_of}
use Rattle.psg_menu.proofs.Levels.{AreSoFar}
use Rattle.psg_menu.proofs.sharing.next_level.Given as goal

-- the candidates so far have a place
abbrev pub invariant-loop-i : goal.invariant-loop-i
invariant-loop-i g l =
    record {
      level : AreSoFar l.way.definition.now (rise_of l.way.rung) l.way.star.now l.candidates l.level l.entries.all.items (take l.i l.candidates) l.places.items;
      moves : AllByRecursion (IsMove l.way.definition.now (rise_of l.way.rung) l.level.entries.items l.entries.all.items) l.moves.all.items;
      counted : l.steps ≤ l.fn.steps + l.i;
    }
