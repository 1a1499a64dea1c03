use Rattle.std.proofs.Common.{◌+◌, ◌≤◌, drop, take}
use Rattle.std.specs.List.{AllByRecursion}
use Rattle.psg_menu.specs.Answers.{menu_ticks}
use Rattle.psg_menu.specs.Trials.{IsClass}
use Rattle.psg_menu.proofs.MenuLaws.{Chooses}
use Rattle.psg_menu.proofs.choosing.chosen.Given as goal

abbrev pub invariant-loop-place : goal.invariant-loop-place
invariant-loop-place g l =
    record {
      chooses : Chooses l.menu.definition.now l.menu.frames.now l.menu.used.now (take l.place l.ops) l.found.items;
      classes : AllByRecursion (IsClass l.menu.definition.now l.menu.frames.now) l.classes.all.items;
      counted : l.steps + menu_ticks l.menu.definition.now (drop l.place l.ops) l.menu.frames.now ≤ l.fn.steps + menu_ticks l.menu.definition.now l.ops l.menu.frames.now;
    }
