use Rattle.std.proofs.Common.{◌≡◌, ◌+◌, take}
use Rattle.psg_menu.specs.Trials.{AreBlanks}
use Rattle.psg_menu.proofs.blanks.new_trees.Given as goal

abbrev pub invariant-loop-place : goal.invariant-loop-place
invariant-loop-place g l = record { made : AreBlanks l.definition (take l.place l.kinds) l.made.items; counted : l.steps ≡ l.fn.steps + l.place }
