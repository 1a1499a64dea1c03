use Rattle.std.proofs.Common.{◌≡◌, ◌+◌, take}
use Rattle.std.specs.Prelude.{count_by}
use Rattle.psg_grammar.specs.Levels.{is_slot}
use Rattle.psg_completing.proofs.wanted.slot_place.Given as goal

abbrev pub invariant-loop-place : goal.invariant-loop-place
invariant-loop-place l = count_by is_slot (take l.place l.items) + l.left ≡ l.number
