use Rattle.std.proofs.Common.{◌≡◌, map, take}
use Rattle.psg_cache.specs.Annotated.{whole_in}
use Rattle.psg_cache.proofs.topping.wholes_of.Given as goal

abbrev pub invariant-loop-note : goal.invariant-loop-note
invariant-loop-note l = l.found.items ≡ map whole_in (take l.note-index l.notes)
