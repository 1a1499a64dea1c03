use Rattle.std.proofs.Common.{◌≡◌, ◌+◌, drop}
use Rattle.psg_cache.specs.Annotated.{weight_in}
use Rattle.psg_cache.specs.Noted.{summed}
use Rattle.psg_cache.proofs.topping.weight_below.Given as goal

abbrev pub invariant-loop-note : goal.invariant-loop-note
invariant-loop-note l = l.sum + summed weight_in (drop l.note-index l.notes) ≡ summed weight_in l.notes
