use Rattle.std.proofs.Common.{◌≡◌, drop}
use Rattle.psg_cache.specs.Annotated.{note_at}
use Rattle.psg_cache.proofs.note.at.Given as goal

abbrev pub invariant-loop-step : goal.invariant-loop-step
invariant-loop-step l = note_at l.note l.path ≡ note_at l.node (drop l.step-index l.step-items)
