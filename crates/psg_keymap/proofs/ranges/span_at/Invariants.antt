use Rattle.std.proofs.Common.{◌≡◌, drop}
use Rattle.psg_keymap.specs.Ranges.{span_at}
use Rattle.psg_keymap.proofs.ranges.span_at.Given as goal

abbrev pub invariant-loop-place : goal.invariant-loop-place
invariant-loop-place l = span_at l.spans l.steps ≡ span_at (drop l.place l.spans) l.steps
