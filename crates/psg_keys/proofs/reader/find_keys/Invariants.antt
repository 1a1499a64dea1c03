use Rattle.std.proofs.Common.{length}
use Rattle.psg_keys.proofs.ByteLaws.{IsReading}
use Rattle.psg_keys.proofs.reader.find_keys.Given as goal

abbrev pub decreases-keys : goal.decreases-keys
decreases-keys l = length l.rest

abbrev pub invariant-keys : goal.invariant-keys
invariant-keys l = IsReading l.fn.pasting l.fn.late l.fn.text l.strokes.items l.now l.still l.rest
