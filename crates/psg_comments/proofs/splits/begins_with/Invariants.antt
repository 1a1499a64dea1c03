use Rattle.std.proofs.Common.{◌≡◌, chars, length}
use denote.Text.{Utf8}
use denote.Shadow.{shadow}
use Rattle.psg_comments.specs.Fitting.{begins_with}
use Rattle.psg_comments.proofs.splits.begins_with.Given as goal

abbrev pub invariant-loop-wanted : goal.invariant-loop-wanted
invariant-loop-wanted l = shadow (Utf8 l.rest) × shadow (Utf8 l.left)
    × (begins_with (chars l.rest) (chars l.left) ≡ begins_with (chars l.text) (chars l.front))

abbrev pub decreases-loop-wanted : goal.decreases-loop-wanted
decreases-loop-wanted l = length l.left
