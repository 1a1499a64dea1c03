use Rattle.std.proofs.Common.{◌-◌, ◌≤◌, length}
use denote.Text.{Utf8}
use denote.Shadow.{shadow}
use Rattle.psg_comments.proofs.Cuts.{HasWalked}
use Rattle.psg_comments.proofs.finding.comments_of.Given as goal

abbrev pub invariant-loop-found : goal.invariant-loop-found
invariant-loop-found l = shadow (Utf8 l.rest) × (length l.rest ≤ length l.text)
    × HasWalked l.lexis l.token l.text l.found.items (length l.text - length l.rest) l.rest

abbrev pub decreases-loop-found : goal.decreases-loop-found
decreases-loop-found l = length l.rest
