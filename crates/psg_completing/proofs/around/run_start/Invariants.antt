use Rattle.std.proofs.Common.{◌≡◌, ◌<◌, ◌≤◌, ℕ, true}
use Rattle.psg_completing.specs.Around.{is_word_at}
use Rattle.psg_completing.proofs.around.run_start.Given as goal

abbrev pub invariant-bytes : goal.invariant-bytes
invariant-bytes l = (l.from ≤ l.place) × ((k : ℕ) → l.from ≤ k → k < l.place → is_word_at l.text k ≡ true)

abbrev pub decreases-bytes : goal.decreases-bytes
decreases-bytes l = l.from
