use Rattle.std.proofs.Common.{◌≡◌, ◌<◌, ◌≤◌, ◌-◌, ℕ, length, true}
use Rattle.psg_completing.specs.Around.{is_word_at}
use Rattle.psg_completing.proofs.around.run_end.Given as goal

abbrev pub invariant-bytes : goal.invariant-bytes
invariant-bytes l =
    (l.place ≤ l.to) × (l.to ≤ length l.text) × ((k : ℕ) → l.place ≤ k → k < l.to → is_word_at l.text k ≡ true)

abbrev pub decreases-bytes : goal.decreases-bytes
decreases-bytes l = length l.text - l.to
