-- What a sink has taken, and how often a put failed.
use Rattle.std.specs.Prelude.{ℕ, ◌≡◌, ◌+◌, ◌-◌, ◌^◌, ◌<◌, ◌≤◌, min, List, length, take, Option, Result, Ok, Err}
use Rattle.std.specs.Io.KnownBytes.{append_known}
use Rattle.psg_world.specs.declared.world.WriteStop.{WriteStop}

-- One more, where a `u64` has one more: a count stays at its last value.
abbrev pub raised : ℕ → ℕ
raised count = min (count + 1) (2 ^ 64 - 1)

-- That many more, as far as a `u64` counts.
abbrev pub raised_by : ℕ → ℕ → ℕ
raised_by count more = min (count + more) (2 ^ 64 - 1)

-- The count is greater than before, or is at its last value, where it can't be greater. Asking for a
-- greater count alone would refuse every sink that keeps its count in a `u64`.
abbrev pub HasRisen : ℕ → ℕ → Type 0
HasRisen before now = raised before ≤ now

-- What is taken, where that is known: the front of the piece that a put counts, and nothing where it stops.
abbrev pub written_after_put : Option (List ℕ) → List ℕ → Result ℕ WriteStop → Option (List ℕ)
written_after_put written piece (Ok count) = append_known written (take count piece)
written_after_put written piece (Err stop) = written

-- A front of the bytes, and not all of them, was taken.
abbrev pub TakesFront : Option (List ℕ) → List ℕ → Option (List ℕ) → Type 0
TakesFront old bytes new = (count : ℕ) × (count < length bytes) × (new ≡ append_known old (take count bytes))
