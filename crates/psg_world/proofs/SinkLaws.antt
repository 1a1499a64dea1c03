-- What was taken in two puts.
use Rattle.std.proofs.Common.{ℕ, ◌≡◌, ◌+◌, List, take, drop, Option, Some, None, refl, ◌∙◌, ap, append_assoc}
use Rattle.std.proofs.Math.Seq.{take-add}
use Rattle.std.specs.Io.KnownBytes.{append_known}

append_known-take : (written : Option (List ℕ)) (bytes : List ℕ) (taken count : ℕ)
    → append_known (append_known written (take taken bytes)) (take count (drop taken bytes))
    ≡ append_known written (take (taken + count) bytes)
append_known-take None bytes taken count = refl
append_known-take (Some old) bytes taken count = ap Some (rw (append_assoc, take-add taken count bytes) refl)

-- a front of the bytes was taken, and then a front of those that were left
pub take_more_known : (start before after : Option (List ℕ)) (bytes : List ℕ) (taken count : ℕ)
    → before ≡ append_known start (take taken bytes) → after ≡ append_known before (take count (drop taken bytes))
    → after ≡ append_known start (take (taken + count) bytes)
take_more_known start before after bytes taken count first then_ =
    then_ ∙ ap (λ old. append_known old (take count (drop taken bytes))) first
    ∙ append_known-take start bytes taken count
