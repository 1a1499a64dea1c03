-- What a history keeps: the values that were current earlier and later than the one of now.
use Rattle.std.specs.Prelude.{ℕ, ◌+◌, ◌≤◌, List, length, refl}
use Rattle.std.specs.Coded.{Coded, code_by, coded×, coded_list}

-- The kept values, each list with the nearest value first.
pub record Versions (T : Type 0) : Type 0 where
  pub earlier : List T
  pub later : List T

-- The earlier and the later values are together at most that many.
abbrev pub IsWithin : {T : Type 0} → ℕ → Versions T → Type 0
IsWithin most kept = length kept.earlier + length kept.later ≤ most

-- The values are stored as the pair of the two lists.
abbrev pub versions_code : {T : Type 0} → Coded T → Coded (Versions T)
versions_code {T} code =
    code_by (List T × List T) (coded× (coded_list code) (coded_list code)) (λ v. (v.earlier, v.later))
    (λ p. record { earlier = p.0; later = p.1 })
    (λ _. refl)
