-- What the comparison of bytes with a text finds at the end of the bytes.
use Rattle.std.specs.Prelude.{ℕ, ◌≡◌, ◌+◌, List, [], ◌∷◌, Option, Some, None}
use denote.Ref.{Bor}
use Rattle.psg_program.specs.declared.comparing.Difference.{Difference}
use Rattle.psg_program.specs.Formatted.{pieces}

-- the pieces of what is after a line feed; none where there is none
abbrev pub pieces_in : Option (Bor (List ℕ)) → List (List ℕ)
pieces_in None = []
pieces_in (Some rest) = pieces rest.now

-- the first of the pieces that are wanted is at the next line, if there is one
abbrev pub EndsBehind : ℕ → List (List ℕ) → Option Difference → Type 0
EndsBehind line wanted None = wanted ≡ []
EndsBehind line wanted (Some d) =
    (d.line ≡ line + 1) × ((more : List (List ℕ)) × (wanted ≡ d.text.now ∷ more))
