-- What the calls of this crate add line by line.
use Rattle.std.specs.Prelude.{ℕ, ◌≡◌, List, [], ◌∷◌, ◌++◌, codes, map}
use Rattle.psg_defcomment.specs.Plain.{joined, named_from, plain_line}
use Rattle.psg_defcomment.specs.declared.lines.Named.{Named}

-- the line of the number was written, or an empty one in its place, and its token was kept
pub record AddsLine (line : List ℕ) (number : ℕ) (bytes : List ℕ) (named : List Named) (bytes' : List ℕ)
    (named' : List Named) : Type 0 where
  pub written : bytes' ≡ bytes ++ (plain_line line ++ (13 ∷ 10 ∷ []))
  pub kept : named' ≡ named ++ named_from number (line ∷ [])

-- the bytes and the tokens are those of a file of version 3 with these lines after its head
pub record ArePlain (lines : List (List ℕ)) (bytes : List ℕ) (named : List Named) : Type 0 where
  pub written : bytes ≡ joined (codes "psg 2" ∷ map plain_line lines)
  pub kept : named ≡ named_from 2 lines
