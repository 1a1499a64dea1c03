-- The page that is shown where no program is asked.
use Rattle.std.specs.Prelude.{ℕ, List, [], ◌∷◌, codes}

-- A wrong program is asked as its repaired one: this place is not there, or that program is not known.
unfoldable pub unasked_lines : List (List ℕ)
unasked_lines =
    codes "The program is wrong, and nothing is known of this place." ∷
    codes "It is in a wrong part, or the wrong places are too many." ∷
    codes "" ∷
    codes "n goes to a wrong place, and e writes a text in its place." ∷
    []
