-- Texts in brackets, a comma between two, as terms and specimens have them. For proofs alone.
use Rattle.std.specs.Prelude.{ℕ, ◌==◌, ◌+◌, cond, List, [], ◌∷◌, ◌++◌, length, codes}

-- each text after its mark, which is the bracket before the one with the number 0
abbrev pub marked : {X : Type 0} → (X → List ℕ) → ℕ → List X → List ℕ
marked f i [] = []
marked f i (x ∷ xs) = cond (i == 0) (codes "(") (codes ",") ++ (f x ++ marked f (i + 1) xs)

-- the texts of the elements in brackets, and nothing where there are none
abbrev pub bracketed : {X : Type 0} → (X → List ℕ) → List X → List ℕ
bracketed f xs = marked f 0 xs ++ cond (length xs == 0) [] (codes ")")
