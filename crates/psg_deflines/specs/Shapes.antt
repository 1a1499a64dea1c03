-- What the program's terms and specimens of a line mean.
use Rattle.std.specs.Prelude.{ℕ, ◌+◌, ◌≤◌, max, List, [], ◌∷◌}
use Rattle.std.proofs.Common.{arith}
use denote.Param.Weighed.{most}
use Rattle.psg_deflines.specs.WrittenTerms.{WrittenTerm, variable, named, apply, applied}
use Rattle.psg_deflines.specs.declared.terms.TermShape.{TermShape}
use Rattle.psg_deflines.specs.declared.terms.TermShape.TheVariants.{Variable, Named}

-- the term that the program's term is
abbrev pub term_of : TermShape → WrittenTerm
term_of (Variable n) = variable n
term_of (Named n args) = applied (named n) args

-- how many applications are nested at most
abbrev pub term_height : WrittenTerm → ℕ
term_height (variable n) = 0
term_height (named n) = 0
term_height (apply f a) = max (term_height f) (term_height a + 1)

-- the arguments are nested less than the term
pub most_le-height : (args : List WrittenTerm) (t : WrittenTerm)
    → max (term_height t) (most (λ k. term_height k + 1) args) ≤ term_height (applied t args)
most_le-height [] t = omega arith
most_le-height (a ∷ rest) t = omega (arith, most_le-height rest (apply t a))

pub deep_le-height : (args : List WrittenTerm) (n : List ℕ)
    → most (λ k. term_height k + 1) args ≤ term_height (applied (named n) args)
deep_le-height args n = omega (arith, most_le-height args (named n))
