-- Laws of terms of lines: their nesting, and tests of an applied term by its arguments.
use Rattle.std.proofs.Common.{◌≡◌, ℕ, ◌+◌, ◌*◌, ◌<◌, ◌≤◌, zero, suc, List, [], ◌∷◌, get_or, length, ap, arith}
use denote.Param.Weighed.{most}
use Rattle.psg_terms.specs.Names.{Name}
use Rattle.psg_deflines.specs.WrittenTerms.{WrittenTerm, named, applied}
use Rattle.psg_deflines.specs.Shapes.{term_height, deep_le-height}

-- how far terms are nested, as a count that falls with each call
abbrev pub term_measure : WrittenTerm → ℕ
term_measure t = 2 * term_height t + 1

abbrev pub terms_measure : List WrittenTerm → ℕ
terms_measure ts = 2 * most (λ t. term_height t + 1) ts

pub arguments_below : (t : WrittenTerm) (n : Name) (args taken : List WrittenTerm) → applied (named n) args ≡ t → taken ≡ args → terms_measure taken < term_measure t
arguments_below t n args taken e same = let le = deep_le-height args n in let h = ap term_height e in let m = ap terms_measure same in omega arith

pub most-at : (ts : List WrittenTerm) (i : ℕ) (t : WrittenTerm) → i < length ts → t ≡ get_or ts i t → term_height t + 1 ≤ most (λ k. term_height k + 1) ts
most-at [] i t lt at = absurd (omega arith)
most-at (x ∷ ts) zero t lt at = let e = ap term_height at in omega arith
most-at (x ∷ ts) (suc i) t lt at = omega (arith, most-at ts i t (omega arith) at)

pub term_below : (ts : List WrittenTerm) (i : ℕ) (t : WrittenTerm) → i < length ts → t ≡ get_or ts i t → term_measure t < terms_measure ts
term_below ts i t lt at = omega (arith, most-at ts i t lt at)
