-- Rows with the numbers of their variables raised.
use Rattle.std.proofs.Common.{◌≡◌, ℕ, ◌+◌, ◌<◌, List, [], ◌∷◌, ◌++◌, map, take, get_or, length, refl, ap, ap₂, sym, ◌∙◌, arith}
use Rattle.std.proofs.lemmas.List.{map-append}
use Rattle.psg_terms.proofs.Lists.{take_item}
use Rattle.psg_terms.specs.Terms.{Term, variable, symbol, apply, applied}
use Rattle.psg_terms.specs.Instances.{substitute}
use Rattle.psg_terms.specs.Renaming.{raised}
use Rattle.psg_terms.proofs.Applied.{applied-substitute}

pub raised-none : (base : ℕ) (t : Term) → base ≡ 0 → substitute (raised base) t ≡ t
raised-none base (variable s n) e = ap (variable s) (let k : base + n ≡ n = omega (arith, e) in k)
raised-none base (symbol c) e = refl
raised-none base (apply f a) e = ap₂ apply (raised-none base f e) (raised-none base a e)

-- the steps of a row
pub raised_open : (base s n number : ℕ) (t u : Term) → t ≡ variable s n → u ≡ variable s number → number ≡ base + n → u ≡ substitute (raised base) t
raised_open base s n number t u e d k = d ∙ ap (variable s) k ∙ sym (ap (substitute (raised base)) e)

pub raised_con : (base c : ℕ) (args parts : List Term) (t u : Term) → t ≡ applied (symbol c) args → u ≡ applied (symbol c) parts → parts ≡ map (substitute (raised base)) args → u ≡ substitute (raised base) t
raised_con base c args parts t u e d h = d ∙ ap (applied (symbol c)) h ∙ sym (applied-substitute (raised base) (symbol c) args) ∙ sym (ap (substitute (raised base)) e)

pub raised_step : (base : ℕ) (row now after : List Term) (i : ℕ) (t u : Term) → now ≡ map (substitute (raised base)) (take i row) → u ≡ substitute (raised base) t → after ≡ now ++ u ∷ [] → i < length row → t ≡ get_or row i t → after ≡ map (substitute (raised base)) (take (i + 1) row)
raised_step base row now after i t u h k e lt at =
    e ∙ ap₂ (λ xs y. xs ++ y ∷ []) h k ∙ sym (ap (map (substitute (raised base))) (take_item row i t lt at) ∙ map-append (substitute (raised base)) (take i row) (t ∷ []))
