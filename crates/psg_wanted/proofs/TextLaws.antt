-- What is a variable, and the sorts of the first values.
use Rattle.std.proofs.Common.{◌≡◌, ℕ, zero, suc, false, List, [], ◌∷◌, take, refl, ap, sym, subst, ◌∙◌}
use Rattle.psg_terms.specs.Relations.{IsIn, first, later}
use Rattle.psg_terms.specs.Signature.{HasSort, Signature}
use Rattle.psg_terms.specs.Terms.{Term, apply, applied, symbol}
use Rattle.psg_wanted.specs.Texts.{AreSorted, is_variable}

applied_not : (t : Term) (args : List Term) → is_variable t ≡ false → is_variable (applied t args) ≡ false
applied_not t [] e = e
applied_not t (a ∷ args) e = applied_not (apply t a) args refl

pub con_not : (n : ℕ) (args : List Term) (t : Term) → applied (symbol n) args ≡ t → false ≡ is_variable t
con_not n args t e = sym (applied_not (symbol n) args refl) ∙ ap is_variable e

pub first_sorted : (sig : Signature) (terms rest : List Term) (t : Term) → AreSorted sig terms → terms ≡ t ∷ rest → (s : ℕ) × HasSort sig t s
first_sorted sig terms rest t all e = all t (subst (IsIn t) (sym e) first)

pub rest_sorted : (sig : Signature) (terms rest : List Term) (t : Term) → AreSorted sig terms → terms ≡ t ∷ rest → AreSorted sig rest
rest_sorted sig terms rest t all e = λ u i. all u (subst (IsIn u) (sym e) (later i))

taken : (n : ℕ) (xs : List Term) (t : Term) → IsIn t (take n xs) → IsIn t xs
taken zero xs t i = elim i [ ]
taken (suc n) [] t i = elim i [ ]
taken (suc n) (x ∷ xs) t first = first
taken (suc n) (x ∷ xs) t (later i) = later (taken n xs t i)

pub front_sorted : (sig : Signature) (n : ℕ) (terms : List Term) → AreSorted sig terms → AreSorted sig (take n terms)
front_sorted sig n terms all = λ t i. all t (taken n terms t i)
