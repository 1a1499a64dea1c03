-- A space has the name that is written for it.
use Rattle.std.proofs.Common.{◌≡◌, ℕ, List, [], ◌∷◌, refl, sym, subst, Some, slice_get}
use Rattle.psg_terms.specs.Names.{Name}
use Rattle.psg_grammar.specs.declared.types.Space.{Space}
use Rattle.psg_grammar.specs.declared.types.Definition.{Definition}
use Rattle.psg_defnumber.specs.Numbers.{IsSpaceNamed}
use Rattle.psg_defread.specs.WrittenLines.{name_at, space_name}
use Rattle.psg_defread.proofs.NumberNames.{name-found}

abbrev name_of : Space → Name
name_of s = s.name

first-space : (ss : List Space) (c : ℕ) (cs : Name) → name_at name_of ss 0 ≡ c ∷ cs → (x : Space) × (slice_get ss 0 ≡ Some x) × (x.name ≡ c ∷ cs)
first-space [] c cs e = absurd (let f : [] ≡ c ∷ cs = e in cc)
first-space (x ∷ ss) c cs e = (x, refl, e)

module _ (def : Definition) where
  by_name : (m : Name) → space_name def 0 ≡ m → IsSpaceNamed def m 0
  by_name [] e = refl
  by_name (c ∷ cs) e = first-space def.spaces c cs e

  pub space-again : (n : Name) (s : ℕ) → IsSpaceNamed def n s → IsSpaceNamed def (space_name def s) s
  space-again [] s h = subst (λ k. IsSpaceNamed def (space_name def k) k) (sym h) (by_name (space_name def 0) refl)
  space-again (c ∷ cs) s (x, at, e) = subst (λ m. IsSpaceNamed def m s) (named x at e) (x, at, e)
    where
      named : (x : Space) → slice_get def.spaces s ≡ Some x → x.name ≡ c ∷ cs → c ∷ cs ≡ space_name def s
      named x at e = subst (λ m. m ≡ space_name def s) e (sym (name-found name_of def.spaces s x at))
