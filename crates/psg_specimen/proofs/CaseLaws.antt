-- Laws of the cases of hole rows and of different variables.
use Rattle.std.proofs.Common.{◌≡◌, ◌≢◌, ℕ, ◌+◌, ◌==◌, Bool, true, List, [], ◌∷◌, length, get_or, refl, sym, ap, ap₂, ◌∙◌, arith, eqb-true}
use Rattle.psg_terms.specs.Terms.{Term, symbol, applied}
use Rattle.psg_terms.proofs.Nodes.{same_constructor, same_arguments}
use Rattle.psg_grammar.specs.declared.types.Case.{Case}
use Rattle.psg_specimen.specs.Variables.{IsWhole}

pub whole : (cases : List Case) (term : Term) (x : Case) → length cases ≡ 1 → x ≡ get_or cases 0 x → (x.term ≡ term → IsWhole cases term) × (IsWhole cases term → x.term ≡ term)
whole [] term x len e = absurd (omega (arith, len))
whole (y ∷ []) term x len e = (
  λ t. (y, refl, ap (λ (z : Case). z.term) (sym e) ∙ t),
  λ w. let (one, cases, same) = w in ap (λ (z : Case). z.term) (e ∙ first y one cases) ∙ same,
) where
  first : (a b : Case) → a ∷ [] ≡ b ∷ [] → a ≡ b
  first a b h = cc
whole (y ∷ z ∷ rest) term x len e = absurd (let h : length rest + 2 ≡ 1 = omega (arith, len) in omega (arith, h))

pub not_whole : (cases : List Case) (term : Term) → length cases ≢ 1 → IsWhole cases term → ⊥
not_whole cases term ne w = let (one, same, e) = w in ne (ap length same)

constant_of : (t : Term) (c : ℕ) (args : List Term) (d : ℕ) → t ≡ applied (symbol c) args → c ≡ d → (args ≡ [] → t ≡ symbol d) × (t ≡ symbol d → args ≡ [])
constant_of t c args d e same = (
  λ none. e ∙ ap₂ (λ k a. applied (symbol k) a) same none,
  λ h. same_arguments c d args [] (sym e ∙ h),
)

empty_of : (args : List Term) (b : Bool) → b ≡ (length args == 0) → (b ≡ true → args ≡ []) × (args ≡ [] → b ≡ true)
empty_of [] b e = (λ t. refl, λ t. e)
empty_of (x ∷ xs) b e = (λ t. absurd (let h : length (x ∷ xs) ≡ 0 = eqb-true (length (x ∷ xs)) 0 (sym e ∙ t) in omega (arith, h)), λ t. absurd (cc))

pub constant_made : (t : Term) (c : ℕ) (args : List Term) (d : ℕ) (b : Bool) → t ≡ applied (symbol c) args → c ≡ d → b ≡ (length args == 0) → (b ≡ true → t ≡ symbol d) × (t ≡ symbol d → b ≡ true)
constant_made t c args d b e same size = let k = constant_of t c args d e same in let m = empty_of args b size in (λ h. k.0 (m.0 h), λ h. m.1 (k.1 h))

pub other_made : (t : Term) (c : ℕ) (args : List Term) (d : ℕ) → t ≡ applied (symbol c) args → c ≢ d → t ≡ symbol d → ⊥
other_made t c args d e ne h = ne (same_constructor c d args [] (sym e ∙ h))
