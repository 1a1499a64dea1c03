-- Terms and specimens of one definition: their forms, and a specimen of operators alone is written in one way.
use Rattle.std.proofs.Common.{◌≡◌, ℕ, ◌+◌, max, inl, inr, List, [], ◌∷◌, ap, ap₂, sym, ◌∙◌, subst}
use Rattle.std.specs.List.{AllByRecursion}
use Rattle.psg_terms.proofs.Lists.{each_at}
use Rattle.psg_terms.specs.Names.{Name}
use Rattle.psg_terms.specs.Terms.{Term}
use Rattle.psg_terms.specs.Terms as terms
use Rattle.psg_terms.specs.Signature.{Signature, Symbol}
use Rattle.psg_grammar.specs.Sound.{IsOwnName as IsTold}
use Rattle.psg_deflines.specs.WrittenTerms.{WrittenTerm, variable, named, apply, HasTermForm, term_depth}
use Rattle.psg_defnumber.specs.Numbers.{IsTerm, AreTerms}
use Rattle.psg_self.specs.Says.{HasPlainNames}
use Rattle.psg_self.proofs.LinesLaid.{IsOwnTerm}

-- ---- terms

module _ (sig : Signature) (names : AllByRecursion (λ (s : Symbol). IsTold s.name) sig.symbols) where
  pub term-form : (vs : List Name) (arguments : List ℕ) (sort : ℕ) (w : WrittenTerm) (t : Term) → IsTerm sig vs arguments sort w t → IsOwnTerm w
      → HasPlainNames w → HasTermForm w
  term-form vs arguments sort (variable n) t h o p = p
  term-form vs arguments sort (named n) t h o p =
      subst IsTold h.3 (each_at (λ (s : Symbol). IsTold s.name) sig.symbols names h.0 h.1 h.2)
  term-form vs arguments sort (apply f a) t h o p =
      (o.2, term-form vs (h.0 ∷ arguments) sort f h.1 h.3 o.0 p.0, term-form vs [] h.0 a h.2 h.4 o.1 p.1)

  pub terms-form : (vs : List Name) (sorts : List ℕ) (ws : List WrittenTerm) (ts : List Term) → AreTerms sig vs sorts ws ts
      → AllByRecursion IsOwnTerm ws → AllByRecursion HasPlainNames ws → AllByRecursion HasTermForm ws
  terms-form vs [] [] ts h o p = tt
  terms-form vs [] (w ∷ ws) ts h o p = absurd h
  terms-form vs (s ∷ sorts) [] ts h o p = absurd h
  terms-form vs (s ∷ sorts) (w ∷ ws) ts h o p = (term-form vs [] s w h.0 h.2 o.0 p.0, terms-form vs sorts ws h.1 h.3 o.1 p.1)

-- how deep a term is nested, where a constant and a variable have depth 1
abbrev pub depth_of : Term → ℕ
depth_of (terms.variable s n) = 1
depth_of (terms.symbol c) = 1
depth_of (terms.apply f a) = max (depth_of f) (depth_of a + 1)

pub depth-is : (sig : Signature) (vs : List Name) (arguments : List ℕ) (sort : ℕ) (w : WrittenTerm) (t : Term) → IsTerm sig vs arguments sort w t
    → term_depth w ≡ depth_of t
depth-is sig vs arguments sort (variable n) t h = elim h.1 [
  | inl c ↦ ap depth_of (sym c.2)
  | inr k ↦ ap depth_of (sym k.3)
]
depth-is sig vs arguments sort (named n) t h = ap depth_of (sym h.6)
depth-is sig vs arguments sort (apply f a) t h =
    ap₂ (λ x y. max x (y + 1)) (depth-is sig vs (h.0 ∷ arguments) sort f h.1 h.3) (depth-is sig vs [] h.0 a h.2 h.4) ∙ ap depth_of (sym h.5)
