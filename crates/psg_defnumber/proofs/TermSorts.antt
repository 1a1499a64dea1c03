-- A term as it is written has the sort of its place.
use Rattle.std.proofs.Common.{inl, inr, ℕ, ◌<◌, List, [], ◌∷◌, length, refl, sym, subst}
use Rattle.psg_terms.specs.Names.{Name}
use Rattle.psg_terms.specs.Terms.{Term}
use Rattle.psg_terms.specs.Terms as terms
use Rattle.psg_terms.specs.Signature.{Signature, Takes, HaveSorts, AreSorts, AreClosed}
use Rattle.psg_terms.specs.Canonical.{IsWrittenOut, AreWrittenOut}
use Rattle.psg_terms.specs.Sound.{IsSound}
use Rattle.psg_terms.proofs.SoundChoices.{closed_at}
use Rattle.psg_deflines.specs.WrittenTerms.{WrittenTerm, variable, named, apply}
use Rattle.psg_defnumber.specs.Numbers.{IsTerm, AreTerms}

-- what a term takes are sorts of the signature
takes-sorts : (sig : Signature) → AreClosed sig sig.symbols → (t : Term) (arguments : List ℕ) (sort : ℕ)
    → Takes sig t arguments sort → AreSorts sig arguments
takes-sorts sig closed (terms.variable s n) arguments sort h = subst (AreSorts sig) (sym h.1) tt
takes-sorts sig closed (terms.symbol c) arguments sort (s, at, e, _) =
    subst (AreSorts sig) e (closed_at sig sig.symbols c s closed at)
takes-sorts sig closed (terms.apply f a) arguments sort (first, hf, ha) =
    (takes-sorts sig closed f (first ∷ arguments) sort hf).1

module _ (sig : Signature) (sound : IsSound sig) (names : List Name) where
  abbrev TakesWrittenOut : List ℕ → ℕ → Term → Type 0
  TakesWrittenOut arguments sort t = Takes sig t arguments sort × IsWrittenOut sig t

  pub term-takes : (w : WrittenTerm) (arguments : List ℕ) (sort : ℕ) (t : Term) → sort < length sig.sorts
      → IsTerm sig names arguments sort w t → Takes sig t arguments sort × IsWrittenOut sig t
  term-takes (variable n) arguments sort t inside (none, inl (c, only, is)) =
      subst (TakesWrittenOut arguments sort) (sym is) (
        subst (λ sorts. Takes sig (terms.symbol c) sorts sort) (sym none) (sound.constant sort c inside only),
        tt,
      )
  term-takes (variable n) arguments sort t inside (none, inr (k, many, at, is)) =
      subst (TakesWrittenOut arguments sort) (sym is) ((inside, none, refl), many)
  term-takes (named n) arguments sort t inside (c, s, at, name, takes, of, is) =
      subst (TakesWrittenOut arguments sort) (sym is) ((s, at, takes, of), tt)
  term-takes (apply f a) arguments sort t inside (first, g, b, hf, ha, is) =
      let function = term-takes f (first ∷ arguments) sort g inside hf in
      let there : first < length sig.sorts = (takes-sorts sig sound.closed g (first ∷ arguments) sort function.0).0 in
      let argument = term-takes a [] first b there ha in
      subst (TakesWrittenOut arguments sort) (sym is) ((first, function.0, argument.0), (function.1, argument.1))

  -- place by place
  pub terms-take : (sorts : List ℕ) (ws : List WrittenTerm) (row : List Term) → AreSorts sig sorts
      → AreTerms sig names sorts ws row → HaveSorts sig row sorts × AreWrittenOut sig row
  terms-take [] [] row inside e = subst (λ r. HaveSorts sig r [] × AreWrittenOut sig r) (sym e) (tt, tt)
  terms-take [] (w ∷ ws) row inside h = absurd h
  terms-take (s ∷ sorts) [] row inside h = absurd h
  terms-take (s ∷ sorts) (w ∷ ws) row inside (t, rest, h, hs, e) =
      let first = term-takes w [] s t inside.0 h in
      let behind = terms-take sorts ws rest inside.1 hs in
      subst (λ r. HaveSorts sig r (s ∷ sorts) × AreWrittenOut sig r) (sym e) ((first.0, behind.0), (first.1, behind.1))
