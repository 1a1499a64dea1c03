-- A byte points at one node.
use Rattle.std.proofs.Common.{◌≡◌, inl, inr, true, false, ℕ, List, ◌∷◌, Option, Some, refl, sym, ap, subst, ◌∙◌, arith}
use Rattle.std.proofs.lemmas.Bool.{cases_lt, false≢true}
use Rattle.psg_grammar.specs.Paths.{Path}
use Rattle.psg_lexis.specs.declared.token.Spanned.{Spanned}
use Rattle.psg_ranges.specs.Forests.{Forest, below_first, from_nth}
use Rattle.psg_pointing.specs.Pointing.{IsLastOn, IsPointed, nowhere, pointed, Leads, ends, goes_on, is_on}

module _ (tokens : List Spanned) (byte : ℕ) where
  both : (f : Forest) → is_on tokens byte f ≡ false → is_on tokens byte f ≡ true → ⊥
  both f off on = false≢true (sym off ∙ on)

  one_last : (f : Forest) (j k : ℕ) → IsLastOn tokens byte f j → IsLastOn tokens byte f k → j ≡ k
  one_last f j k a b =
      elim (cases_lt j k) [
        | inl lt ↦ absurd (both (from_nth f k) (a.last k lt) b.on)
        | inr le ↦
            elim (cases_lt k j) [
              | inl lt ↦ absurd (both (from_nth f j) (b.last j lt) a.on)
              | inr ge ↦ omega (arith, le, ge)
            ]
      ]

  leads_once : (f : Forest) (p q : Path) → Leads tokens byte f p → Leads tokens byte f q → p ≡ q
  leads_once f p q (ends h) (ends h') = refl
  leads_once f p q (ends h) (goes_on k last more) = absurd (both (from_nth (below_first f) k) (h k) last.on)
  leads_once f p q (goes_on k last more) (ends h) = absurd (both (from_nth (below_first f) k) (h k) last.on)
  leads_once f p q (goes_on {path = r} j last more) (goes_on {path = s} k last' more') =
      let same = one_last (below_first f) j k last last' in
      let rest = leads_once (from_nth (below_first f) k) r s
      (subst (λ n. Leads tokens byte (from_nth (below_first f) n) r) same more) more' in
      ap (λ n. n ∷ r) same ∙ ap (λ l. k ∷ l) rest

  pub pointed_once : (f : Forest) (o u : Option Path) → IsPointed tokens byte f o → IsPointed tokens byte f u → o ≡ u
  pointed_once f o u (nowhere off) (nowhere off') = refl
  pointed_once f o u (nowhere off) (pointed q on leads) = absurd (both f off on)
  pointed_once f o u (pointed p on leads) (nowhere off) = absurd (both f off on)
  pointed_once f o u (pointed p on leads) (pointed q on' leads') = ap Some (leads_once f p q leads leads')
