-- What is found where things are tested in order.
use Rattle.std.specs.Prelude.{ℕ, Option, MatchOption}
use Rattle.psg_grammar.specs.declared.types.Kind.{Kind}
use Rattle.psg_specimen.specs.declared.fault.Site.{Site}
use Rattle.psg_specimen.specs.Refusal.{IsFirst, IsFirstKind, IsFirstOfThree, IsFirstOfTwo, IsFirstPlace, IsFirstSite}

-- the first number for which something fails, or none
abbrev pub Finds : (ℕ → Type 0) → Option ℕ → Type 0
Finds Holds o = MatchOption o ((n : ℕ) → Holds n) (λ n. IsFirst Holds n)

-- the first two numbers for which something fails, or none
abbrev pub FindsTwo : (ℕ → ℕ → Type 0) → Option (ℕ × ℕ) → Type 0
FindsTwo Holds o = MatchOption o ((n k : ℕ) → Holds n k) (λ x. IsFirstOfTwo Holds x.0 x.1)

-- the first three numbers for which something fails, or none
abbrev pub FindsThree : (ℕ → ℕ → ℕ → Type 0) → Option (ℕ × (ℕ × ℕ)) → Type 0
FindsThree Holds o = MatchOption o ((l s c : ℕ) → Holds l s c) (λ x. IsFirstOfThree Holds x.0 x.1.0 x.1.1)

-- the first kind for which something fails, or none
abbrev pub FindsKind : (Kind → Type 0) → Option Kind → Type 0
FindsKind Holds o = MatchOption o ((k : Kind) → Holds k) (λ k. IsFirstKind Holds k)

-- the first site for which something fails, or none
abbrev pub FindsSite : (Site → Type 0) → Option Site → Type 0
FindsSite Holds o = MatchOption o ((s : Site) → Holds s) (λ s. IsFirstSite Holds s)

-- the first hole place for which something fails, or none
abbrev pub FindsPlace : (Site → ℕ → Type 0) → Option (Site × ℕ) → Type 0
FindsPlace Holds o = MatchOption o ((s : Site) (h : ℕ) → Holds s h) (λ x. IsFirstPlace Holds x.0 x.1)
