-- Signatures in which every sort has a ground term and is one constant or has a choice.
use Rattle.std.specs.Prelude.{ℕ, ◌≡◌, ◌<◌, false, length, map, Some}
use Rattle.psg_terms.specs.Names.{has_twice}
use Rattle.psg_terms.specs.Terms.{Term, symbol}
use Rattle.psg_terms.specs.Signature.{Signature, Symbol, HasSort, AreClosed, only_constructor}
use Rattle.psg_terms.specs.Instances.{IsGround}

pub record IsSound (sig : Signature) : Type 0 where
  -- no two sorts and no two constructors have one name
  pub sort_names : has_twice sig.sorts ≡ false
  pub constructor_names : has_twice (map (λ (s : Symbol). s.name) sig.symbols) ≡ false
  -- constructors name sorts that are there
  pub closed : AreClosed sig sig.symbols
  -- every sort has a ground term
  pub inhabited : (s : ℕ) → s < length sig.sorts → (t : Term) × IsGround t × HasSort sig t s
  -- a sort's only constructor is a constant; so each other sort has two constructors or more
  pub constant : (s c : ℕ) → s < length sig.sorts → only_constructor sig s ≡ Some c → HasSort sig (symbol c) s
