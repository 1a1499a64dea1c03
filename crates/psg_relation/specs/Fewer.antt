-- Relations of some columns of a relation, each of which is kept once.
use Rattle.std.specs.Prelude.{ℕ, ◌≡◌, List, slice_get, Some}
use Rattle.psg_terms.specs.Relations.{IsRelation}
use Rattle.psg_terms.specs.Signature.{Signature}
use Rattle.psg_terms.specs.Terms.{Term}
use Rattle.psg_terms.specs.Weight.{PassesLimit}
use Rattle.psg_relation.specs.Choices.{AllHaveSorts, AllWithin, IsProjected, picked}

-- no column is kept twice
abbrev pub KeptOnce : List ℕ → Type 0
KeptOnce keep = (i j : ℕ) (k : ℕ) → slice_get keep i ≡ Some k → slice_get keep j ≡ Some k → i ≡ j

-- Where rows are within the limit, so is the relation of columns each of which is kept once.
abbrev pub FewerColumns : Signature → Type 0
FewerColumns sig = (sorts : List ℕ) (rows : List (List Term)) (keep : List ℕ)
    → AllHaveSorts sig rows sorts → AllWithin rows keep → KeptOnce keep
    → (PassesLimit rows → ⊥)
    → (made : List (List Term)) → IsRelation sig (picked sorts keep) (IsProjected sig rows keep) made
    → PassesLimit made → ⊥
