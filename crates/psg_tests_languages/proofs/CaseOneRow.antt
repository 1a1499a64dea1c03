-- For the worked cases: a relation of one row.
use Rattle.std.proofs.Common.{◌≡◌, ℕ, List, [], ◌∷◌, refl}
use Rattle.psg_terms.specs.Terms.{Term}
use Rattle.psg_terms.specs.Signature.{Signature, HaveSorts}
use Rattle.psg_terms.specs.Instances.{IsInstance, IsGroundInstance}
use Rattle.psg_terms.specs.Canonical.{IsCanonical}
use Rattle.psg_terms.specs.Relations.{IsIn, first, later, IsShape, IsRelation}

-- the instances of the row are possible for one choice, and whatever is possible is an instance
pub one_row : (sig : Signature) (sorts : List ℕ) (C : Type 0) (Possible : C → List Term → Type 0) (row : List Term) → IsCanonical sig row → HaveSorts sig row sorts
    → (c : C) → ((columns : List Term) × Possible c columns) → ((columns : List Term) → IsGroundInstance sig row columns → Possible c columns)
    → ((k : C) (columns : List Term) → Possible k columns → IsGroundInstance sig row columns) → IsRelation sig sorts Possible (row ∷ [])
one_row sig sorts C Possible row canonical sorted c some each only = record { shapes = shapes; covers = covers; apart = apart; once = ((λ h. elim h [ ]), tt); order = tt } where
  shapes : (r : List Term) → IsIn r (row ∷ []) → IsShape sig sorts Possible r
  shapes r first = record { canonical = canonical; sorted = sorted; choice = c; some = some; exact = λ columns. (each columns, only c columns) }
  shapes r (later h) = elim h [ ]

  covers : (k : C) (columns : List Term) → Possible k columns → (r : List Term) × IsIn r (row ∷ []) × ((other : List Term) → Possible k other → IsGroundInstance sig r other)
  covers k columns p = (row, first, only k)

  apart : (r other : List Term) → IsIn r (row ∷ []) → IsIn other (row ∷ []) → IsInstance r other → r ≡ other
  apart r other first first i = refl
  apart r other first (later h) i = elim h [ ]
  apart r other (later h) k i = elim h [ ]
