-- What a relation keeps, and the rows that it can be made of.
use Rattle.std.specs.Prelude.{ℕ, ◌≡◌, ◌≤◌, List}
use Rattle.psg_terms.specs.Terms.{Term}
use Rattle.psg_terms.specs.Signature.{Signature, HaveSorts}
use Rattle.psg_terms.specs.Sound.{IsSound}
use Rattle.psg_terms.specs.Instances.{IsInstance, HasSameInstances}
use Rattle.psg_terms.specs.Canonical.{IsCanonical, AreWrittenOut}
use Rattle.psg_terms.specs.Relations.{IsIn, IsOnce}
use Rattle.psg_terms.specs.Text.{IsInTextOrder}
use Rattle.psg_terms.specs.Weight.{weight_of}
use Rattle.psg_relation.specs.Heavy.{deepest_of, IsHeavy}

-- canonical rows of one width and equal sorts, each once, none an instance of another one, in byte order of their texts
pub record AreSealed (rows : List (List Term)) : Type 0 where
  pub sig : Signature
  pub sound : IsSound sig
  pub sorts : List ℕ
  pub sorted : (row : List Term) → IsIn row rows → HaveSorts sig row sorts
  pub canonical : (row : List Term) → IsIn row rows → IsCanonical sig row
  pub apart : (row other : List Term) → IsIn row rows → IsIn other rows → IsInstance row other → row ≡ other
  pub once : IsOnce rows
  pub order : IsInTextOrder sig rows

-- such rows, with their weight and depth, which are within the limit
pub record IsSealed (rows : List (List Term)) (weight deepest : ℕ) : Type 0 where
  pub rows_sealed : AreSealed rows
  pub weight_is : weight ≡ weight_of rows
  pub deepest_is : deepest ≡ deepest_of rows
  pub light : weight ≤ 16384
  pub shallow : deepest ≤ 1000

-- one-constant sorts are written out, and a row that is not too large is canonical
pub record IsReady (sig : Signature) (row : List Term) : Type 0 where
  pub written : AreWrittenOut sig row
  pub canonical : (IsHeavy row → ⊥) → IsCanonical sig row

-- each of the rows is ready
abbrev pub AllReady : Signature → List (List Term) → Type 0
AllReady sig rows = (row : List Term) → IsIn row rows → IsReady sig row

-- the canonical forms of rows
pub record AreCanonicalOf (sig : Signature) (rows made : List (List Term)) : Type 0 where
  pub from : (row : List Term) → IsIn row made
      → (source : List Term) × IsIn source rows × HasSameInstances sig row source
  pub to : (source : List Term) → IsIn source rows → (row : List Term) × IsIn row made × HasSameInstances sig row source
  pub canonical : (row : List Term) → IsIn row made → IsCanonical sig row
  pub sorted : (sorts : List ℕ) → ((source : List Term) → IsIn source rows → HaveSorts sig source sorts)
      → (row : List Term) → IsIn row made → HaveSorts sig row sorts
