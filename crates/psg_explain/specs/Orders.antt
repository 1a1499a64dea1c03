-- The steps of a walk are those of the tree, in their order.
use Rattle.std.specs.Prelude.{ℕ, ◌≡◌, List, ◌∷◌, [], ◌++◌, map}
use Rattle.psg_terms.specs.Terms.{Term}
use Rattle.psg_grammar.specs.declared.types.Definition.{Definition}
use Rattle.psg_grammar.specs.Fragments.{Fragment}
use Rattle.psg_grammar.specs.Paths.{Path}
use Rattle.psg_grammar.specs.Steps.{Place, steps_of}
use Rattle.psg_explain.specs.declared.refutation.Claim.{Claim}
use Rattle.psg_explain.specs.Walks.{At, Walk, went, ended, Walks}

-- a step with any rows
pub record Visit : Type 0 where
  pub place : Place
  pub rows : List (List Term)

abbrev pub rows_seen : Visit → List (List Term)
rows_seen v = v.rows

abbrev pub place_seen : Visit → Place
place_seen v = v.place

abbrev pub place_of : At → Place
place_of at = record { path = at.path; part = at.part; step = at.step }

abbrev pub IsVisit : At → Visit → Type 0
IsVisit at v = v.place ≡ place_of at

-- A walk to the end visits all steps of the tree, and one that ends before visits the first ones, the last of which is
-- the step without rows.
abbrev pub AreInOrder : Definition → Path → Fragment → List Visit → Walk Visit → Type 0
AreInOrder def path f visits (went rows left) =
    (front : List Visit) × (visits ≡ front ++ left) × (map place_seen front ≡ steps_of def path f)
AreInOrder def path f visits (ended last) =
    (front : List Visit) × (rest : List Place)
    × (map place_seen visits ≡ map place_seen front ++ place_of last ∷ [])
    × (steps_of def path f ≡ map place_seen visits ++ rest)

-- whatever rows the steps have
abbrev pub WalksInOrder : Definition → Type 0
WalksInOrder def =
    (path : Path) (f : Fragment) (visits : List Visit) (w : Walk Visit)
    → Walks def rows_seen IsVisit path f visits w → AreInOrder def path f visits w

-- a claim's path and step
abbrev pub told_at : Claim → Path × ℕ
told_at c = (c.path, c.step)

abbrev pub told_of : Place → Path × ℕ
told_of p = (p.path, p.step)

-- The claims are those of the first steps of the tree, in the order of the steps, up to the last claimed one.
pub record AreFirstSteps (def : Definition) (path : Path) (f : Fragment) (claims : List Claim)
    (last : At) : Type 0 where
  pub front : List Place
  pub rest : List Place
  pub steps : steps_of def path f ≡ front ++ place_of last ∷ rest
  pub told : map told_at claims ≡ map told_of (front ++ place_of last ∷ [])
