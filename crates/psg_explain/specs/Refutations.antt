-- Claims on the steps of a tree, and when they show that it has no completion.
use Rattle.std.specs.Prelude.{ℕ, ◌≡◌, ◌≤◌, ◌+◌, ◌||◌, ◌&&◌, Bool, true, false, bytes_eq, List, [], ◌∷◌, ◌++◌, drop}
use Rattle.std.specs.Prelude.{Option, Some, None}
use Rattle.std.specs.Prelude.{slice_get, option_and_then}
use Rattle.psg_terms.specs.Names.{is_among}
use Rattle.psg_terms.specs.Terms.{Term}
use Rattle.psg_terms.specs.Signature.{HaveSorts}
use Rattle.psg_terms.specs.Canonical.{IsCanonical}
use Rattle.psg_terms.specs.Relations.{IsIn}
use Rattle.psg_grammar.specs.declared.types.Kind.{Kind}
use Rattle.psg_grammar.specs.declared.types.Kind.TheVariants as kinds
use Rattle.psg_grammar.specs.declared.types.ListKind.{ListKind}
use Rattle.psg_grammar.specs.declared.types.Operator.{Operator}
use Rattle.psg_grammar.specs.declared.types.Definition.{Definition}
use Rattle.psg_grammar.specs.Fragments.{Fragment, hole, ending, cell}
use Rattle.psg_grammar.specs.Fragments.{anything, observed, top_operator}
use Rattle.psg_grammar.specs.Keys.{Key, space_of}
use Rattle.psg_grammar.specs.Kinds.{IsOfKind}
use Rattle.psg_grammar.specs.Lookups.{operator_at}
use Rattle.psg_grammar.specs.Paths.{node_at}
use Rattle.psg_grammar.specs.Regions.{declared_inside, names_of}
use Rattle.psg_grammar.specs.Sound.{HasKindSort, HasSpaceSort}
use Rattle.psg_grammar.specs.Steps.{children_count}
use Rattle.psg_eval.specs.Partials.{AreKindSorts}
use Rattle.psg_eval.specs.Summaries.{slot_kinds}
use Rattle.psg_explain.specs.declared.refutation.Claim.{Claim}
use Rattle.psg_explain.specs.declared.refutation.Refutation.{Refutation}
use Rattle.psg_explain.specs.declared.refutation.Refutation.TheVariants as refutations
use Rattle.psg_explain.specs.declared.refutation.Verdict.{Verdict}
use Rattle.psg_explain.specs.declared.given.Case.{Case}
use Rattle.psg_explain.specs.Given.{keys_at}
use Rattle.psg_explain.specs.Verdicts.{IsRight}
use Rattle.psg_explain.specs.Walks.{At, ended, Walks}
pub use Rattle.psg_explain.specs.Plans.{rows_claimed}

-- whether the key is at two places of the list
abbrev pub is_twice_among : List Key → Key → Bool
is_twice_among [] k = false
is_twice_among (n ∷ ns) k = (bytes_eq n k && is_among ns k) || is_twice_among ns k

-- the kinds of the slots of an operator that is there
abbrev pub kinds_of_slots : Definition → Option Operator → List Kind
kinds_of_slots def None = []
kinds_of_slots def (Some op) = slot_kinds def op.items

-- the kinds of the two children of a cell
abbrev pub kinds_of_cell : ℕ → Option ListKind → List Kind
kinds_of_cell l None = []
kinds_of_cell l (Some kind) = kinds.Phylum kind.element ∷ kinds.List l ∷ []

module _ (def : Definition) where
  -- the kinds of the children that a node takes
  abbrev pub kinds_below : Fragment → List Kind
  kinds_below (hole p) = []
  kinds_below (ending l u) = []
  kinds_below (cell l e r) = kinds_of_cell l (slice_get def.lists l)
  kinds_below anything = []
  kinds_below (observed f) = []
  kinds_below f = kinds_of_slots def (option_and_then (operator_at def) (top_operator f))

  -- the sort of each key is that of its space
  abbrev pub AreSortsOfKeys : List Key → List ℕ → Type 0
  AreSortsOfKeys [] sorts = sorts ≡ []
  AreSortsOfKeys (k ∷ ks) sorts =
      (s : ℕ) × (rest : List ℕ) × (sorts ≡ s ∷ rest) × HasSpaceSort def (space_of k) s × AreSortsOfKeys ks rest

  -- the columns are the value, the values wanted of the children of these kinds, and the entities of these keys
  pub record AreColumnSorts (f : Fragment) (wanted : List Kind) (names : List Key) (sorts : List ℕ) : Type 0 where
    pub kind : Kind
    pub of_kind : IsOfKind def f kind
    pub value : ℕ
    pub kind_sort : HasKindSort def kind value
    pub others : List ℕ
    pub are_others : AreKindSorts def wanted others
    pub entities : List ℕ
    pub are_entities : AreSortsOfKeys names entities
    pub all : sorts ≡ (value ∷ others) ++ entities

  -- the sorts of the columns of the step: up to the last child, or after the names that end there are dropped
  pub data HasStepSorts (f : Fragment) (step : ℕ) (sorts : List ℕ) : Type 0 where
    adding : step ≤ children_count f → AreColumnSorts f (drop step (kinds_below f)) (keys_at def f step) sorts
        → HasStepSorts f step sorts
    closing : step ≡ children_count f + 1 → AreColumnSorts f [] (names_of def f) sorts → HasStepSorts f step sorts

  -- canonical rows with the columns of the step
  pub record AreClaimed (f : Fragment) (step : ℕ) (rows : List (List Term)) : Type 0 where
    pub sorts : List ℕ
    pub are_sorts : HasStepSorts f step sorts
    pub canonical : (row : List Term) → IsIn row rows → IsCanonical def.signature row
    pub sorted : (row : List Term) → IsIn row rows → HaveSorts def.signature row sorts

-- a right verdict on each case, in order
abbrev pub AreRight : List (List Term) → List Case → List Verdict → Type 0
AreRight rows [] [] = Unit {0}
AreRight rows [] (v ∷ verdicts) = ⊥
AreRight rows (c ∷ cases) [] = ⊥
AreRight rows (c ∷ cases) (v ∷ verdicts) = IsRight rows c.given c.columns v × AreRight rows cases verdicts

-- the claim is one of the step, and its verdicts are right
pub record IsClaim (def : Definition) (at : At) (claim : Claim) : Type 0 where
  pub path : claim.path ≡ at.path
  pub cell : claim.cell ≡ at.cell
  pub step : claim.step ≡ at.step
  pub rows : AreClaimed def at.part at.step claim.rows
  pub verdicts : AreRight claim.rows at.cases claim.verdicts

-- the claims are those of the steps of the tree at the path, up to a step without rows
abbrev pub ClaimTo : Definition → List ℕ → Fragment → List Claim → At → Type 0
ClaimTo def path f claims last = Walks def rows_claimed (IsClaim def) path f claims (ended last)

-- The node at the path declares a key twice in its region, or inside where it is a scope operator; or claims on its
-- steps end at one that has no rows.
abbrev pub Refutes : Definition → Fragment → Refutation → Type 0
Refutes def f (refutations.Twice path space name) =
    (node : Fragment) × (node_at f path ≡ Some node)
    × (is_twice_among (declared_inside def node) (space ∷ name) ≡ true)
Refutes def f (refutations.Empty path claims) =
    (node : Fragment) × (node_at f path ≡ Some node) × (last : At) × ClaimTo def path node claims last
