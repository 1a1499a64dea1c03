-- The steps of a tree in their order, one after the other, and what the rows of each are made of.
use Rattle.std.specs.Prelude.{ℕ, ◌≡◌, ◌+◌, ◌-◌, ◌*◌, Bool, true, false, List, [], ◌∷◌, ◌++◌, length, Option, Some, None}
use Rattle.std.specs.Prelude.{get_or}
use Rattle.std.specs.List.{AllByRecursion}
use Rattle.psg_terms.specs.Terms.{Term}
use Rattle.psg_terms.specs.Signature.{Signature}
use Rattle.psg_terms.specs.Canonical.{IsCanonical}
use Rattle.psg_grammar.specs.declared.types.Definition.{Definition}
use Rattle.psg_grammar.specs.Fragments.{Fragment, hole, ending, cell, operator, with_child, with_name, with_number}
use Rattle.psg_grammar.specs.Fragments.{with_text, anything, observed, children_of}
use Rattle.psg_grammar.specs.Lookups.{is_scope}
use Rattle.psg_grammar.specs.Paths.{Path}
use Rattle.psg_explain.specs.declared.given.Case.{Case}
use Rattle.psg_explain.specs.declared.refutation.Claim.{Claim}
use Rattle.psg_explain.specs.Given.{first_cases, next_cases, last_cases}
use Rattle.psg_explain.specs.Walks.{At, Walk, went, ended, Takes}

-- Rows are those of the node itself, or of the step before and of the last step of a child, or of the step before. The
-- Steps are named by their places among all steps, and the child that is added by its number.
pub data Origin : Type 0 where
  from_itself : Origin
  from_pair : (number before child : ℕ) (tree : Fragment) → Origin
  from_before : (before : ℕ) → Origin

-- a step, whatever rows there are before it
pub record Step : Type 0 where
  pub path : Path
  pub cell : Option ℕ
  pub part : Fragment
  pub number : ℕ
  pub origin : Origin

-- a child, and the place of its last step
pub record Done : Type 0 where
  pub tree : Fragment
  pub place : ℕ

-- the steps of children, and for each child the place of its last step
pub record Below : Type 0 where
  pub steps : List Step
  pub children : List Done

-- the variables of each row are numbered from 1 on
abbrev pub AreCanonical : List (List Term) → Type 0
AreCanonical rows = AllByRecursion (λ (row : List Term). (sig : Signature) × IsCanonical sig row) rows

abbrev pub rows_claimed : Claim → List (List Term)
rows_claimed c = c.rows

-- the rows of the step at the place
abbrev pub rows_at : List (List (List Term)) → ℕ → List (List Term)
rows_at rows n = get_or rows n []

module _ (def : Definition) where
  -- the cases of a step whose rows are made of these
  abbrev pub cases_from : Fragment → Origin → List (List Term) → List (List Term) → List Case
  cases_from f from_itself lefts rights = first_cases def f
  cases_from f (from_pair n b c t) lefts rights = next_cases def f n t lefts rights
  cases_from f (from_before b) lefts rights = last_cases def f lefts

  -- the rows of the step before
  abbrev pub lefts_of : Origin → List (List (List Term)) → List (List Term)
  lefts_of from_itself rows = []
  lefts_of (from_pair n b c t) rows = rows_at rows b
  lefts_of (from_before b) rows = rows_at rows b

  -- the rows of the child
  abbrev pub rights_of : Origin → List (List (List Term)) → List (List Term)
  rights_of (from_pair n b c t) rows = rows_at rows c
  rights_of _ rows = []

  abbrev pub pairs_of : Origin → List (List (List Term)) → ℕ
  pairs_of (from_pair n b c t) rows = length (rows_at rows b) * length (rows_at rows c)
  pairs_of _ rows = 0

  -- the cases of the step, where the steps before it have these rows
  abbrev pub cases_at : List (List (List Term)) → Step → List Case
  cases_at rows s = cases_from s.part s.origin (lefts_of s.origin rows) (rights_of s.origin rows)

  -- the step, where the steps before it have these rows
  abbrev pub at_of : List (List (List Term)) → Step → At
  at_of rows s = record {
    path = s.path;
    cell = s.cell;
    part = s.part;
    step = s.number;
    cases = cases_at rows s;
    pairs = pairs_of s.origin rows;
  }

  -- ---- the steps in their order, where that many steps are before them

  -- the last step of a scope operator
  abbrev pub closing : Bool → Path → Option ℕ → Fragment → ℕ → ℕ → List Step
  closing true path c f n before =
      record { path = path; cell = c; part = f; number = n + 1; origin = from_before before } ∷ []
  closing false path c f n before = []

  -- the steps of a node after the step n, which is at the place
  abbrev pub adding : Path → Option ℕ → Fragment → ℕ → ℕ → List Done → List Step
  adding path c f n before [] = closing (is_scope def f) path c f n before
  adding path c f n before (d ∷ children) =
      record { path = path; cell = c; part = f; number = n + 1; origin = from_pair n before d.place d.tree }
      ∷ adding path c f (n + 1) (before + 1) children

  -- the steps of a node
  abbrev pub making : ℕ → Path → Option ℕ → Fragment → List Done → List Step
  making base path c f children =
      record { path = path; cell = c; part = f; number = 0; origin = from_itself } ∷ adding path c f 0 base children

  -- the end of a list and its cells from the last to the first, the first of which has the number n
  abbrev pub listing : ℕ → Path → ℕ → Fragment → List Done → List Step
  listing base path n (cell l e r) [] = []
  listing base path n (cell l e r) (d ∷ children) =
      let front : List Step = listing base path (n + 1) r children in
      front ++ making (base + length front) path (Some n) (cell l e r)
      (d ∷ record { tree = r; place = base + length front - 1 } ∷ [])
  listing base path n f children = making base path (Some n) f []

  -- the steps of a tree, after those of its children
  abbrev pub finished : ℕ → Below → (ℕ → List Done → List Step) → List Step
  finished base b steps = b.steps ++ steps (base + length b.steps) b.children

  -- one child more at the end
  abbrev pub with_last : ℕ → Below → Fragment → (ℕ → List Step) → Below
  with_last base b t steps =
      let more : List Step = steps (base + length b.steps) in
      record {
        steps = b.steps ++ more;
        children = b.children ++ record { tree = t; place = base + length b.steps + length more - 1 } ∷ [];
      }

  -- one child more in front
  abbrev pub with_first : ℕ → Fragment → List Step → (ℕ → Below) → Below
  with_first base e first below =
      let b : Below = below (base + length first) in
      record {
        steps = first ++ b.steps;
        children = record { tree = e; place = base + length first - 1 } ∷ b.children;
      }

  abbrev mutual
    pub planned : ℕ → Path → Fragment → List Step
    planned base path (hole p) = making base path None (hole p) []
    planned base path (ending l u) = listing base path 0 (ending l u) []
    planned base path (cell l e r) =
        finished base (with_first base e (planned base (path ++ 0 ∷ []) e) (λ n. planned_below n path 1 r))
        (λ n children. listing n path 0 (cell l e r) children)
    planned base path (operator o) = making base path None (operator o) []
    planned base path (with_child f t) =
        finished base (with_last base (planned_below base path 0 f) t
        (λ n. planned n (path ++ length (children_of f) ∷ []) t))
        (λ n children. making n path None (with_child f t) children)
    planned base path (with_name f m) =
        finished base (planned_below base path 0 f) (λ n children. making n path None (with_name f m) children)
    planned base path (with_number f m) =
        finished base (planned_below base path 0 f) (λ n children. making n path None (with_number f m) children)
    planned base path (with_text f m) =
        finished base (planned_below base path 0 f) (λ n children. making n path None (with_text f m) children)
    planned base path anything = []
    planned base path (observed f) = []

    pub planned_below : ℕ → Path → ℕ → Fragment → Below
    planned_below base path n (hole p) = record { steps = []; children = [] }
    planned_below base path n (ending l u) = record { steps = []; children = [] }
    planned_below base path n (cell l e r) =
        with_first base e (planned base (path ++ n ∷ []) e) (λ k. planned_below k path (n + 1) r)
    planned_below base path n (operator o) = record { steps = []; children = [] }
    planned_below base path n (with_child f t) =
        with_last base (planned_below base path n f) t (λ k. planned k (path ++ length (children_of f) ∷ []) t)
    planned_below base path n (with_name f m) = planned_below base path n f
    planned_below base path n (with_number f m) = planned_below base path n f
    planned_below base path n (with_text f m) = planned_below base path n f
    planned_below base path n anything = record { steps = []; children = [] }
    planned_below base path n (observed f) = record { steps = []; children = [] }

-- the result of steps: the rows of all of them and what is left, or a step without rows
pub data Flow (X : Type 0) : Type 0 where
  through : (rows : List (List (List Term))) (left : List X) → Flow X
  halted : (last : At) → Flow X

-- An item for each of the steps, one after the other, where the steps before have these rows.
module _ (def : Definition) {X : Type 0} (rows_in : X → List (List Term)) (IsOf : At → X → Type 0) where
  abbrev pub Onward : List (List (List Term)) → Walk X → (List (List (List Term)) → List X → Flow X → Type 0) → Flow X
      → Type 0
  Onward rows (went more left) Goes r = Goes (rows ++ more ∷ []) left r
  Onward rows (ended last) Goes r = r ≡ halted last

  abbrev pub Flows : List (List (List Term)) → List Step → List X → Flow X → Type 0
  Flows rows [] xs r = r ≡ through rows xs
  Flows rows (s ∷ steps) xs r =
      (v : Walk X) × Takes def rows_in IsOf (at_of def rows s) xs v
      × Onward rows v (λ now left u. Flows now steps left u) r
