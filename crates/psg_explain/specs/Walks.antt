-- A walk through the steps of a tree in their order, up to the first one without rows.
use Rattle.std.specs.Prelude.{ℕ, ◌≡◌, ◌+◌, ◌*◌, Bool, true, false, List, [], ◌∷◌, ◌++◌, length, Option, Some, None}
use Rattle.psg_terms.specs.Terms.{Term}
use Rattle.psg_grammar.specs.declared.types.Definition.{Definition}
use Rattle.psg_grammar.specs.Fragments.{Fragment, hole, ending, cell, operator, with_child, with_name, with_number}
use Rattle.psg_grammar.specs.Fragments.{with_text, anything, observed, children_of}
use Rattle.psg_grammar.specs.Lookups.{is_scope}
use Rattle.psg_grammar.specs.Paths.{Path}
use Rattle.psg_explain.specs.declared.given.Case.{Case}
use Rattle.psg_explain.specs.Given.{first_cases, next_cases, last_cases}

-- A step: of the node at the path, or of a cell of the list there; the end has as many as the list has elements. A cell
-- is the part of the list from its element on. A step that adds a child is made of that many pairs of rows.
pub record At : Type 0 where
  pub path : Path
  pub cell : Option ℕ
  pub part : Fragment
  pub step : ℕ
  pub cases : List Case
  pub pairs : ℕ

-- a child with the rows of its last step
pub record Child : Type 0 where
  pub tree : Fragment
  pub rows : List (List Term)

-- The result of a walk: the rows of the last step, and what is left; or a step without rows, which is the last.
pub data Walk (X : Type 0) : Type 0 where
  went : (rows : List (List Term)) (left : List X) → Walk X
  ended : (last : At) → Walk X

-- the same for all children of a node
pub data WalkBelow (X : Type 0) : Type 0 where
  went_all : (children : List Child) (left : List X) → WalkBelow X
  ended_below : (last : At) → WalkBelow X

-- An item for each step: its rows, and what is said of it.
module _ (def : Definition) {X : Type 0} (rows_in : X → List (List Term)) (IsOf : At → X → Type 0) where
  -- the rows are those of the step; where there are none, nothing is left
  abbrev pub ComesTo : At → List (List Term) → List X → Walk X → Type 0
  ComesTo at [] left w = (left ≡ []) × (w ≡ ended at)
  ComesTo at (row ∷ rows) left w = w ≡ went (row ∷ rows) left

  -- the next item is that of the step
  abbrev pub Takes : At → List X → Walk X → Type 0
  Takes at [] w = ⊥
  Takes at (x ∷ left) w = IsOf at x × ComesTo at (rows_in x) left w

  -- from there on, unless the walk has ended
  abbrev pub After : Walk X → (List (List Term) → List X → Walk X → Type 0) → Walk X → Type 0
  After (went rows left) Goes w = Goes rows left w
  After (ended last) Goes w = w ≡ ended last

  abbrev pub AfterAll : WalkBelow X → (List Child → List X → Walk X → Type 0) → Walk X → Type 0
  AfterAll (went_all children left) Goes w = Goes children left w
  AfterAll (ended_below last) Goes w = w ≡ ended last

  -- the last step, where the node is a scope operator
  abbrev pub Closes : Bool → Path → Option ℕ → Fragment → ℕ → List (List Term) → List X → Walk X → Type 0
  Closes true path number f n rows xs w =
      Takes (record { path = path; cell = number; part = f; step = n + 1; cases = last_cases def f rows; pairs = 0 })
      xs w
  Closes false path number f n rows xs w = w ≡ went rows xs

  -- the steps of the node itself after the step n, which has these rows; these children are still to be added
  abbrev pub Adds : Path → Option ℕ → Fragment → ℕ → List (List Term) → List Child → List X → Walk X → Type 0
  Adds path number f n rows [] xs w = Closes (is_scope def f) path number f n rows xs w
  Adds path number f n rows (c ∷ children) xs w =
      (v : Walk X)
      × Takes (record {
        path = path;
        cell = number;
        part = f;
        step = n + 1;
        cases = next_cases def f n c.tree rows c.rows;
        pairs = length rows * length c.rows;
      }) xs v
      × After v (λ made left u. Adds path number f (n + 1) made children left u) w

  -- the steps of the node itself
  abbrev pub Makes : Path → Option ℕ → Fragment → List Child → List X → Walk X → Type 0
  Makes path number f children xs w =
      (v : Walk X)
      × Takes (record { path = path; cell = number; part = f; step = 0; cases = first_cases def f; pairs = 0 }) xs v
      × After v (λ rows left u. Adds path number f 0 rows children left u) w

  -- the end of a list and its cells from the last to the first, the first of which has the number n
  abbrev pub Lists : Path → ℕ → Fragment → List Child → List X → Walk X → Type 0
  Lists path n (ending l u) children xs w = Makes path (Some n) (ending l u) [] xs w
  Lists path n (cell l e r) [] xs w = ⊥
  Lists path n (cell l e r) (c ∷ children) xs w =
      (v : Walk X) × Lists path (n + 1) r children xs v
      × After v (λ rows left u. Makes path (Some n) (cell l e r) (c ∷ record { tree = r; rows = rows } ∷ []) left u) w
  Lists path n _ children xs w = ⊥

  -- one child more, in front or at the end
  abbrev pub Precedes : Child → WalkBelow X → WalkBelow X → Type 0
  Precedes c (went_all children left) b = b ≡ went_all (c ∷ children) left
  Precedes c (ended_below last) b = b ≡ ended_below last

  abbrev pub Follows : Fragment → List Child → Walk X → WalkBelow X → Type 0
  Follows t children (went rows left) b = b ≡ went_all (children ++ record { tree = t; rows = rows } ∷ []) left
  Follows t children (ended last) b = b ≡ ended_below last

  -- after the element e, whose result was v, the elements after it
  abbrev pub AfterFirst : Fragment → Walk X → (List X → WalkBelow X → Type 0) → WalkBelow X → Type 0
  AfterFirst e (went rows left) Goes b =
      (c : WalkBelow X) × Goes left c × Precedes (record { tree = e; rows = rows }) c b
  AfterFirst e (ended last) Goes b = b ≡ ended_below last

  -- after the children in front of it, whose result was a, the child t
  abbrev pub AfterFront : Fragment → WalkBelow X → (List X → Walk X → Type 0) → WalkBelow X → Type 0
  AfterFront t (went_all children left) Goes b = (v : Walk X) × Goes left v × Follows t children v b
  AfterFront t (ended_below last) Goes b = b ≡ ended_below last

  -- Children in order, then the node; elements, then the end, then the cells.
  abbrev mutual
    pub Walks : Path → Fragment → List X → Walk X → Type 0
    Walks path (hole p) xs w = Makes path None (hole p) [] xs w
    Walks path (ending l u) xs w = Lists path 0 (ending l u) [] xs w
    Walks path (cell l e r) xs w =
        (v : Walk X) × (b : WalkBelow X) × Walks (path ++ 0 ∷ []) e xs v
        × AfterFirst e v (λ left c. WalksBelow path 1 r left c) b
        × AfterAll b (λ children left u. Lists path 0 (cell l e r) children left u) w
    Walks path (operator o) xs w = Makes path None (operator o) [] xs w
    Walks path (with_child f t) xs w =
        (a b : WalkBelow X) × WalksBelow path 0 f xs a
        × AfterFront t a (λ left v. Walks (path ++ length (children_of f) ∷ []) t left v) b
        × AfterAll b (λ children left u. Makes path None (with_child f t) children left u) w
    Walks path (with_name f n) xs w =
        (b : WalkBelow X) × WalksBelow path 0 f xs b
        × AfterAll b (λ children left u. Makes path None (with_name f n) children left u) w
    Walks path (with_number f n) xs w =
        (b : WalkBelow X) × WalksBelow path 0 f xs b
        × AfterAll b (λ children left u. Makes path None (with_number f n) children left u) w
    Walks path (with_text f n) xs w =
        (b : WalkBelow X) × WalksBelow path 0 f xs b
        × AfterAll b (λ children left u. Makes path None (with_text f n) children left u) w
    Walks path anything xs w = ⊥
    Walks path (observed f) xs w = ⊥

    -- the children of an operator, or the elements of a list, the first of which has the number n
    pub WalksBelow : Path → ℕ → Fragment → List X → WalkBelow X → Type 0
    WalksBelow path n (hole p) xs b = b ≡ went_all [] xs
    WalksBelow path n (ending l u) xs b = b ≡ went_all [] xs
    WalksBelow path n (cell l e r) xs b =
        (v : Walk X) × Walks (path ++ n ∷ []) e xs v
        × AfterFirst e v (λ left c. WalksBelow path (n + 1) r left c) b
    WalksBelow path n (operator o) xs b = b ≡ went_all [] xs
    WalksBelow path n (with_child f t) xs b =
        (a : WalkBelow X) × WalksBelow path n f xs a
        × AfterFront t a (λ left v. Walks (path ++ length (children_of f) ∷ []) t left v) b
    WalksBelow path n (with_name f m) xs b = WalksBelow path n f xs b
    WalksBelow path n (with_number f m) xs b = WalksBelow path n f xs b
    WalksBelow path n (with_text f m) xs b = WalksBelow path n f xs b
    WalksBelow path n anything xs b = ⊥
    WalksBelow path n (observed f) xs b = ⊥
