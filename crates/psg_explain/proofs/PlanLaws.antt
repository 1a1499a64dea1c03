-- A walk through a tree goes through the steps of its plan, one after the other.
use Rattle.std.proofs.Common.{◌≡◌, ℕ, zero, suc, ◌+◌, ◌-◌, ◌*◌, ◌<◌, ◌≤◌, Bool, true, false, List, [], ◌∷◌, ◌++◌, length, length-append, Option, Some, None, refl, ap, ap₂, sym, ◌∙◌, subst, append_assoc, append-nil, arith}
use Rattle.psg_terms.specs.Terms.{Term}
use Rattle.psg_grammar.specs.declared.types.Definition.{Definition}
use Rattle.psg_grammar.specs.Fragments.{Fragment, hole, ending, cell, operator, with_child, with_name, with_number, with_text, anything, observed, children_of}
use Rattle.psg_grammar.specs.Lookups.{is_scope}
use Rattle.psg_grammar.specs.Paths.{Path}
use Rattle.psg_explain.specs.Given.{next_cases, last_cases}
use Rattle.psg_explain.specs.Walks.{At, Child, Walk, WalkBelow, went, ended, went_all, ended_below, Takes, Adds, Closes, Makes}
use Rattle.psg_explain.specs.Plans.{Below, Done, Flow, Flows, Onward, Step, adding, closing, halted, listing, making, planned, planned_below, rows_at, through}

abbrev pub Rows : Type 0
Rows = List (List Term)

-- ---- rows by places

-- the rows of the last step
abbrev pub last_in : List Rows → Rows
last_in rows = rows_at rows (length rows - 1)

pub rows_front : (xs ys : List Rows) (i : ℕ) → i < length xs → rows_at (xs ++ ys) i ≡ rows_at xs i
rows_front [] ys i h = absurd (omega (arith, h))
rows_front (x ∷ xs) ys zero h = refl
rows_front (x ∷ xs) ys (suc i) h = rows_front xs ys i (omega (arith, h))

pub rows_end : (xs : List Rows) (x : Rows) → rows_at (xs ++ x ∷ []) (length xs) ≡ x
rows_end [] x = refl
rows_end (y ∷ xs) x = rows_end xs x

pub last_pushed : (xs : List Rows) (x : Rows) → last_in (xs ++ x ∷ []) ≡ x
last_pushed xs x =
    let k = length-append xs (x ∷ []) in
    let e : length (xs ++ x ∷ []) - 1 ≡ length xs = omega (arith, k) in
    ap (rows_at (xs ++ x ∷ [])) e ∙ rows_end xs x

place_last : (xs : List Rows) (n : ℕ) → length xs ≡ n + 1 → rows_at xs n ≡ last_in xs
place_last xs n h = let e : n ≡ length xs - 1 = omega (arith, h) in ap (rows_at xs) e

-- the children with the rows of their last steps
abbrev pub resolved : List Done → List Rows → List Child
resolved [] rows = []
resolved (d ∷ ds) rows = record { tree = d.tree; rows = rows_at rows d.place } ∷ resolved ds rows

-- the last steps of the children are among so many
abbrev pub AllWithin : ℕ → List Done → Type 0
AllWithin n [] = Unit {0}
AllWithin n (d ∷ ds) = (d.place < n) × AllWithin n ds

pub within_more : (n m : ℕ) (ds : List Done) → n ≤ m → AllWithin n ds → AllWithin m ds
within_more n m [] le h = tt
within_more n m (d ∷ ds) le (p, h) = (omega (arith, p, le), within_more n m ds le h)

within_append : (n : ℕ) (ds es : List Done) → AllWithin n ds → AllWithin n es → AllWithin n (ds ++ es)
within_append n [] es a b = b
within_append n (d ∷ ds) es (p, a) b = (p, within_append n ds es a b)

with_rows : Fragment → Rows → Child
with_rows t r = record { tree = t; rows = r }

pub resolved_stays : (ds : List Done) (xs ys : List Rows) → AllWithin (length xs) ds → resolved ds (xs ++ ys) ≡ resolved ds xs
resolved_stays [] xs ys h = refl
resolved_stays (d ∷ ds) xs ys (p, h) =
    ap₂ (λ (r : Rows) (l : List Child). record { tree = d.tree; rows = r } ∷ l) (rows_front xs ys d.place p) (resolved_stays ds xs ys h)

pub resolved-append : (ds es : List Done) (rows : List Rows) → resolved (ds ++ es) rows ≡ resolved ds rows ++ resolved es rows
resolved-append [] es rows = refl
resolved-append (d ∷ ds) es rows = ap (λ (l : List Child). record { tree = d.tree; rows = rows_at rows d.place } ∷ l) (resolved-append ds es rows)

-- ---- trees that can be walked

abbrev mutual
  -- lists end, and nothing is left out
  pub IsWalked : Fragment → Type 0
  IsWalked (hole p) = Unit {0}
  IsWalked (ending l u) = Unit {0}
  IsWalked (cell l e r) = IsWalked e × IsRest r
  IsWalked (operator o) = Unit {0}
  IsWalked (with_child f t) = IsFront f × IsWalked t
  IsWalked (with_name f n) = IsFront f
  IsWalked (with_number f n) = IsFront f
  IsWalked (with_text f n) = IsFront f
  IsWalked anything = ⊥
  IsWalked (observed f) = ⊥

  -- the parts of an operator
  pub IsFront : Fragment → Type 0
  IsFront (operator o) = Unit {0}
  IsFront (with_child f t) = IsFront f × IsWalked t
  IsFront (with_name f n) = IsFront f
  IsFront (with_number f n) = IsFront f
  IsFront (with_text f n) = IsFront f
  IsFront (hole p) = ⊥
  IsFront (ending l u) = ⊥
  IsFront (cell l e r) = ⊥
  IsFront anything = ⊥
  IsFront (observed f) = ⊥

  -- the rest of a list
  pub IsRest : Fragment → Type 0
  IsRest (ending l u) = Unit {0}
  IsRest (cell l e r) = IsWalked e × IsRest r
  IsRest (hole p) = ⊥
  IsRest (operator o) = ⊥
  IsRest (with_child f t) = ⊥
  IsRest (with_name f n) = ⊥
  IsRest (with_number f n) = ⊥
  IsRest (with_text f n) = ⊥
  IsRest anything = ⊥
  IsRest (observed f) = ⊥

-- a list has so many elements
abbrev pub Matches : Fragment → List Done → Type 0
Matches (ending l u) ds = ds ≡ []
Matches (cell l e r) [] = ⊥
Matches (cell l e r) (d ∷ ds) = Matches r ds
Matches _ ds = ⊥

module _ (def : Definition) where
  some_front : (front more : List Step) → 1 ≤ length more → 1 ≤ length (front ++ more)
  some_front front more h = let k = length-append front more in omega (arith, k, h)

  some_made : (base : ℕ) (path : Path) (c : Option ℕ) (f : Fragment) (ds : List Done) → 1 ≤ length (making def base path c f ds)
  some_made base path c f ds = omega arith

  pub some_listed : (base : ℕ) (path : Path) (n : ℕ) (f : Fragment) (ds : List Done) → Matches f ds → 1 ≤ length (listing def base path n f ds)
  some_listed base path n (ending l u) ds h = some_made base path (Some n) (ending l u) []
  some_listed base path n (cell l e r) [] h = absurd h
  some_listed base path n (cell l e r) (d ∷ ds) h =
      let front : List Step = listing def base path (n + 1) r ds in
      some_front front (making def (base + length front) path (Some n) (cell l e r) (d ∷ record { tree = r; place = base + length front - 1 } ∷ []))
      (some_made (base + length front) path (Some n) (cell l e r) (d ∷ record { tree = r; place = base + length front - 1 } ∷ []))
  some_listed base path n (hole p) ds h = absurd h
  some_listed base path n (operator o) ds h = absurd h
  some_listed base path n (with_child f t) ds h = absurd h
  some_listed base path n (with_name f m) ds h = absurd h
  some_listed base path n (with_number f m) ds h = absurd h
  some_listed base path n (with_text f m) ds h = absurd h
  some_listed base path n anything ds h = absurd h
  some_listed base path n (observed f) ds h = absurd h

  pub below_matches : (base : ℕ) (path : Path) (n : ℕ) (f : Fragment) → IsRest f → Matches f (planned_below def base path n f).children
  below_matches base path n (ending l u) h = refl
  below_matches base path n (cell l e r) (h, k) = below_matches (base + length (planned def base (path ++ n ∷ []) e)) path (n + 1) r k
  below_matches base path n (hole p) h = absurd h
  below_matches base path n (operator o) h = absurd h
  below_matches base path n (with_child f t) h = absurd h
  below_matches base path n (with_name f m) h = absurd h
  below_matches base path n (with_number f m) h = absurd h
  below_matches base path n (with_text f m) h = absurd h
  below_matches base path n anything h = absurd h
  below_matches base path n (observed f) h = absurd h

  pub some_planned : (base : ℕ) (path : Path) (f : Fragment) → IsWalked f → 1 ≤ length (planned def base path f)
  some_planned base path (hole p) h = some_made base path None (hole p) []
  some_planned base path (ending l u) h = some_made base path (Some 0) (ending l u) []
  some_planned base path (cell l e r) (h, k) =
      let first : List Step = planned def base (path ++ 0 ∷ []) e in
      let b : Below = planned_below def (base + length first) path 1 r in
      some_front (first ++ b.steps) (listing def (base + length (first ++ b.steps)) path 0 (cell l e r) (record { tree = e; place = base + length first - 1 } ∷ b.children))
      (some_listed (base + length (first ++ b.steps)) path 0 (cell l e r) (record { tree = e; place = base + length first - 1 } ∷ b.children) (below_matches (base + length first) path 1 r k))
  some_planned base path (operator o) h = some_made base path None (operator o) []
  some_planned base path (with_child f t) h =
      let b : Below = planned_below def base path 0 (with_child f t) in
      some_front b.steps (making def (base + length b.steps) path None (with_child f t) b.children) (some_made (base + length b.steps) path None (with_child f t) b.children)
  some_planned base path (with_name f m) h =
      let b : Below = planned_below def base path 0 f in
      some_front b.steps (making def (base + length b.steps) path None (with_name f m) b.children) (some_made (base + length b.steps) path None (with_name f m) b.children)
  some_planned base path (with_number f m) h =
      let b : Below = planned_below def base path 0 f in
      some_front b.steps (making def (base + length b.steps) path None (with_number f m) b.children) (some_made (base + length b.steps) path None (with_number f m) b.children)
  some_planned base path (with_text f m) h =
      let b : Below = planned_below def base path 0 f in
      some_front b.steps (making def (base + length b.steps) path None (with_text f m) b.children) (some_made (base + length b.steps) path None (with_text f m) b.children)
  some_planned base path anything h = absurd h
  some_planned base path (observed f) h = absurd h

  pub first_within : (base : ℕ) (first : List Step) (steps : List Step) (e : Fragment) (ds : List Done) → 1 ≤ length first → AllWithin (base + length first + length steps) ds
      → AllWithin (base + length (first ++ steps)) (record { tree = e; place = base + length first - 1 } ∷ ds)
  first_within base first steps e ds some h =
      let k = length-append first steps in
      (omega (arith, k, some), within_more (base + length first + length steps) (base + length (first ++ steps)) ds (omega (arith, k)) h)

  pub last_within : (base : ℕ) (steps more : List Step) (t : Fragment) (ds : List Done) → 1 ≤ length more → AllWithin (base + length steps) ds
      → AllWithin (base + length (steps ++ more)) (ds ++ record { tree = t; place = base + length steps + length more - 1 } ∷ [])
  last_within base steps more t ds some h =
      let k = length-append steps more in
      within_append (base + length (steps ++ more)) ds (record { tree = t; place = base + length steps + length more - 1 } ∷ [])
      (within_more (base + length steps) (base + length (steps ++ more)) ds (omega (arith, k)) h) (omega (arith, k, some), tt)

  -- the last steps of the children are there
  pub front_within : (base : ℕ) (path : Path) (n : ℕ) (f : Fragment) → IsFront f → AllWithin (base + length (planned_below def base path n f).steps) (planned_below def base path n f).children
  front_within base path n (operator o) h = tt
  front_within base path n (with_child f t) (h, k) =
      let b : Below = planned_below def base path n f in
      let pt : Path = path ++ length (children_of f) ∷ [] in
      last_within base b.steps (planned def (base + length b.steps) pt t) t b.children (some_planned (base + length b.steps) pt t k) (front_within base path n f h)
  front_within base path n (with_name f m) h = front_within base path n f h
  front_within base path n (with_number f m) h = front_within base path n f h
  front_within base path n (with_text f m) h = front_within base path n f h
  front_within base path n (hole p) h = absurd h
  front_within base path n (ending l u) h = absurd h
  front_within base path n (cell l e r) h = absurd h
  front_within base path n anything h = absurd h
  front_within base path n (observed f) h = absurd h

  pub rest_within : (base : ℕ) (path : Path) (n : ℕ) (f : Fragment) → IsRest f → AllWithin (base + length (planned_below def base path n f).steps) (planned_below def base path n f).children
  rest_within base path n (ending l u) h = tt
  rest_within base path n (cell l e r) (h, k) =
      let first : List Step = planned def base (path ++ n ∷ []) e in
      let b : Below = planned_below def (base + length first) path (n + 1) r in
      first_within base first b.steps e b.children (some_planned base (path ++ n ∷ []) e h) (rest_within (base + length first) path (n + 1) r k)
  rest_within base path n (hole p) h = absurd h
  rest_within base path n (operator o) h = absurd h
  rest_within base path n (with_child f t) h = absurd h
  rest_within base path n (with_name f m) h = absurd h
  rest_within base path n (with_number f m) h = absurd h
  rest_within base path n (with_text f m) h = absurd h
  rest_within base path n anything h = absurd h
  rest_within base path n (observed f) h = absurd h

-- ---- flows

-- what is next, unless a step had no rows
abbrev pub Then : {X : Type 0} → Flow X → (List Rows → List X → Flow X → Type 0) → Flow X → Type 0
Then (through now left) Goes r = Goes now left r
Then (halted last) Goes r = r ≡ halted last

-- what a flow is to a walk
abbrev pub walk_of : {X : Type 0} → Flow X → Walk X
walk_of (through now left) = went (last_in now) left
walk_of (halted last) = ended last

abbrev pub below_of : {X : Type 0} → List Done → Flow X → WalkBelow X
below_of ds (through now left) = went_all (resolved ds now) left
below_of ds (halted last) = ended_below last

module _ (def : Definition) {X : Type 0} (rows_in : X → List (List Term)) (IsOf : At → X → Type 0) where
  abbrev F : List Rows → List Step → List X → Flow X → Type 0
  F rows steps xs r = Flows def rows_in IsOf rows steps xs r

  pub flows_split : (a b : List Step) (rows : List Rows) (xs : List X) (r : Flow X) → F rows (a ++ b) xs r → (m : Flow X) × F rows a xs m × Then m (λ now left u. F now b left u) r
  flows_split [] b rows xs r h = (through rows xs, refl, h)
  flows_split (s ∷ a) b rows xs r (went one left, t, o) =
      let (m, f, h) = flows_split a b (rows ++ one ∷ []) left r o in
      (m, (went one left, t, f), h)
  flows_split (s ∷ a) b rows xs r (ended last, t, o) = (halted last, (ended last, t, refl), o)

  pub flows_join : (a b : List Step) (rows : List Rows) (xs : List X) (m r : Flow X) → F rows a xs m → Then m (λ now left u. F now b left u) r → F rows (a ++ b) xs r
  flows_join [] b rows xs m r e h = subst (λ (q : Flow X). Then q (λ now left u. F now b left u) r) e h
  flows_join (s ∷ a) b rows xs m r (went one left, t, f) h = (went one left, t, flows_join a b (rows ++ one ∷ []) left m r f h)
  flows_join (s ∷ a) b rows xs m r (ended last, t, e) h = (ended last, t, subst (λ (q : Flow X). Then q (λ now left u. F now b left u) r) e h)

  -- the rows of the steps come behind those that were there
  pub flows_extend : (steps : List Step) (rows : List Rows) (xs : List X) (now : List Rows) (left : List X) → F rows steps xs (through now left)
      → (more : List Rows) × (now ≡ rows ++ more) × (length more ≡ length steps)
  flows_extend [] rows xs now left h = ([], same h ∙ sym (append-nil rows), refl)
    where
      same : ◌≡◌ {A = Flow X} (through now left) (through rows xs) → now ≡ rows
      same e = cc
  flows_extend (s ∷ steps) rows xs now left (went one mid, t, o) =
      let (more, e, k) = flows_extend steps (rows ++ one ∷ []) mid now left o in
      (one ∷ more, e ∙ append_assoc rows (one ∷ []) more, ap suc k)
  flows_extend (s ∷ steps) rows xs now left (ended last, t, o) = absurd (cc)

  pub flows_length : (steps : List Step) (rows : List Rows) (xs : List X) (now : List Rows) (left : List X) → F rows steps xs (through now left) → length now ≡ length rows + length steps
  flows_length steps rows xs now left h =
      let (more, e, k) = flows_extend steps rows xs now left h in
      ap length e ∙ length-append rows more ∙ ap (λ n. length rows + n) k

  -- what was there stays
  pub flows_resolved : (steps : List Step) (rows : List Rows) (xs : List X) (now : List Rows) (left : List X) (ds : List Done) → F rows steps xs (through now left) → AllWithin (length rows) ds
      → resolved ds now ≡ resolved ds rows
  flows_resolved steps rows xs now left ds h within =
      let (more, e, k) = flows_extend steps rows xs now left h in
      ap (resolved ds) e ∙ resolved_stays ds rows more within

  pub flows_row : (steps : List Step) (rows : List Rows) (xs : List X) (now : List Rows) (left : List X) (i : ℕ) → F rows steps xs (through now left) → i < length rows → rows_at now i ≡ rows_at rows i
  flows_row steps rows xs now left i h lt =
      let (more, e, k) = flows_extend steps rows xs now left h in
      ap (λ (l : List Rows). rows_at l i) e ∙ rows_front rows more i lt

  -- ---- the steps of a node itself

  pushed_length : (now : List Rows) (one : Rows) (n : ℕ) → length now ≡ n → length (now ++ one ∷ []) ≡ n + 1
  pushed_length now one n e = length-append now (one ∷ []) ∙ ap (λ k. k + 1) e

  pushed_within : (now : List Rows) (one : Rows) (ds : List Done) → AllWithin (length now) ds → AllWithin (length (now ++ one ∷ [])) ds
  pushed_within now one ds h = let k = length-append now (one ∷ []) in within_more (length now) (length (now ++ one ∷ [])) ds (omega (arith, k)) h

  step_is : (v : Walk X) (now : List Rows) (r : Flow X) → Onward def rows_in IsOf now v (λ rows left u. u ≡ through rows left) r → walk_of r ≡ v
  step_is (went one left) now r o = ap walk_of o ∙ ap (λ (q : Rows). went q left) (last_pushed now one)
  step_is (ended last) now r o = ap walk_of o

  module _ (path : Path) (c : Option ℕ) (f : Fragment) where
    abbrev closed_at : ℕ → Rows → At
    closed_at n rows = record { path = path; cell = c; part = f; step = n + 1; cases = last_cases def f rows; pairs = 0 }

    abbrev added_at : ℕ → Fragment → Rows → Rows → At
    added_at n t lefts rights = record { path = path; cell = c; part = f; step = n + 1; cases = next_cases def f n t lefts rights; pairs = length lefts * length rights }

    closes_from : (b : Bool) (n before : ℕ) (now : List Rows) (xs : List X) (r : Flow X) → length now ≡ before + 1
        → F now (closing def b path c f n before) xs r → Closes def rows_in IsOf b path c f n (last_in now) xs (walk_of r)
    closes_from true n before now xs r e (v, t, o) =
        subst (λ (w : Walk X). Takes def rows_in IsOf (closed_at n (last_in now)) xs w) (sym (step_is v now r o))
        (subst (λ (q : Rows). Takes def rows_in IsOf (closed_at n q) xs v) (place_last now before e) t)
    closes_from false n before now xs r e h = ap walk_of h

    closes_to : (b : Bool) (n before : ℕ) (now : List Rows) (xs : List X) (w : Walk X) → length now ≡ before + 1
        → Closes def rows_in IsOf b path c f n (last_in now) xs w → (r : Flow X) × F now (closing def b path c f n before) xs r × (w ≡ walk_of r)
    closes_to true n before now xs (went one left) e t = (
      through (now ++ one ∷ []) left,
      (went one left, subst (λ (q : Rows). Takes def rows_in IsOf (closed_at n q) xs (went one left)) (sym (place_last now before e)) t, refl),
      ap (λ (q : Rows). went q left) (sym (last_pushed now one)),
    )
    closes_to true n before now xs (ended last) e t = (
      halted last,
      (ended last, subst (λ (q : Rows). Takes def rows_in IsOf (closed_at n q) xs (ended last)) (sym (place_last now before e)) t, refl),
      refl,
    )
    closes_to false n before now xs w e h = (through now xs, refl, h)

    adds_from : (ds : List Done) (n before : ℕ) (now : List Rows) (xs : List X) (r : Flow X) → length now ≡ before + 1 → AllWithin (length now) ds
        → F now (adding def path c f n before ds) xs r → Adds def rows_in IsOf path c f n (last_in now) (resolved ds now) xs (walk_of r)
    adds_from [] n before now xs r e within h = closes_from (is_scope def f) n before now xs r e h
    adds_from (d ∷ ds) n before now xs r e (lt, within) (went one left, t, o) =
        let next : List Rows = now ++ one ∷ [] in
        let more = adds_from ds (n + 1) (before + 1) next left r (pushed_length now one (before + 1) e) (pushed_within now one ds within) o in (
          went one left,
          subst (λ (q : Rows). Takes def rows_in IsOf (added_at n d.tree q (rows_at now d.place)) xs (went one left)) (place_last now before e) t,
          subst (λ (q : Rows). Adds def rows_in IsOf path c f (n + 1) q (resolved ds now) left (walk_of r)) (last_pushed now one)
              (subst (λ (l : List Child). Adds def rows_in IsOf path c f (n + 1) (last_in next) l left (walk_of r)) (resolved_stays ds now (one ∷ []) within) more),
        )
    adds_from (d ∷ ds) n before now xs r e (lt, within) (ended last, t, o) = (
      ended last,
      subst (λ (q : Rows). Takes def rows_in IsOf (added_at n d.tree q (rows_at now d.place)) xs (ended last)) (place_last now before e) t,
      ap walk_of o,
    )

    adds_to : (ds : List Done) (n before : ℕ) (now : List Rows) (xs : List X) (w : Walk X) → length now ≡ before + 1 → AllWithin (length now) ds
        → Adds def rows_in IsOf path c f n (last_in now) (resolved ds now) xs w → (r : Flow X) × F now (adding def path c f n before ds) xs r × (w ≡ walk_of r)
    adds_to [] n before now xs w e within h = closes_to (is_scope def f) n before now xs w e h
    adds_to (d ∷ ds) n before now xs w e (lt, within) (went one left, t, a) =
        let next : List Rows = now ++ one ∷ [] in
        let (r, h, is) = adds_to ds (n + 1) (before + 1) next left w (pushed_length now one (before + 1) e) (pushed_within now one ds within)
        (subst (λ (l : List Child). Adds def rows_in IsOf path c f (n + 1) (last_in next) l left w) (sym (resolved_stays ds now (one ∷ []) within))
        (subst (λ (q : Rows). Adds def rows_in IsOf path c f (n + 1) q (resolved ds now) left w) (sym (last_pushed now one)) a)) in (
          r,
          (went one left, subst (λ (q : Rows). Takes def rows_in IsOf (added_at n d.tree q (rows_at now d.place)) xs (went one left)) (sym (place_last now before e)) t, h),
          is,
        )
    adds_to (d ∷ ds) n before now xs w e (lt, within) (ended last, t, a) = (
      halted last,
      (ended last, subst (λ (q : Rows). Takes def rows_in IsOf (added_at n d.tree q (rows_at now d.place)) xs (ended last)) (sym (place_last now before e)) t, refl),
      a,
    )

    -- the steps of a node, where so many steps were before
    pub makes_from : (ds : List Done) (base : ℕ) (now : List Rows) (xs : List X) (r : Flow X) → length now ≡ base → AllWithin (length now) ds
        → F now (making def base path c f ds) xs r → Makes def rows_in IsOf path c f (resolved ds now) xs (walk_of r)
    makes_from ds base now xs r e within (went one left, t, o) =
        let next : List Rows = now ++ one ∷ [] in
        let more = adds_from ds 0 base next left r (pushed_length now one base e) (pushed_within now one ds within) o in (
          went one left,
          t,
          subst (λ (q : Rows). Adds def rows_in IsOf path c f 0 q (resolved ds now) left (walk_of r)) (last_pushed now one)
              (subst (λ (l : List Child). Adds def rows_in IsOf path c f 0 (last_in next) l left (walk_of r)) (resolved_stays ds now (one ∷ []) within) more),
        )
    makes_from ds base now xs r e within (ended last, t, o) = (ended last, t, ap walk_of o)

    pub makes_to : (ds : List Done) (base : ℕ) (now : List Rows) (xs : List X) (w : Walk X) → length now ≡ base → AllWithin (length now) ds
        → Makes def rows_in IsOf path c f (resolved ds now) xs w → (r : Flow X) × F now (making def base path c f ds) xs r × (w ≡ walk_of r)
    makes_to ds base now xs w e within (went one left, t, a) =
        let next : List Rows = now ++ one ∷ [] in
        let (r, h, is) = adds_to ds 0 base next left w (pushed_length now one base e) (pushed_within now one ds within)
        (subst (λ (l : List Child). Adds def rows_in IsOf path c f 0 (last_in next) l left w) (sym (resolved_stays ds now (one ∷ []) within))
        (subst (λ (q : Rows). Adds def rows_in IsOf path c f 0 q (resolved ds now) left w) (sym (last_pushed now one)) a)) in
        (r, (went one left, t, h), is)
    makes_to ds base now xs w e within (ended last, t, a) = (halted last, (ended last, t, refl), a)
