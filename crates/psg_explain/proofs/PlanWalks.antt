-- A walk through a tree is a flow through the steps of its plan, both ways.
use Rattle.std.proofs.Common.{◌≡◌, ℕ, ◌+◌, ◌-◌, ◌<◌, ◌≤◌, List, [], ◌∷◌, ◌++◌, length, Some, None, refl, ap, ap₂, sym, ◌∙◌, subst, arith}
use Rattle.psg_terms.specs.Terms.{Term}
use Rattle.psg_grammar.specs.declared.types.Definition.{Definition}
use Rattle.psg_grammar.specs.Fragments.{Fragment, hole, ending, cell, operator, with_child, with_name, with_number, with_text, anything, observed, children_of}
use Rattle.psg_grammar.specs.Paths.{Path}
use Rattle.psg_explain.specs.Walks.{At, Child, Walk, WalkBelow, went, ended, went_all, ended_below, After, AfterAll, AfterFirst, AfterFront, Makes, Lists, Precedes, Follows, Walks, WalksBelow}
use Rattle.psg_explain.specs.Plans.{Below, Done, Flow, Flows, Step, halted, listing, making, planned, planned_below, rows_at, through}
use Rattle.psg_explain.proofs.PlanLaws.{AllWithin, IsFront, IsRest, IsWalked, Matches, Rows, Then, below_matches, below_of, first_within, flows_join, flows_length, flows_resolved, flows_row, flows_split, front_within, last_in, last_within, makes_from, makes_to, resolved, resolved-append, rest_within, some_listed, some_planned, walk_of}

abbrev done : Fragment → ℕ → Done
done t n = record { tree = t; place = n }

abbrev kid : Fragment → Rows → Child
kid t rows = record { tree = t; rows = rows }

module _ (def : Definition) {X : Type 0} (rows_in : X → List (List Term)) (IsOf : At → X → Type 0) where
  abbrev F : List Rows → List Step → List X → Flow X → Type 0
  F rows steps xs r = Flows def rows_in IsOf rows steps xs r

  abbrev W : Path → Fragment → List X → Walk X → Type 0
  W path f xs w = Walks def rows_in IsOf path f xs w

  abbrev B : Path → ℕ → Fragment → List X → WalkBelow X → Type 0
  B path n f xs b = WalksBelow def rows_in IsOf path n f xs b

  -- ---- a list's end and cells

  kids_of_cell : (d : Done) (r : Fragment) (now mid : List Rows) (n : ℕ) → rows_at mid d.place ≡ rows_at now d.place → n ≡ length mid - 1
      → resolved (d ∷ done r n ∷ []) mid ≡ kid d.tree (rows_at now d.place) ∷ kid r (last_in mid) ∷ []
  kids_of_cell d r now mid n e k = ap₂ (λ (a b : Rows). kid d.tree a ∷ kid r b ∷ []) e (ap (rows_at mid) k)

  cell_from : (l : ℕ) (v t : Fragment) (path : Path) (n base : ℕ) (d : Done) (ds : List Done) (now : List Rows) (xs : List X) (r : Flow X) (front : List Step) (mid : Flow X)
      → length now ≡ base → d.place < length now → 1 ≤ length front → F now front xs mid
      → Then mid (λ next left u. F next (making def (base + length front) path (Some n) (cell l v t) (d ∷ done t (base + length front - 1) ∷ [])) left u) r
      → Lists def rows_in IsOf path (n + 1) t (resolved ds now) xs (walk_of mid) → Lists def rows_in IsOf path n (cell l v t) (resolved (d ∷ ds) now) xs (walk_of r)
  cell_from l v t path n base d ds now xs r front (through next left) e lt some fl th inner =
      let k = flows_length def rows_in IsOf front now xs next left fl in
      let many : length next ≡ base + length front = omega (arith, k, e) in
      let place : base + length front - 1 ≡ length next - 1 = omega (arith, many) in
      let here : d.place < length next = omega (arith, k, lt) in
      let there : base + length front - 1 < length next = omega (arith, many, some) in
      let made = makes_from def rows_in IsOf path (Some n) (cell l v t) (d ∷ done t (base + length front - 1) ∷ []) (base + length front) next left r many (here, (there, tt)) th in (
        went (last_in next) left,
        inner,
        subst (λ (cs : List Child). Makes def rows_in IsOf path (Some n) (cell l v t) cs left (walk_of r))
            (kids_of_cell d t now next (base + length front - 1) (flows_row def rows_in IsOf front now xs next left d.place fl lt) place) made,
      )
  cell_from l v t path n base d ds now xs r front (halted last) e lt some fl th inner = (ended last, inner, ap walk_of th)

  cell_to : (l : ℕ) (v t : Fragment) (path : Path) (n base : ℕ) (d : Done) (now : List Rows) (xs : List X) (w : Walk X) (front : List Step) (mid : Flow X)
      → length now ≡ base → d.place < length now → 1 ≤ length front → F now front xs mid
      → After def rows_in IsOf (walk_of mid) (λ rows left u. Makes def rows_in IsOf path (Some n) (cell l v t) (kid d.tree (rows_at now d.place) ∷ kid t rows ∷ []) left u) w
      → (r : Flow X) × F now (front ++ making def (base + length front) path (Some n) (cell l v t) (d ∷ done t (base + length front - 1) ∷ [])) xs r × (w ≡ walk_of r)
  cell_to l v t path n base d now xs w front (through next left) e lt some fl made =
      let own : List Step = making def (base + length front) path (Some n) (cell l v t) (d ∷ done t (base + length front - 1) ∷ []) in
      let k = flows_length def rows_in IsOf front now xs next left fl in
      let many : length next ≡ base + length front = omega (arith, k, e) in
      let place : base + length front - 1 ≡ length next - 1 = omega (arith, many) in
      let here : d.place < length next = omega (arith, k, lt) in
      let there : base + length front - 1 < length next = omega (arith, many, some) in
      let (r, h, is) = makes_to def rows_in IsOf path (Some n) (cell l v t) (d ∷ done t (base + length front - 1) ∷ []) (base + length front) next left w many (here, (there, tt))
      (subst (λ (cs : List Child). Makes def rows_in IsOf path (Some n) (cell l v t) cs left w)
      (sym (kids_of_cell d t now next (base + length front - 1) (flows_row def rows_in IsOf front now xs next left d.place fl lt) place)) made) in
      (r, flows_join def rows_in IsOf front own now xs (through next left) r fl h, is)
  cell_to l v t path n base d now xs w front (halted last) e lt some fl is =
      let own : List Step = making def (base + length front) path (Some n) (cell l v t) (d ∷ done t (base + length front - 1) ∷ []) in
      (halted last, flows_join def rows_in IsOf front own now xs (halted last) (halted last) fl refl, is)

  lists_from : (f : Fragment) (path : Path) (n base : ℕ) (ds : List Done) (now : List Rows) (xs : List X) (r : Flow X) → length now ≡ base → Matches f ds → AllWithin (length now) ds
      → F now (listing def base path n f ds) xs r → Lists def rows_in IsOf path n f (resolved ds now) xs (walk_of r)
  lists_from (ending l u) path n base [] now xs r e m within h = makes_from def rows_in IsOf path (Some n) (ending l u) [] base now xs r e tt h
  lists_from (ending l u) path n base (d ∷ ds) now xs r e m within h = absurd (cc)
  lists_from (cell l v t) path n base [] now xs r e m within h = absurd m
  lists_from (cell l v t) path n base (d ∷ ds) now xs r e m (lt, within) h =
      let front : List Step = listing def base path (n + 1) t ds in
      let own : List Step = making def (base + length front) path (Some n) (cell l v t) (d ∷ done t (base + length front - 1) ∷ []) in
      let (mid, fl, th) = flows_split def rows_in IsOf front own now xs r h in
      cell_from l v t path n base d ds now xs r front mid e lt (some_listed def base path (n + 1) t ds m) fl th (lists_from t path (n + 1) base ds now xs mid e m within fl)
  lists_from (hole p) path n base ds now xs r e m within h = absurd m
  lists_from (operator o) path n base ds now xs r e m within h = absurd m
  lists_from (with_child f t) path n base ds now xs r e m within h = absurd m
  lists_from (with_name f k) path n base ds now xs r e m within h = absurd m
  lists_from (with_number f k) path n base ds now xs r e m within h = absurd m
  lists_from (with_text f k) path n base ds now xs r e m within h = absurd m
  lists_from anything path n base ds now xs r e m within h = absurd m
  lists_from (observed f) path n base ds now xs r e m within h = absurd m

  lists_to : (f : Fragment) (path : Path) (n base : ℕ) (ds : List Done) (now : List Rows) (xs : List X) (w : Walk X) → length now ≡ base → Matches f ds → AllWithin (length now) ds
      → Lists def rows_in IsOf path n f (resolved ds now) xs w → (r : Flow X) × F now (listing def base path n f ds) xs r × (w ≡ walk_of r)
  lists_to (ending l u) path n base [] now xs w e m within h = makes_to def rows_in IsOf path (Some n) (ending l u) [] base now xs w e tt h
  lists_to (ending l u) path n base (d ∷ ds) now xs w e m within h = absurd (cc)
  lists_to (cell l v t) path n base [] now xs w e m within h = absurd m
  lists_to (cell l v t) path n base (d ∷ ds) now xs w e m (lt, within) (u, inner, more) =
      let front : List Step = listing def base path (n + 1) t ds in
      let (mid, fl, is) = lists_to t path (n + 1) base ds now xs u e m within inner in
      cell_to l v t path n base d now xs w front mid e lt (some_listed def base path (n + 1) t ds m) fl
      (subst (λ (q : Walk X). After def rows_in IsOf q (λ rows left u. Makes def rows_in IsOf path (Some n) (cell l v t) (kid d.tree (rows_at now d.place) ∷ kid t rows ∷ []) left u) w) is more)
  lists_to (hole p) path n base ds now xs w e m within h = absurd m
  lists_to (operator o) path n base ds now xs w e m within h = absurd m
  lists_to (with_child f t) path n base ds now xs w e m within h = absurd m
  lists_to (with_name f k) path n base ds now xs w e m within h = absurd m
  lists_to (with_number f k) path n base ds now xs w e m within h = absurd m
  lists_to (with_text f k) path n base ds now xs w e m within h = absurd m
  lists_to anything path n base ds now xs w e m within h = absurd m
  lists_to (observed f) path n base ds now xs w e m within h = absurd m

  -- ---- children

  precedes_is : (e : Fragment) (n : ℕ) (ds : List Done) (steps : List Step) (mid : List Rows) (left : List X) (m : Flow X) → F mid steps left m → n < length mid → n ≡ length mid - 1
      → Precedes def rows_in IsOf (kid e (last_in mid)) (below_of ds m) (below_of (done e n ∷ ds) m)
  precedes_is e n ds steps mid left (through now out) fl lt k =
      ap (λ (q : Rows). went_all (kid e q ∷ resolved ds now) out) (flows_row def rows_in IsOf steps mid left now out n fl lt ∙ ap (rows_at mid) k)
  precedes_is e n ds steps mid left (halted last) fl lt k = refl

  precedes_once : (c : Child) (x a b : WalkBelow X) → Precedes def rows_in IsOf c x a → Precedes def rows_in IsOf c x b → a ≡ b
  precedes_once c (went_all children left) a b p q = p ∙ sym q
  precedes_once c (ended_below last) a b p q = p ∙ sym q

  follows_is : (t : Fragment) (n : ℕ) (ds : List Done) (steps : List Step) (mid : List Rows) (left : List X) (m : Flow X) → F mid steps left m → AllWithin (length mid) ds → n ≡ length mid + length steps - 1
      → Follows def rows_in IsOf t (resolved ds mid) (walk_of m) (below_of (ds ++ done t n ∷ []) m)
  follows_is t n ds steps mid left (through now out) fl within k =
      let many = flows_length def rows_in IsOf steps mid left now out fl in
      let place : n ≡ length now - 1 = omega (arith, k, many) in
      ap (λ (cs : List Child). went_all cs out) (resolved-append ds (done t n ∷ []) now
      ∙ ap₂ (λ (cs : List Child) (q : Rows). cs ++ kid t q ∷ []) (flows_resolved def rows_in IsOf steps mid left now out ds fl within) (ap (rows_at now) place))
  follows_is t n ds steps mid left (halted last) fl within k = refl

  follows_once : (t : Fragment) (cs : List Child) (v : Walk X) (a b : WalkBelow X) → Follows def rows_in IsOf t cs v a → Follows def rows_in IsOf t cs v b → a ≡ b
  follows_once t cs (went rows left) a b p q = p ∙ sym q
  follows_once t cs (ended last) a b p q = p ∙ sym q

  -- a child in front
  module _ (e r : Fragment) (pe path : Path) (k base : ℕ) (first : List Step) (b : Below) (now : List Rows) (eq : length now ≡ base) (some : 1 ≤ length first) where
    abbrev firsts : List Done
    firsts = done e (base + length first - 1) ∷ b.children

    mid_length : (xs : List X) (mid : List Rows) (left : List X) → F now first xs (through mid left) → length mid ≡ base + length first
    mid_length xs mid left fl = let many = flows_length def rows_in IsOf first now xs mid left fl in omega (arith, many, eq)

    first_on : (xs : List X) (m q : Flow X) → ((left : List X) (o : Flow X) → F now first left o → W pe e left (walk_of o))
        → ((mid : List Rows) (left : List X) (o : Flow X) → length mid ≡ base + length first → F mid b.steps left o → B path k r left (below_of b.children o))
        → F now first xs q → Then q (λ mid left u. F mid b.steps left u) m
        → (v : Walk X) × W pe e xs v × AfterFirst def rows_in IsOf e v (λ left c. B path k r left c) (below_of firsts m)
    first_on xs m (through mid left) tree rest fl th =
        let many = mid_length xs mid left fl in
        let lt : base + length first - 1 < length mid = omega (arith, many, some) in
        let is : base + length first - 1 ≡ length mid - 1 = omega (arith, many) in (
          went (last_in mid) left,
          tree xs (through mid left) fl,
          (below_of b.children m, rest mid left m many th, precedes_is e (base + length first - 1) b.children b.steps mid left m th lt is),
        )
    first_on xs m (halted last) tree rest fl th = (ended last, tree xs (halted last) fl, ap (below_of firsts) th)

    first_to : (xs : List X) (a : WalkBelow X) (q : Flow X)
        → ((mid : List Rows) (left : List X) (c : WalkBelow X) → length mid ≡ base + length first → B path k r left c → (o : Flow X) × F mid b.steps left o × (c ≡ below_of b.children o))
        → F now first xs q → AfterFirst def rows_in IsOf e (walk_of q) (λ left c. B path k r left c) a → (m : Flow X) × F now (first ++ b.steps) xs m × (a ≡ below_of firsts m)
    first_to xs a (through mid left) rest fl (c, goes, prec) =
        let many = mid_length xs mid left fl in
        let lt : base + length first - 1 < length mid = omega (arith, many, some) in
        let is : base + length first - 1 ≡ length mid - 1 = omega (arith, many) in
        let (m, th, same) = rest mid left c many goes in (
          m,
          flows_join def rows_in IsOf first b.steps now xs (through mid left) m fl th,
          precedes_once (kid e (last_in mid)) (below_of b.children m) a (below_of firsts m) (subst (λ (x : WalkBelow X). Precedes def rows_in IsOf (kid e (last_in mid)) x a) same prec)
              (precedes_is e (base + length first - 1) b.children b.steps mid left m th lt is),
        )
    first_to xs a (halted last) rest fl is = (halted last, flows_join def rows_in IsOf first b.steps now xs (halted last) (halted last) fl refl, is)

  -- a child at the end
  module _ (f t : Fragment) (path pt : Path) (n base : ℕ) (b : Below) (more : List Step) (now : List Rows) (eq : length now ≡ base) (within : AllWithin (base + length b.steps) b.children) where
    abbrev lasts : List Done
    lasts = b.children ++ done t (base + length b.steps + length more - 1) ∷ []

    front_length : (xs : List X) (mid : List Rows) (left : List X) → F now b.steps xs (through mid left) → length mid ≡ base + length b.steps
    front_length xs mid left fl = let many = flows_length def rows_in IsOf b.steps now xs mid left fl in omega (arith, many, eq)

    follows_here : (xs : List X) (mid : List Rows) (left : List X) (m : Flow X) → F now b.steps xs (through mid left) → F mid more left m
        → Follows def rows_in IsOf t (resolved b.children mid) (walk_of m) (below_of lasts m)
    follows_here xs mid left m fl th =
        let many = front_length xs mid left fl in
        let is : base + length b.steps + length more - 1 ≡ length mid + length more - 1 = omega (arith, many) in
        follows_is t (base + length b.steps + length more - 1) b.children more mid left m th (subst (λ k. AllWithin k b.children) (sym many) within) is

    last_on : (xs : List X) (m q : Flow X) → ((left : List X) (o : Flow X) → F now b.steps left o → B path n f left (below_of b.children o))
        → ((mid : List Rows) (left : List X) (o : Flow X) → length mid ≡ base + length b.steps → F mid more left o → W pt t left (walk_of o))
        → F now b.steps xs q → Then q (λ mid left u. F mid more left u) m
        → (a : WalkBelow X) × B path n f xs a × AfterFront def rows_in IsOf t a (λ left v. W pt t left v) (below_of lasts m)
    last_on xs m (through mid left) front tree fl th = (
      went_all (resolved b.children mid) left,
      front xs (through mid left) fl,
      (walk_of m, tree mid left m (front_length xs mid left fl) th, follows_here xs mid left m fl th),
    )
    last_on xs m (halted last) front tree fl th = (ended_below last, front xs (halted last) fl, ap (below_of lasts) th)

    last_to : (xs : List X) (a : WalkBelow X) (q : Flow X)
        → ((mid : List Rows) (left : List X) (v : Walk X) → length mid ≡ base + length b.steps → W pt t left v → (o : Flow X) × F mid more left o × (v ≡ walk_of o))
        → F now b.steps xs q → AfterFront def rows_in IsOf t (below_of b.children q) (λ left v. W pt t left v) a → (m : Flow X) × F now (b.steps ++ more) xs m × (a ≡ below_of lasts m)
    last_to xs a (through mid left) tree fl (v, goes, fol) =
        let (m, th, same) = tree mid left v (front_length xs mid left fl) goes in (
          m,
          flows_join def rows_in IsOf b.steps more now xs (through mid left) m fl th,
          follows_once t (resolved b.children mid) (walk_of m) a (below_of lasts m) (subst (λ (x : Walk X). Follows def rows_in IsOf t (resolved b.children mid) x a) same fol) (follows_here xs mid left m fl th),
        )
    last_to xs a (halted last) tree fl is = (halted last, flows_join def rows_in IsOf b.steps more now xs (halted last) (halted last) fl refl, is)

  -- ---- the node after its children

  module _ (steps own : List Step) (ds : List Done) (base : ℕ) (now : List Rows) (eq : length now ≡ base) (Goes : List Child → List X → Walk X → Type 0) where
    all_length : (xs : List X) (mid : List Rows) (left : List X) → F now steps xs (through mid left) → length mid ≡ base + length steps
    all_length xs mid left fl = let many = flows_length def rows_in IsOf steps now xs mid left fl in omega (arith, many, eq)

    finish_on : (xs : List X) (r m : Flow X) → ((mid : List Rows) (left : List X) → length mid ≡ base + length steps → F mid own left r → Goes (resolved ds mid) left (walk_of r))
        → F now steps xs m → Then m (λ mid left u. F mid own left u) r → AfterAll def rows_in IsOf (below_of ds m) Goes (walk_of r)
    finish_on xs r (through mid left) node fl th = node mid left (all_length xs mid left fl) th
    finish_on xs r (halted last) node fl th = ap walk_of th

    finish_to : (xs : List X) (w : Walk X) (m : Flow X) → ((mid : List Rows) (left : List X) → length mid ≡ base + length steps → Goes (resolved ds mid) left w → (r : Flow X) × F mid own left r × (w ≡ walk_of r))
        → F now steps xs m → AfterAll def rows_in IsOf (below_of ds m) Goes w → (r : Flow X) × F now (steps ++ own) xs r × (w ≡ walk_of r)
    finish_to xs w (through mid left) node fl goes =
        let (r, th, is) = node mid left (all_length xs mid left fl) goes in
        (r, flows_join def rows_in IsOf steps own now xs (through mid left) r fl th, is)
    finish_to xs w (halted last) node fl is = (halted last, flows_join def rows_in IsOf steps own now xs (halted last) (halted last) fl refl, is)

  -- an operator's node after its children
  node_on : (f : Fragment) (path : Path) (b : Below) (base : ℕ) (now : List Rows) (xs : List X) (r m : Flow X) → length now ≡ base → AllWithin (base + length b.steps) b.children → F now b.steps xs m
      → Then m (λ mid left u. F mid (making def (base + length b.steps) path None f b.children) left u) r
      → AfterAll def rows_in IsOf (below_of b.children m) (λ children left u. Makes def rows_in IsOf path None f children left u) (walk_of r)
  node_on f path b base now xs r m eq within fl th =
      finish_on b.steps (making def (base + length b.steps) path None f b.children) b.children base now eq (λ children left u. Makes def rows_in IsOf path None f children left u) xs r m
      (λ mid left many h. makes_from def rows_in IsOf path None f b.children (base + length b.steps) mid left r many (subst (λ k. AllWithin k b.children) (sym many) within) h) fl th

  node_to : (f : Fragment) (path : Path) (b : Below) (base : ℕ) (now : List Rows) (xs : List X) (w : Walk X) (m : Flow X) → length now ≡ base → AllWithin (base + length b.steps) b.children → F now b.steps xs m
      → AfterAll def rows_in IsOf (below_of b.children m) (λ children left u. Makes def rows_in IsOf path None f children left u) w
      → (r : Flow X) × F now (b.steps ++ making def (base + length b.steps) path None f b.children) xs r × (w ≡ walk_of r)
  node_to f path b base now xs w m eq within fl goes =
      finish_to b.steps (making def (base + length b.steps) path None f b.children) b.children base now eq (λ children left u. Makes def rows_in IsOf path None f children left u) xs w m
      (λ mid left many h. makes_to def rows_in IsOf path None f b.children (base + length b.steps) mid left w many (subst (λ k. AllWithin k b.children) (sym many) within) h) fl goes

  -- ---- trees

  abbrev below : ℕ → Path → ℕ → Fragment → Below
  below base path n f = planned_below def base path n f

  mutual
    pub walks_from : (f : Fragment) (path : Path) (base : ℕ) (now : List Rows) (xs : List X) (q : Flow X) → IsWalked f → length now ≡ base → F now (planned def base path f) xs q → W path f xs (walk_of q)
    walks_from (hole p) path base now xs q i eq h = makes_from def rows_in IsOf path None (hole p) [] base now xs q eq tt h
    walks_from (ending l u) path base now xs q i eq h = makes_from def rows_in IsOf path (Some 0) (ending l u) [] base now xs q eq tt h
    walks_from (operator o) path base now xs q i eq h = makes_from def rows_in IsOf path None (operator o) [] base now xs q eq tt h
    walks_from (cell l e r) path base now xs q (i, j) eq h =
        let first : List Step = planned def base (path ++ 0 ∷ []) e in
        let b : Below = below (base + length first) path 1 r in
        let ds : List Done = done e (base + length first - 1) ∷ b.children in
        let some = some_planned def base (path ++ 0 ∷ []) e i in
        let within = first_within def base first b.steps e b.children some (rest_within def (base + length first) path 1 r j) in
        let own : List Step = listing def (base + length (first ++ b.steps)) path 0 (cell l e r) ds in
        let (m, fl, th) = flows_split def rows_in IsOf (first ++ b.steps) own now xs q h in
        let all = finish_on (first ++ b.steps) own ds base now eq (λ children left u. Lists def rows_in IsOf path 0 (cell l e r) children left u) xs q m
        (λ mid left many k. lists_from (cell l e r) path 0 (base + length (first ++ b.steps)) ds mid left q many (below_matches def (base + length first) path 1 r j)
        (subst (λ n. AllWithin n ds) (sym many) within) k) fl th in
        let (o, fe, te) = flows_split def rows_in IsOf first b.steps now xs m fl in
        let (v, walk, next) = first_on e r (path ++ 0 ∷ []) path 1 base first b now eq some xs m o
        (λ left u k. walks_from e (path ++ 0 ∷ []) base now left u i eq k)
        (λ mid left u many k. rest_from r path 1 (base + length first) mid left u j many k) fe te in
        (v, below_of ds m, walk, next, all)
    walks_from (with_child f t) path base now xs q (i, j) eq h =
        let b : Below = below base path 0 f in
        let pt : Path = path ++ length (children_of f) ∷ [] in
        let more : List Step = planned def (base + length b.steps) pt t in
        let some = some_planned def (base + length b.steps) pt t j in
        let within = front_within def base path 0 f i in
        let all : Below = below base path 0 (with_child f t) in
        let (m, fl, th) = flows_split def rows_in IsOf all.steps (making def (base + length all.steps) path None (with_child f t) all.children) now xs q h in
        let node = node_on (with_child f t) path all base now xs q m eq (last_within def base b.steps more t b.children some within) fl th in
        let (o, ff, tf) = flows_split def rows_in IsOf b.steps more now xs m fl in
        let (a, walk, next) = last_on f t path pt 0 base b more now eq within xs m o
        (λ left u k. front_from f path 0 base now left u i eq k)
        (λ mid left u many k. walks_from t pt (base + length b.steps) mid left u j many k) ff tf in
        (a, below_of all.children m, walk, next, node)
    walks_from (with_name f n) path base now xs q i eq h =
        let b : Below = below base path 0 f in
        let (m, fl, th) = flows_split def rows_in IsOf b.steps (making def (base + length b.steps) path None (with_name f n) b.children) now xs q h in
        (below_of b.children m, front_from f path 0 base now xs m i eq fl, node_on (with_name f n) path b base now xs q m eq (front_within def base path 0 f i) fl th)
    walks_from (with_number f n) path base now xs q i eq h =
        let b : Below = below base path 0 f in
        let (m, fl, th) = flows_split def rows_in IsOf b.steps (making def (base + length b.steps) path None (with_number f n) b.children) now xs q h in
        (below_of b.children m, front_from f path 0 base now xs m i eq fl, node_on (with_number f n) path b base now xs q m eq (front_within def base path 0 f i) fl th)
    walks_from (with_text f n) path base now xs q i eq h =
        let b : Below = below base path 0 f in
        let (m, fl, th) = flows_split def rows_in IsOf b.steps (making def (base + length b.steps) path None (with_text f n) b.children) now xs q h in
        (below_of b.children m, front_from f path 0 base now xs m i eq fl, node_on (with_text f n) path b base now xs q m eq (front_within def base path 0 f i) fl th)
    walks_from anything path base now xs q i eq h = absurd i
    walks_from (observed f) path base now xs q i eq h = absurd i

    front_from : (f : Fragment) (path : Path) (n base : ℕ) (now : List Rows) (xs : List X) (q : Flow X) → IsFront f → length now ≡ base → F now (below base path n f).steps xs q → B path n f xs (below_of (below base path n f).children q)
    front_from (operator o) path n base now xs q i eq h = ap (below_of []) h
    front_from (with_child f t) path n base now xs q (i, j) eq h =
        let b : Below = below base path n f in
        let pt : Path = path ++ length (children_of f) ∷ [] in
        let more : List Step = planned def (base + length b.steps) pt t in
        let (o, ff, tf) = flows_split def rows_in IsOf b.steps more now xs q h in
        last_on f t path pt n base b more now eq (front_within def base path n f i) xs q o
        (λ left u k. front_from f path n base now left u i eq k)
        (λ mid left u many k. walks_from t pt (base + length b.steps) mid left u j many k) ff tf
    front_from (with_name f m) path n base now xs q i eq h = front_from f path n base now xs q i eq h
    front_from (with_number f m) path n base now xs q i eq h = front_from f path n base now xs q i eq h
    front_from (with_text f m) path n base now xs q i eq h = front_from f path n base now xs q i eq h
    front_from (hole p) path n base now xs q i eq h = absurd i
    front_from (ending l u) path n base now xs q i eq h = absurd i
    front_from (cell l e r) path n base now xs q i eq h = absurd i
    front_from anything path n base now xs q i eq h = absurd i
    front_from (observed f) path n base now xs q i eq h = absurd i

    rest_from : (f : Fragment) (path : Path) (n base : ℕ) (now : List Rows) (xs : List X) (q : Flow X) → IsRest f → length now ≡ base → F now (below base path n f).steps xs q → B path n f xs (below_of (below base path n f).children q)
    rest_from (ending l u) path n base now xs q i eq h = ap (below_of []) h
    rest_from (cell l e r) path n base now xs q (i, j) eq h =
        let first : List Step = planned def base (path ++ n ∷ []) e in
        let b : Below = below (base + length first) path (n + 1) r in
        let (o, fe, te) = flows_split def rows_in IsOf first b.steps now xs q h in
        first_on e r (path ++ n ∷ []) path (n + 1) base first b now eq (some_planned def base (path ++ n ∷ []) e i) xs q o
        (λ left u k. walks_from e (path ++ n ∷ []) base now left u i eq k)
        (λ mid left u many k. rest_from r path (n + 1) (base + length first) mid left u j many k) fe te
    rest_from (hole p) path n base now xs q i eq h = absurd i
    rest_from (operator o) path n base now xs q i eq h = absurd i
    rest_from (with_child f t) path n base now xs q i eq h = absurd i
    rest_from (with_name f m) path n base now xs q i eq h = absurd i
    rest_from (with_number f m) path n base now xs q i eq h = absurd i
    rest_from (with_text f m) path n base now xs q i eq h = absurd i
    rest_from anything path n base now xs q i eq h = absurd i
    rest_from (observed f) path n base now xs q i eq h = absurd i

  -- ---- and back

  mutual
    pub walks_to : (f : Fragment) (path : Path) (base : ℕ) (now : List Rows) (xs : List X) (w : Walk X) → IsWalked f → length now ≡ base → W path f xs w → (q : Flow X) × F now (planned def base path f) xs q × (w ≡ walk_of q)
    walks_to (hole p) path base now xs w i eq h = makes_to def rows_in IsOf path None (hole p) [] base now xs w eq tt h
    walks_to (ending l u) path base now xs w i eq h = makes_to def rows_in IsOf path (Some 0) (ending l u) [] base now xs w eq tt h
    walks_to (operator o) path base now xs w i eq h = makes_to def rows_in IsOf path None (operator o) [] base now xs w eq tt h
    walks_to (cell l e r) path base now xs w (i, j) eq (v, a, walk, next, all) =
        let first : List Step = planned def base (path ++ 0 ∷ []) e in
        let b : Below = below (base + length first) path 1 r in
        let ds : List Done = done e (base + length first - 1) ∷ b.children in
        let some = some_planned def base (path ++ 0 ∷ []) e i in
        let within = first_within def base first b.steps e b.children some (rest_within def (base + length first) path 1 r j) in
        let own : List Step = listing def (base + length (first ++ b.steps)) path 0 (cell l e r) ds in
        let (o, fe, ise) = walks_to e (path ++ 0 ∷ []) base now xs v i eq walk in
        let (m, fl, ism) = first_to e r (path ++ 0 ∷ []) path 1 base first b now eq some xs a o
        (λ mid left c many k. rest_to r path 1 (base + length first) mid left c j many k) fe
        (subst (λ (z : Walk X). AfterFirst def rows_in IsOf e z (λ left c. B path 1 r left c) a) ise next) in
        finish_to (first ++ b.steps) own ds base now eq (λ children left u. Lists def rows_in IsOf path 0 (cell l e r) children left u) xs w m
        (λ mid left many k. lists_to (cell l e r) path 0 (base + length (first ++ b.steps)) ds mid left w many (below_matches def (base + length first) path 1 r j)
        (subst (λ n. AllWithin n ds) (sym many) within) k) fl
        (subst (λ (z : WalkBelow X). AfterAll def rows_in IsOf z (λ children left u. Lists def rows_in IsOf path 0 (cell l e r) children left u) w) ism all)
    walks_to (with_child f t) path base now xs w (i, j) eq (a, c, walk, next, all) =
        let b : Below = below base path 0 f in
        let pt : Path = path ++ length (children_of f) ∷ [] in
        let more : List Step = planned def (base + length b.steps) pt t in
        let some = some_planned def (base + length b.steps) pt t j in
        let within = front_within def base path 0 f i in
        let whole : Below = below base path 0 (with_child f t) in
        let (o, ff, iso) = front_to f path 0 base now xs a i eq walk in
        let (m, fl, ism) = last_to f t path pt 0 base b more now eq within xs c o
        (λ mid left v many k. walks_to t pt (base + length b.steps) mid left v j many k) ff
        (subst (λ (z : WalkBelow X). AfterFront def rows_in IsOf t z (λ left v. W pt t left v) c) iso next) in
        node_to (with_child f t) path whole base now xs w m eq (last_within def base b.steps more t b.children some within) fl
        (subst (λ (z : WalkBelow X). AfterAll def rows_in IsOf z (λ children left u. Makes def rows_in IsOf path None (with_child f t) children left u) w) ism all)
    walks_to (with_name f n) path base now xs w i eq (c, walk, all) =
        let b : Below = below base path 0 f in
        let (m, fl, ism) = front_to f path 0 base now xs c i eq walk in
        node_to (with_name f n) path b base now xs w m eq (front_within def base path 0 f i) fl
        (subst (λ (z : WalkBelow X). AfterAll def rows_in IsOf z (λ children left u. Makes def rows_in IsOf path None (with_name f n) children left u) w) ism all)
    walks_to (with_number f n) path base now xs w i eq (c, walk, all) =
        let b : Below = below base path 0 f in
        let (m, fl, ism) = front_to f path 0 base now xs c i eq walk in
        node_to (with_number f n) path b base now xs w m eq (front_within def base path 0 f i) fl
        (subst (λ (z : WalkBelow X). AfterAll def rows_in IsOf z (λ children left u. Makes def rows_in IsOf path None (with_number f n) children left u) w) ism all)
    walks_to (with_text f n) path base now xs w i eq (c, walk, all) =
        let b : Below = below base path 0 f in
        let (m, fl, ism) = front_to f path 0 base now xs c i eq walk in
        node_to (with_text f n) path b base now xs w m eq (front_within def base path 0 f i) fl
        (subst (λ (z : WalkBelow X). AfterAll def rows_in IsOf z (λ children left u. Makes def rows_in IsOf path None (with_text f n) children left u) w) ism all)
    walks_to anything path base now xs w i eq h = absurd i
    walks_to (observed f) path base now xs w i eq h = absurd i

    front_to : (f : Fragment) (path : Path) (n base : ℕ) (now : List Rows) (xs : List X) (a : WalkBelow X) → IsFront f → length now ≡ base → B path n f xs a
        → (q : Flow X) × F now (below base path n f).steps xs q × (a ≡ below_of (below base path n f).children q)
    front_to (operator o) path n base now xs a i eq h = (through now xs, refl, h)
    front_to (with_child f t) path n base now xs a (i, j) eq (c, walk, next) =
        let b : Below = below base path n f in
        let pt : Path = path ++ length (children_of f) ∷ [] in
        let more : List Step = planned def (base + length b.steps) pt t in
        let (o, ff, iso) = front_to f path n base now xs c i eq walk in
        last_to f t path pt n base b more now eq (front_within def base path n f i) xs a o
        (λ mid left v many k. walks_to t pt (base + length b.steps) mid left v j many k) ff
        (subst (λ (z : WalkBelow X). AfterFront def rows_in IsOf t z (λ left v. W pt t left v) a) iso next)
    front_to (with_name f m) path n base now xs a i eq h = front_to f path n base now xs a i eq h
    front_to (with_number f m) path n base now xs a i eq h = front_to f path n base now xs a i eq h
    front_to (with_text f m) path n base now xs a i eq h = front_to f path n base now xs a i eq h
    front_to (hole p) path n base now xs a i eq h = absurd i
    front_to (ending l u) path n base now xs a i eq h = absurd i
    front_to (cell l e r) path n base now xs a i eq h = absurd i
    front_to anything path n base now xs a i eq h = absurd i
    front_to (observed f) path n base now xs a i eq h = absurd i

    rest_to : (f : Fragment) (path : Path) (n base : ℕ) (now : List Rows) (xs : List X) (a : WalkBelow X) → IsRest f → length now ≡ base → B path n f xs a
        → (q : Flow X) × F now (below base path n f).steps xs q × (a ≡ below_of (below base path n f).children q)
    rest_to (ending l u) path n base now xs a i eq h = (through now xs, refl, h)
    rest_to (cell l e r) path n base now xs a (i, j) eq (v, walk, next) =
        let first : List Step = planned def base (path ++ n ∷ []) e in
        let b : Below = below (base + length first) path (n + 1) r in
        let (o, fe, ise) = walks_to e (path ++ n ∷ []) base now xs v i eq walk in
        first_to e r (path ++ n ∷ []) path (n + 1) base first b now eq (some_planned def base (path ++ n ∷ []) e i) xs a o
        (λ mid left c many k. rest_to r path (n + 1) (base + length first) mid left c j many k) fe
        (subst (λ (z : Walk X). AfterFirst def rows_in IsOf e z (λ left c. B path (n + 1) r left c) a) ise next)
    rest_to (hole p) path n base now xs a i eq h = absurd i
    rest_to (operator o) path n base now xs a i eq h = absurd i
    rest_to (with_child f t) path n base now xs a i eq h = absurd i
    rest_to (with_name f m) path n base now xs a i eq h = absurd i
    rest_to (with_number f m) path n base now xs a i eq h = absurd i
    rest_to (with_text f m) path n base now xs a i eq h = absurd i
    rest_to anything path n base now xs a i eq h = absurd i
    rest_to (observed f) path n base now xs a i eq h = absurd i
