-- Walks over cells that look for circles.
use Rattle.std.proofs.Common.{◌≡◌, ◌≢◌, ◌⊎◌, ◌==◌, inl, inr, Bool, cond, ℕ, zero, suc, eq-eqb, ◌<◌, ◌≤◌, ◌+◌, ◌-◌, Option, Some, None, List, [], ◌∷◌, ◌++◌, map, reverse, take, length, slice_get, get_or, All, refl, ap, sym, ◌∙◌, subst, arith}
use Rattle.std.proofs.lemmas.Bool.{eqb-true, eqb-false, cases_Bool}
use Rattle.std.proofs.Math.ListN.{replicate, set}
use Rattle.std.proofs.lemmas.List.{reverse-append, take_more, length-set, length-replicate, get_or-replicate}
use Rattle.std.proofs.lemmas.Option.{slice_get_within, get_or_from_slice_get, slice_get-get_or}
use Rattle.std.proofs.lemmas.List.Elements.{All-weaker, All-cons, All-head, All-tail}
use Rattle.psg_terms.proofs.Lists.{in_cases, in_right}
use Rattle.psg_terms.specs.Sizes.{size}
use Rattle.psg_terms.specs.Relations.{IsIn, first, later}
use Rattle.psg_pool.specs.declared.cells.CellId.{CellId}
use Rattle.psg_pool.specs.declared.cells.Cell.TheVariants.{Free, Bound, Con}
use Rattle.psg_pool.specs.Cells.{Put, free, constructor, IsAmong, arguments_in, arguments_of}
use Rattle.psg_pool.specs.Bindings.{Kept, IsSound, Holds, Leads, arrived, followed}
use Rattle.psg_pool.proofs.Places.{some_or_none, slice_get-set_other, slice_get-set_same}
use Rattle.psg_pool.proofs.Following.{ends_round}
use Rattle.psg_unify.specs.declared.circles.Progress.{Progress}
use Rattle.psg_unify.specs.declared.circles.Progress.TheVariants.{New, Open, Left}
use Rattle.psg_unify.specs.declared.walking.Item.{Item}
use Rattle.psg_unify.specs.declared.walking.Item.TheVariants.{Visit, Leave}
use Rattle.psg_unify.specs.Reading.{Reading}
use Rattle.psg_unify.specs.Solved.{Reaches, here, by_binding, by_argument}
use Rattle.psg_unify.specs.Valuations.{IsValuation, Solves}
use Rattle.psg_unify.specs.Circles.{IsEdge, HasCircle, IsAt, one_new, unseen, cell_of, IsFromOn, IsClosed, leaving, LeadsOn, IsStack, IsDue, AreOpen, IsWalking, AreVisits, HasNext, FallsFrom}
use Rattle.psg_unify.proofs.Laws.{over_at}
use Rattle.psg_unify.proofs.Closing.{in_all, smaller}

-- nothing is a member of the empty list
pub nothing_in : {X : Type 0} (x : X) → IsIn x [] → ⊥
nothing_in x i = in_all (λ y. ⊥) x [] i (λ k d l. absurd (omega (arith, l)))

in_list : {X : Type 0} (y : X) (l : List X) → IsIn y l → (x : X) (xs : List X) → l ≡ x ∷ xs → (y ≡ x) ⊎ IsIn y xs
in_list y _ first x xs e = let same : y ≡ x = cc in inl same
in_list y _ (later {xs = zs} i) x xs e = let rest : zs ≡ xs = cc in inr (subst (IsIn y) rest i)

-- what was done at the cell was set, and at all others it is what it was before
pub record IsSet (base : ℕ) (old new : List Progress) (id : CellId) (p : Progress) : Type 0 where
  pub here : IsAt base new id p
  pub others : (x : CellId) (q : Progress) → x.0 ≢ id.0 → IsAt base old x q → IsAt base new x q
  pub back : (x : CellId) (q : Progress) → x.0 ≢ id.0 → IsAt base new x q → IsAt base old x q
  pub count : length new ≡ length old

-- where a cell leads, by what it holds
pub edge_free : (kept : Kept) (id to : CellId) (s : ℕ) → Holds kept id (Free s) → IsEdge kept id to → ⊥
edge_free kept id to s h e = elim e [
  | inl t ↦ (let x : None ≡ Some to = sym h.1 ∙ t in cc)
  | inr i ↦ nothing_in to (subst (IsIn to) (ap arguments_in h.0) i)
]

pub edge_bound : (kept : Kept) (id to target : CellId) → Holds kept id (Bound target) → IsEdge kept id to → to ≡ target
edge_bound kept id to target h e = elim e [
  | inl t ↦ (let x : Some target ≡ Some to = sym h.1 ∙ t in cc)
  | inr i ↦ absurd (nothing_in to (subst (IsIn to) (ap arguments_in h.0.1) i))
]

pub edge_con : (kept : Kept) (id to : CellId) (c n : ℕ) → Holds kept id (Con c n) → IsEdge kept id to → IsIn to (arguments_of kept.cells id)
edge_con kept id to c n h e = elim e [
  | inl t ↦ (let x : None ≡ Some to = sym h.2 ∙ t in cc)
  | inr i ↦ i
]

-- the walk has come so far with one cell alone
pub at_once : (base : ℕ) (marks : List Progress) (x y : CellId) (p q : Progress) → IsAt base marks x p → IsAt base marks y q → x.0 ≡ y.0 → p ≡ q
at_once base marks x y p q (k, ek, gk) (j, ej, gj) e =
    let same : k ≡ j = omega (arith, e, ek, ej) in
    let is : Some p ≡ Some q = sym gk ∙ ap (slice_get marks) same ∙ gj in cc

pub same_cell : (x y : CellId) → x.0 ≡ y.0 → x ≡ y
same_cell x y e = ap (λ (n : ℕ). record { 0 = n }) e

-- one cell or another
pub cell_cases : (x y : CellId) → (x ≡ y) ⊎ (x.0 ≢ y.0)
cell_cases x y = elim (cases_Bool (x.0 == y.0)) [
  | inl t ↦ inl (same_cell x y (eqb-true x.0 y.0 t))
  | inr f ↦ inr (eqb-false x.0 y.0 f)
]

-- visits alone leave nothing
visits_leave : (xs : List CellId) → leaving (map (λ (a : CellId). Visit a) xs) ≡ None
visits_leave [] = refl
visits_leave (x ∷ xs) = visits_leave xs

module _ (kept : Kept) where
  -- one step more
  pub reaches_on : (a b c : CellId) → Reaches kept a b → IsEdge kept b c → Reaches kept a c
  reaches_on a _ c (here _) e = elim e [
    | inl t ↦ by_binding a c c t (here c)
    | inr i ↦ by_argument a c c i (here c)
  ]
  reaches_on a b c (by_binding _ x _ t rest) e = by_binding a x c t (reaches_on x b c rest e)
  reaches_on a b c (by_argument _ x _ i rest) e = by_argument a x c i (reaches_on x b c rest e)

  -- a cell that is to be left leads to the one that is to be left first
  pub leads_up : (stack : List Item) (x top : CellId) → IsStack kept stack → IsIn (Leave x) stack → leaving stack ≡ Some top → Reaches kept x top
  leads_up [] x top h i e = absurd (nothing_in (Leave x) i)
  leads_up (Visit id ∷ rest) x top h i e = elim (in_cases (Leave x) (Visit id) rest i) [
    | inl s ↦ (cc)
    | inr j ↦ leads_up rest x top h.1 j e
  ]
  leads_up (Leave id ∷ rest) x top h i e =
      let at_top : id ≡ top = cc in
      subst (Reaches kept x) at_top (elim (in_cases (Leave x) (Leave id) rest i) [
        | inl s ↦ (let same : x ≡ id = cc in subst (Reaches kept x) same (here x))
        | inr j ↦ elim (some_or_none (leaving rest)) [
          | inl n ↦ absurd (none_leaves rest j n)
          | inr s ↦ reaches_on x s.0 id (leads_up rest x s.0 h.1 j s.1) (subst (λ o. LeadsOn kept o id) s.1 h.0)
        ]
      ]) where
        none_leaves : (rest : List Item) → IsIn (Leave x) rest → leaving rest ≡ None → ⊥
        none_leaves [] j n = nothing_in (Leave x) j
        none_leaves (Visit y ∷ rest) j n = elim (in_cases (Leave x) (Visit y) rest j) [
          | inl s ↦ (cc)
          | inr k ↦ none_leaves rest k n
        ]
        none_leaves (Leave y ∷ rest) j n = cc

  -- visits to where a cell leads that is to be left
  pub stack_next : (id : CellId) (cells : List CellId) (rest : List Item) → All (IsEdge kept id) cells → IsStack kept (Leave id ∷ rest) → IsStack kept (map (λ (a : CellId). Visit a) cells ++ Leave id ∷ rest)
  stack_next id [] rest h s = s
  stack_next id (x ∷ cells) rest h s = (
    subst (λ o. LeadsOn kept o x) (sym (still cells)) (All-head (IsEdge kept id) x cells h),
    stack_next id cells rest (All-tail (IsEdge kept id) x cells h) s,
  ) where
    still : (xs : List CellId) → leaving (map (λ (a : CellId). Visit a) xs ++ Leave id ∷ rest) ≡ Some id
    still [] = refl
    still (y ∷ xs) = still xs

  -- a cell that is to be left is met again
  pub leave_met : (id : CellId) (rest : List Item) → IsIn (Leave id) rest → IsStack kept (Visit id ∷ rest) → HasCircle kept
  leave_met id rest i p = elim (some_or_none (leaving rest)) [
    | inl n ↦ absurd (none_leaves rest i n)
    | inr s ↦ (id, s.0, leads_up rest id s.0 p.1 i s.1, subst (λ o. LeadsOn kept o id) s.1 p.0)
  ] where
    none_leaves : (rest : List Item) → IsIn (Leave id) rest → leaving rest ≡ None → ⊥
    none_leaves [] j n = nothing_in (Leave id) j
    none_leaves (Visit y ∷ rest) j n = elim (in_cases (Leave id) (Visit y) rest j) [
      | inl s ↦ (cc)
      | inr k ↦ none_leaves rest k n
    ]
    none_leaves (Leave y ∷ rest) j n = cc

  -- an open cell is met again
  pub meets_open : (base : ℕ) (marks : List Progress) (id : CellId) (rest : List Item) → IsAt base marks id Open → IsWalking kept base marks (Visit id ∷ rest) → HasCircle kept
  meets_open base marks id rest o w = elim (in_cases (Leave id) (Visit id) rest (w.opened id o)) [
    | inl s ↦ (cc)
    | inr i ↦ leave_met id rest i w.path
  ]

  -- more cells may be done
  pub due_more : (goal old new : CellId → Type 0) → ((x : CellId) → old x → new x) → (stack : List Item) → IsDue kept goal old stack → IsDue kept goal new stack
  due_more goal old new h [] d = λ x g. h x (d x g)
  due_more goal old new h (Visit id ∷ rest) d = due_more goal (λ (x : CellId). (x ≡ id) ⊎ old x) (λ (x : CellId). (x ≡ id) ⊎ new x) (λ x e. elim e [ inl s ↦ inl s | inr o ↦ inr (h x o) ]) rest d
  due_more goal old new h (Leave id ∷ rest) d = (
    λ to e. h to (d.0 to e),
    due_more goal (λ (x : CellId). (x ≡ id) ⊎ old x) (λ (x : CellId). (x ≡ id) ⊎ new x) (λ x e. elim e [ inl s ↦ inl s | inr o ↦ inr (h x o) ]) rest d.1,
  )

  -- a visit to a cell that is done
  pub due_known : (goal done : CellId → Type 0) (id : CellId) (rest : List Item) → done id → IsDue kept goal done (Visit id ∷ rest) → IsDue kept goal done rest
  due_known goal done id rest k d =
      due_more goal (λ (x : CellId). (x ≡ id) ⊎ done x) done (λ x e. elim e [ inl s ↦ subst done (sym s) k | inr o ↦ o ]) rest d

  -- before a cell is left, all are visited to which it leads
  pub due_next : (goal done : CellId → Type 0) (id : CellId) (xs : List CellId) (rest : List Item) → ((to : CellId) → IsEdge kept id to → done to ⊎ IsIn to xs)
      → IsDue kept goal done (Visit id ∷ rest) → IsDue kept goal done (map (λ (a : CellId). Visit a) xs ++ Leave id ∷ rest)
  due_next goal done id [] rest h d = (λ to e. elim (h to e) [ inl o ↦ o | inr i ↦ absurd (nothing_in to i) ], d)
  due_next goal done id (x ∷ xs) rest h d = due_next goal (λ (y : CellId). (y ≡ x) ⊎ done y) id xs rest
      (λ to e. elim (h to e) [ inl o ↦ inl (inr o) | inr i ↦ elim (in_cases to x xs i) [ inl s ↦ inl (inl s) | inr j ↦ inr j ] ])
      (due_more goal (λ (y : CellId). (y ≡ id) ⊎ done y) (λ (y : CellId). (y ≡ id) ⊎ ((y ≡ x) ⊎ done y)) (λ y e. elim e [ inl s ↦ inl s | inr o ↦ inr (inr o) ]) rest d)

  -- all cells of the goal are visited
  pub due_visits : (goal done : CellId → Type 0) (xs : List CellId) → ((x : CellId) → goal x → done x ⊎ IsIn x xs) → IsDue kept goal done (map (λ (a : CellId). Visit a) xs)
  due_visits goal done [] h = λ x g. elim (h x g) [ inl o ↦ o | inr i ↦ absurd (nothing_in x i) ]
  due_visits goal done (y ∷ xs) h = due_visits goal (λ (x : CellId). (x ≡ y) ⊎ done x) xs
      (λ x g. elim (h x g) [ inl o ↦ inl (inr o) | inr i ↦ elim (in_cases x y xs i) [ inl s ↦ inl (inl s) | inr j ↦ inr j ] ])

  -- a cell with arguments is there
  pub has_arguments : (id to : CellId) → IsIn to (arguments_of kept.cells id) → id.0 < length kept.cells
  has_arguments id to i = elim (some_or_none (slice_get kept.cells id.0)) [
    | inl n ↦ absurd (nothing_in to (subst (IsIn to) (ap arguments_in n) i))
    | inr s ↦ slice_get_within kept.cells id.0 s.0 s.1
  ]

  -- where a cell leads is a cell that is there
  pub edge_there : IsSound kept → (id to : CellId) → IsEdge kept id to → IsAmong kept.cells to
  edge_there sound id to e = elim e [
    | inl t ↦ (over_at kept.cells kept.bindings id to sound.over t).1
    | inr i ↦ (
        let below = in_all (λ (a : CellId). a.0 < id.0) to (arguments_of kept.cells id) i (sound.arguments id) in
        let own = has_arguments id to i in
        omega (arith, below, own))
  ]

  -- visits to cells
  pub visits_path : (cells : List CellId) → IsStack kept (map (λ (a : CellId). Visit a) cells)
  visits_path [] = tt
  visits_path (x ∷ cells) = (subst (λ o. LeadsOn kept o x) (sym (visits_leave cells)) tt, visits_path cells)

  pub visits_within : (P : CellId → Type 0) (cells : List CellId) (rest : List Item) → All P cells → All (λ (i : Item). P (cell_of i)) rest → All (λ (i : Item). P (cell_of i)) (map (λ (a : CellId). Visit a) cells ++ rest)
  visits_within P [] rest h r = r
  visits_within P (x ∷ cells) rest h r =
      All-cons (λ (i : Item). P (cell_of i)) (Visit x) (map (λ (a : CellId). Visit a) cells ++ rest) (All-head P x cells h) (visits_within P cells rest (All-tail P x cells h) r)

  pub all_visits : (P : CellId → Type 0) (cells : List CellId) → All P cells → All (λ (i : Item). P (cell_of i)) (map (λ (a : CellId). Visit a) cells)
  all_visits P [] h = λ k d l. absurd (omega (arith, l))
  all_visits P (x ∷ cells) h =
      All-cons (λ (i : Item). P (cell_of i)) (Visit x) (map (λ (a : CellId). Visit a) cells) (All-head P x cells h) (all_visits P cells (All-tail P x cells h))

  -- a cell that was left is met again
  pub meets_left : (base : ℕ) (marks : List Progress) (id : CellId) (rest : List Item) → IsAt base marks id Left → IsWalking kept base marks (Visit id ∷ rest) → IsWalking kept base marks rest
  meets_left base marks id rest l w = record {
    path = w.path.1;
    opened = λ x o. elim (in_cases (Leave x) (Visit id) rest (w.opened x o)) [
      | inl s ↦ (cc)
      | inr i ↦ i
    ];
    leaves = w.leaves;
    due = due_known (IsFromOn base kept.cells) (λ (x : CellId). IsAt base marks x Left) id rest l w.due;
    within = All-tail (λ (i : Item). IsFromOn base kept.cells (cell_of i)) (Visit id) rest w.within;
    count = w.count;
    closed = w.closed;
    height = w.height;
    top = w.top;
    low = w.low;
    falls = w.falls;
  }

  -- a new cell is opened
  pub opens_cell : IsSound kept → (base : ℕ) (old marks : List Progress) (id : CellId) (rest new : List Item) → IsAt base old id New → IsSet base old marks id Open → HasNext kept id (Leave id ∷ rest) new
      → IsWalking kept base old (Visit id ∷ rest) → IsWalking kept base marks new
  opens_cell sound base old marks id rest new n s h w = record {
    path = subst (IsStack kept) (sym h.stack) (stack_next id h.cells rest h.next w.path);
    opened = λ x o. subst (IsIn (Leave x)) (sym h.stack) (in_right (Leave x) (map (λ (a : CellId). Visit a) h.cells) (Leave id ∷ rest) (elim (cell_cases x id) [
      | inl e ↦ (let same : Leave x ≡ Leave id = ap (λ (y : CellId). Leave y) e in subst (λ y. IsIn y (Leave id ∷ rest)) (sym same) first)
      | inr d ↦ elim (in_cases (Leave x) (Visit id) rest (w.opened x (s.back x Open d o))) [
        | inl e ↦ (cc)
        | inr i ↦ later i
      ]
    ]));
    leaves = subst (AreOpen base marks) (sym h.stack) (over_visits h.cells (s.here, not_yet rest w.leaves, still_open rest w.leaves));
    due = subst (IsDue kept (IsFromOn base kept.cells) (λ (x : CellId). IsAt base marks x Left)) (sym h.stack)
        (due_next (IsFromOn base kept.cells) (λ (x : CellId). IsAt base marks x Left) id h.cells rest (λ to e. inr (h.each to e))
        (due_more (IsFromOn base kept.cells) (λ (x : CellId). IsAt base old x Left) (λ (x : CellId). IsAt base marks x Left) still_left (Visit id ∷ rest) w.due));
    within = subst (All (λ (i : Item). IsFromOn base kept.cells (cell_of i))) (sym h.stack)
        (visits_within (IsFromOn base kept.cells) h.cells (Leave id ∷ rest)
        (All-weaker (IsEdge kept id) (IsFromOn base kept.cells) (λ to e. (w.closed id to own.0 e, edge_there sound id to e)) h.cells h.next)
        (All-cons (λ (i : Item). IsFromOn base kept.cells (cell_of i)) (Leave id) rest own (All-tail (λ (i : Item). IsFromOn base kept.cells (cell_of i)) (Visit id) rest w.within)));
    count = (let c = s.count in let k = w.count in omega (arith, c, k));
    closed = w.closed;
    height = w.height;
    top = w.top;
    low = λ x l. w.low x (was_left x l);
    falls = λ x l to e. let f = w.falls x (was_left x l) to e in (still_left to f.0, f.1);
  } where
    own : IsFromOn base kept.cells id
    own = All-head (λ (i : Item). IsFromOn base kept.cells (cell_of i)) (Visit id) rest w.within

    still_left : (x : CellId) → IsAt base old x Left → IsAt base marks x Left
    still_left x l = elim (cell_cases x id) [
      | inl same ↦ (let y : Left ≡ New = at_once base old x id Left New l n (ap (λ (c : CellId). c.0) same) in cc)
      | inr d ↦ s.others x Left d l
    ]

    was_left : (x : CellId) → IsAt base marks x Left → IsAt base old x Left
    was_left x l = elim (cell_cases x id) [
      | inl same ↦ (let y : Left ≡ Open = at_once base marks x id Left Open l s.here (ap (λ (c : CellId). c.0) same) in cc)
      | inr d ↦ s.back x Left d l
    ]

    not_yet : (stack : List Item) → AreOpen base old stack → IsIn (Leave id) stack → ⊥
    not_yet [] a i = nothing_in (Leave id) i
    not_yet (Visit y ∷ stack) a i = elim (in_cases (Leave id) (Visit y) stack i) [
      | inl e ↦ (cc)
      | inr j ↦ not_yet stack a j
    ]
    not_yet (Leave y ∷ stack) a i = elim (in_cases (Leave id) (Leave y) stack i) [
      | inl e ↦ (
          let same : id ≡ y = cc in
          let z : New ≡ Open = at_once base old id y New Open n a.0 (ap (λ (c : CellId). c.0) same) in cc)
      | inr j ↦ not_yet stack a.2 j
    ]

    still_open : (stack : List Item) → AreOpen base old stack → AreOpen base marks stack
    still_open [] a = tt
    still_open (Visit y ∷ stack) a = still_open stack a
    still_open (Leave y ∷ stack) a = (
      elim (cell_cases y id) [
        | inl same ↦ (let z : New ≡ Open = at_once base old id y New Open n a.0 (ap (λ (c : CellId). c.0) (sym same)) in cc)
        | inr d ↦ s.others y Open d a.0
      ],
      a.1,
      still_open stack a.2,
    )

    over_visits : (xs : List CellId) → AreOpen base marks (Leave id ∷ rest) → AreOpen base marks (map (λ (a : CellId). Visit a) xs ++ Leave id ∷ rest)
    over_visits [] a = a
    over_visits (x ∷ xs) a = over_visits xs a

  -- an open cell is left
  pub leaves_cell : (base : ℕ) (old marks : List Progress) (id : CellId) (rest : List Item) → IsSet base old marks id Left → IsWalking kept base old (Leave id ∷ rest) → IsWalking kept base marks rest
  leaves_cell base old marks id rest s w = record {
    path = w.path.1;
    opened = λ x p. elim (cell_cases x id) [
      | inl same ↦ (let y : Open ≡ Left = at_once base marks x id Open Left p s.here (ap (λ (c : CellId). c.0) same) in cc)
      | inr d ↦ elim (in_cases (Leave x) (Leave id) rest (w.opened x (s.back x Open d p))) [
        | inl e ↦ (let same : x ≡ id = cc in absurd (d (ap (λ (c : CellId). c.0) same)))
        | inr i ↦ i
      ]
    ];
    leaves = still_open rest w.leaves.1 w.leaves.2;
    due = due_more (IsFromOn base kept.cells) (λ (x : CellId). (x ≡ id) ⊎ IsAt base old x Left) (λ (x : CellId). IsAt base marks x Left)
        (λ x e. elim e [ inl same ↦ subst (λ c. IsAt base marks c Left) (sym same) s.here | inr l ↦ still_left x l ]) rest w.due.1;
    within = All-tail (λ (i : Item). IsFromOn base kept.cells (cell_of i)) (Leave id) rest w.within;
    count = (let c = s.count in let k = w.count in omega (arith, c, k));
    closed = w.closed;
    height = higher;
    top = suc w.top;
    low = λ x l. elim (cell_cases x id) [
      | inl same ↦ (let h = higher_here x (ap (λ (c : CellId). c.0) same) in omega (arith, h))
      | inr d ↦ (let h = higher_there x d in let below = w.low x (s.back x Left d l) in omega (arith, h, below))
    ];
    falls = λ x l to e. elim (cell_cases x id) [
      | inl same ↦ (
          let was = w.due.0 to (subst (λ c. IsEdge kept c to) same e) in
          let h = higher_here x (ap (λ (c : CellId). c.0) same) in
          let k = higher_there to (not_this to was) in
          let below = w.low to was in
          (still_left to was, omega (arith, h, k, below)))
      | inr d ↦ (
          let f = w.falls x (s.back x Left d l) to e in
          let h = higher_there x d in
          let k = higher_there to (not_this to f.0) in
          (still_left to f.0, omega (arith, h, k, f.1)))
    ];
  } where
    higher : CellId → ℕ
    higher x = cond (x.0 == id.0) w.top (w.height x)

    higher_here : (x : CellId) → x.0 ≡ id.0 → higher x ≡ w.top
    higher_here x e = ap (λ (b : Bool). cond b w.top (w.height x)) (eq-eqb x.0 id.0 e)

    higher_there : (x : CellId) → x.0 ≢ id.0 → higher x ≡ w.height x
    higher_there x d = elim (cases_Bool (x.0 == id.0)) [
      | inl t ↦ absurd (d (eqb-true x.0 id.0 t))
      | inr f ↦ ap (λ (b : Bool). cond b w.top (w.height x)) f
    ]

    not_this : (x : CellId) → IsAt base old x Left → x.0 ≢ id.0
    not_this x l e = let y : Left ≡ Open = at_once base old x id Left Open l w.leaves.0 e in cc

    still_left : (x : CellId) → IsAt base old x Left → IsAt base marks x Left
    still_left x l = s.others x Left (not_this x l) l

    still_open : (stack : List Item) → (IsIn (Leave id) stack → ⊥) → AreOpen base old stack → AreOpen base marks stack
    still_open [] n a = tt
    still_open (Visit y ∷ stack) n a = still_open stack (λ i. n (later i)) a
    still_open (Leave y ∷ stack) n a = (
      elim (cell_cases y id) [
        | inl same ↦ absurd (n (subst (λ (c : CellId). IsIn (Leave c) (Leave y ∷ stack)) same first))
        | inr d ↦ s.others y Open d a.0
      ],
      a.1,
      still_open stack (λ i. n (later i)) a.2,
    )

  -- the cell on top is one of those that are walked over
  pub top_within : (base : ℕ) (marks : List Progress) (i : Item) (rest : List Item) → IsWalking kept base marks (i ∷ rest) → (base ≤ (cell_of i).0) × ((cell_of i).0 < base + length marks)
  top_within base marks i rest w =
      let own = All-head (λ (j : Item). IsFromOn base kept.cells (cell_of j)) i rest w.within in
      let c = w.count in
      (own.0, omega (arith, own.1, c))

  -- nothing was visited
  pub walk_begins : (base end : ℕ) (marks : List Progress) (stack : List Item) → ((k : ℕ) (p : Progress) → slice_get marks k ≡ Some p → p ≡ New) → end ≡ length kept.cells → base + length marks ≡ end → IsClosed base kept
      → AreVisits base end stack → IsWalking kept base marks stack
  walk_begins base end marks stack h e c closed v = record {
    path = subst (IsStack kept) (sym v.stack_is) (visits_path v.cells);
    opened = λ x (k, i, g). (let y : Open ≡ New = h k Open g in cc);
    leaves = subst (AreOpen base marks) (sym v.stack_is) (none_open v.cells);
    due = subst (IsDue kept (IsFromOn base kept.cells) (λ (x : CellId). IsAt base marks x Left)) (sym v.stack_is)
        (due_visits (IsFromOn base kept.cells) (λ (x : CellId). IsAt base marks x Left) v.cells (λ x g. inr (v.each x g.0 (let l = g.1 in omega (arith, l, e)))));
    within = subst (All (λ (i : Item). IsFromOn base kept.cells (cell_of i))) (sym v.stack_is)
        (all_visits (IsFromOn base kept.cells) v.cells
        (All-weaker (λ (id : CellId). (base ≤ id.0) × (id.0 < end)) (IsFromOn base kept.cells) (λ id h. (h.0, (let l = h.1 in omega (arith, l, e)))) v.cells v.within));
    count = omega (arith, c, e);
    closed = closed;
    height = λ _. 0;
    top = 0;
    low = λ x (k, i, g). (let y : Left ≡ New = h k Left g in cc);
    falls = λ x (k, i, g) to _. (let y : Left ≡ New = h k Left g in cc);
  } where
    none_open : (xs : List CellId) → AreOpen base marks (map (λ (a : CellId). Visit a) xs)
    none_open [] = tt
    none_open (x ∷ xs) = none_open xs

  -- all cells were left
  pub walk_ends : (base : ℕ) (marks : List Progress) → IsWalking kept base marks [] → (height : CellId → ℕ) × FallsFrom kept base height
  walk_ends base marks w = (
    w.height,
    λ id b i to e.
        let f = w.falls id (w.due id (b, i)) to e in
        let at = f.0.1 in
        (omega (arith, at), f.1),
  )

-- along a way sizes do not grow, and they are smaller where there is an argument in it
module _ (kept : Kept) (sound : IsSound kept) (v : Reading) (val : IsValuation kept.cells v) (sol : Solves kept.bindings v) where
  argument_smaller : (id to : CellId) → IsIn to (arguments_of kept.cells id) → size (v to) < size (v id)
  argument_smaller id to i = by_put (slice_get kept.cells id.0) refl i where
    by_put : (o : Option Put) → slice_get kept.cells id.0 ≡ o → IsIn to (arguments_in o) → size (v to) < size (v id)
    by_put None e j = absurd (nothing_in to j)
    by_put (Some (free s)) e j = absurd (nothing_in to j)
    by_put (Some (constructor c args)) e j = in_all (λ x. size (v x) < size (v id)) to args j (smaller kept.cells v id c args val e)

  way : (a b : CellId) → Reaches kept a b → Leads kept.bindings a b ⊎ (size (v b) < size (v a))
  way a _ (here _) = inl (arrived a)
  way a b (by_binding _ x _ t rest) = elim (way x b rest) [
    | inl l ↦ inl (followed a x b t l)
    | inr l ↦ (let e = ap size (sol a x t) in inr (omega (arith, e, l)))
  ]
  way a b (by_argument _ x _ i rest) = (let s = argument_smaller a x i in elim (way x b rest) [
    | inl l ↦ (let e = ap size (led x b l) in inr (omega (arith, s, e)))
    | inr l ↦ inr (omega (arith, s, l))
  ]) where
    led : (x y : CellId) → Leads kept.bindings x y → v x ≡ v y
    led x _ (arrived _) = refl
    led x y (followed _ z _ t l) = sol x z t ∙ led z y l

  -- a circle has no valuation
  pub no_circle : HasCircle kept → ⊥
  no_circle (x, y, r, e) = elim e [
    | inl t ↦ elim (way x y r) [
      | inl l ↦ ends_round kept.bindings y x (sound.ends y) t l
      | inr l ↦ (let k = ap size (sol y x t) in omega (arith, k, l))
    ]
    | inr i ↦ (let s = argument_smaller y x i in elim (way x y r) [
      | inl l ↦ (let k = ap size (led x y l) in omega (arith, k, s))
      | inr l ↦ omega (arith, s, l)
    ])
  ] where
    led : (x y : CellId) → Leads kept.bindings x y → v x ≡ v y
    led x _ (arrived _) = refl
    led x y (followed _ z _ t l) = sol x z t ∙ led z y l

-- what was pushed is on top
pub on_top : {X : Type 0} (old new : List X) (x : X) → new ≡ old ++ x ∷ [] → reverse new ≡ x ∷ reverse old
on_top old new x e = ap reverse e ∙ reverse-append old (x ∷ [])

pub next_none : (kept : Kept) (id : CellId) (s : ℕ) (stack : List Item) → Holds kept id (Free s) → HasNext kept id stack stack
next_none kept id s stack h = record { cells = []; stack = refl; next = λ k d l. absurd (omega (arith, l)); each = λ to e. absurd (edge_free kept id to s h e) }

pub next_bound : (kept : Kept) (id to : CellId) (old new : List Item) → Holds kept id (Bound to) → new ≡ Visit to ∷ old → HasNext kept id old new
next_bound kept id to old new h e = record {
  cells = to ∷ [];
  stack = e;
  next = All-cons (IsEdge kept id) to [] (inl h.1) (λ k d l. absurd (omega (arith, l)));
  each = λ x i. subst (λ (c : CellId). IsIn c (to ∷ [])) (sym (edge_bound kept id x to h i)) first;
}

every_argument : (kept : Kept) (id : CellId) (xs : List CellId) → ((x : CellId) → IsIn x xs → IsEdge kept id x) → All (IsEdge kept id) xs
every_argument kept id [] h = λ k d l. absurd (omega (arith, l))
every_argument kept id (x ∷ xs) h = All-cons (IsEdge kept id) x xs (h x first) (every_argument kept id xs (λ y i. h y (later i)))

pub next_con : (kept : Kept) (id : CellId) (c n : ℕ) (old new : List Item) → Holds kept id (Con c n) → new ≡ map (λ (a : CellId). Visit a) (arguments_of kept.cells id) ++ old → HasNext kept id old new
next_con kept id c n old new h e = record {
  cells = arguments_of kept.cells id;
  stack = e;
  next = every_argument kept id (arguments_of kept.cells id) (λ x i. inr i);
  each = λ to i. edge_con kept id to c n h i;
}

pub take_next : {X : Type 0} (xs : List X) (k : ℕ) (x : X) → slice_get xs k ≡ Some x → take (k + 1) xs ≡ take k xs ++ x ∷ []
take_next xs k x e =
    take_more xs k x (slice_get_within xs k x e) ∙ ap (λ y. take k xs ++ y ∷ []) (get_or_from_slice_get xs k x x e)

pub all_new : (marks : List Progress) (n : ℕ) → marks ≡ replicate n New → (k : ℕ) (p : Progress) → slice_get marks k ≡ Some p → p ≡ New
all_new marks n e k p g = each_new n k (ap (λ l. slice_get l k) (sym e) ∙ g) where
  each_new : (n k : ℕ) → slice_get (replicate n New) k ≡ Some p → p ≡ New
  each_new n k g =
      let in_list = slice_get_within (replicate n New) k p g in
      let is : get_or (replicate n New) k p ≡ New = get_or-replicate n k New p (omega (arith, in_list, length-replicate n New)) in
      sym (get_or_from_slice_get (replicate n New) k p p g) ∙ is

-- what was set is there, and the rest is as it was
pub set_at : (base : ℕ) (marks new : List Progress) (id : CellId) (p : Progress) → base ≤ id.0 → id.0 < base + length marks → new ≡ set marks (id.0 - base) p → IsSet base marks new id p
set_at base marks new id p b l e = subst (λ (n : List Progress). IsSet base marks n id p) (sym e) (record {
  here = (id.0 - base, omega (arith, b), slice_get-set_same marks (id.0 - base) p (get_or marks (id.0 - base) p) (slice_get-get_or marks (id.0 - base) p (omega (arith, b, l))));
  others = λ x q d (k, i, g). (k, i, slice_get-set_other marks k (id.0 - base) p (λ same. d (omega (arith, same, i, b))) ∙ g);
  back = λ x q d (k, i, g). (k, i, sym (slice_get-set_other marks k (id.0 - base) p (λ same. d (omega (arith, same, i, b)))) ∙ g);
  count = length-set marks (id.0 - base) p;
})

-- no cell more is new
pub unseen_set : (marks : List Progress) (k : ℕ) (p : Progress) → one_new p ≡ 0 → unseen (set marks k p) ≤ unseen marks
unseen_set [] k p e = omega arith
unseen_set (q ∷ marks) zero p e = omega (arith, e)
unseen_set (q ∷ marks) (suc k) p e = let h = unseen_set marks k p e in omega (arith, h)

-- and one less, where it was new
pub unseen_less : (marks : List Progress) (k : ℕ) (p : Progress) → slice_get marks k ≡ Some New → one_new p ≡ 0 → unseen (set marks k p) < unseen marks
unseen_less [] k p at e = (let none : None ≡ Some New = at in cc)
unseen_less (q ∷ marks) zero p at e = (let same : q ≡ New = cc in let one = ap one_new same in omega (arith, e, one))
unseen_less (q ∷ marks) (suc k) p at e = let h = unseen_less marks k p at e in omega (arith, h)

-- one visit more
pub visits_none : (base end : ℕ) (stack : List Item) → end ≤ base → stack ≡ [] → AreVisits base end stack
visits_none base end stack l e = record {
  cells = [];
  stack_is = e;
  within = λ k d m. absurd (omega (arith, m));
  each = λ id b i. absurd (omega (arith, l, b, i));
}

pub visits_more : (base n : ℕ) (old new : List Item) → base ≤ n → new ≡ Visit (record { 0 = n }) ∷ old → AreVisits base n old → AreVisits base (n + 1) new
visits_more base n old new l e v = record {
  cells = record { 0 = n } ∷ v.cells;
  stack_is = e ∙ ap (λ (s : List Item). Visit (record { 0 = n }) ∷ s) v.stack_is;
  within = All-cons (λ (id : CellId). (base ≤ id.0) × (id.0 < n + 1)) (record { 0 = n }) v.cells (l, omega arith)
      (All-weaker (λ (id : CellId). (base ≤ id.0) × (id.0 < n)) (λ (id : CellId). (base ≤ id.0) × (id.0 < n + 1)) (λ id h. (h.0, (let k = h.1 in omega (arith, k)))) v.cells v.within);
  each = λ id b i. elim (cases_Bool (id.0 == n)) [
    | inl t ↦ subst (λ (c : CellId). IsIn c (record { 0 = n } ∷ v.cells)) (ap (λ (m : ℕ). record { 0 = m }) (sym (eqb-true id.0 n t))) first
    | inr f ↦ (let d = eqb-false id.0 n f in later (v.each id b (omega (arith, d, i))))
  ];
}

-- a new cell was opened
pub unseen_opened : (base : ℕ) (marks new : List Progress) (id : CellId) (p : Progress) → IsAt base marks id New → one_new p ≡ 0 → new ≡ set marks (id.0 - base) p → unseen new < unseen marks
unseen_opened base marks new id p (k, e, g) z s =
    let place : id.0 - base ≡ k = omega (arith, e) in
    let less = unseen_less marks k p g z in
    subst (λ (n : List Progress). unseen n < unseen marks) (sym (s ∙ ap (λ (m : ℕ). set marks m p) place)) less

-- a cell was left
pub unseen_left : (base : ℕ) (marks new : List Progress) (id : CellId) (p : Progress) → one_new p ≡ 0 → new ≡ set marks (id.0 - base) p → unseen new ≤ unseen marks
unseen_left base marks new id p z s = subst (λ (n : List Progress). unseen n ≤ unseen marks) (sym s) (unseen_set marks (id.0 - base) p z)

-- an item was taken from the stack
pub popped : (kept : Kept) (base : ℕ) (marks : List Progress) (old new : List Item) (i j : Item) → old ≡ new ++ i ∷ [] → i ≡ j → IsWalking kept base marks (reverse old) → IsWalking kept base marks (j ∷ reverse new)
popped kept base marks old new i j e is w =
    subst (λ (k : Item). IsWalking kept base marks (k ∷ reverse new)) is (subst (IsWalking kept base marks) (on_top new old i e) w)

pub all_new_count : (marks : List Progress) (n : ℕ) → marks ≡ replicate n New → length marks ≡ n
all_new_count marks n e = ap length e ∙ length-replicate n New

-- a cell that leads on is not open
pub not_free_bound : (kept : Kept) (id to : CellId) → Holds kept id (Bound to) → (s : ℕ) → Holds kept id (Free s) → ⊥
not_free_bound kept id to h s o = let x : Some to ≡ None = sym h.1 ∙ o.1 in cc

pub not_free_con : (kept : Kept) (id : CellId) (c n : ℕ) → Holds kept id (Con c n) → (s : ℕ) → Holds kept id (Free s) → ⊥
not_free_con kept id c n h s o = let x : Some (constructor c (arguments_of kept.cells id)) ≡ Some (free s) = sym h.0 ∙ o.0 in cc
