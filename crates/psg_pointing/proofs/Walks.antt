-- The walk over the nodes of a program to the one at a byte.
use Rattle.std.proofs.Common.{◌≡◌, ◌<◌, ◌≤◌, ◌+◌, ◌-◌, ◌⊎◌, inl, inr, Bool, true, false, ℕ, zero, suc, List, [], ◌∷◌, ◌++◌, length, take, drop, slice_get, Option, Some, None, refl, sym, ap, subst, ◌∙◌, arith}
use Rattle.std.specs.Prelude.{IfNone, IfSome}
use Rattle.std.proofs.lemmas.Bool.{cases_lt, false≢true}
use Rattle.std.proofs.lemmas.List.{append-nil, append_assoc, nil_from_length}
use Rattle.std.proofs.lemmas.Option.{none-some}
use Rattle.psg_grammar.specs.declared.types.Definition.{Definition}
use Rattle.psg_grammar.specs.Fragments.{Fragment}
use Rattle.psg_grammar.specs.Paths.{Path, node_at}
use Rattle.psg_lexis.specs.declared.token.Spanned.{Spanned}
use Rattle.psg_class.specs.Terminals.{Token}
use Rattle.psg_ranges.specs.declared.ranges.Range.{Range}
use Rattle.psg_ranges.specs.Forests.{Forest, no_nodes, node, at_path, below_first, first_range, from_nth, ranges_in}
use Rattle.psg_ranges.specs.Owns.{HasRanges}
use Rattle.psg_ranges.proofs.Finds.{none_in as empty_forest}
use Rattle.psg_pointing.specs.declared.pointing.Child.{Child}
use Rattle.psg_pointing.specs.Pointing.{IsLastOn, IsNodeThere, IsPointed, nowhere, pointed, Leads, ends, goes_on, covers_by, is_on}
use Rattle.psg_pointing.specs.Walking.{IsSoFar, none_yet, last_yet, behind_first, first_nodes}

nth_after : (f : Forest) (k : ℕ) → from_nth f (suc k) ≡ from_nth (from_nth f k) 1
nth_after no_nodes zero = refl
nth_after no_nodes (suc k) = refl
nth_after (node start end names below beside) zero = refl
nth_after (node start end names below beside) (suc k) = nth_after beside k

-- ---- the ranges of a forest

drop_front : (xs ys : List Range) → drop (length xs) (xs ++ ys) ≡ ys
drop_front [] ys = refl
drop_front (x ∷ xs) ys = drop_front xs ys

take_front : (xs ys : List Range) → take (length xs) (xs ++ ys) ≡ xs
take_front [] ys = refl
take_front (x ∷ xs) ys = ap (λ l. x ∷ l) (take_front xs ys)

less_one : (n : ℕ) → suc n - 1 ≡ n
less_one n = omega arith

beside_own : (f : Forest) → ranges_in (from_nth f 1) ≡ drop (first_nodes (ranges_in f) - 1) (behind_first (ranges_in f))
beside_own no_nodes = refl
beside_own (node start end names below beside) =
    sym (ap (λ n. drop n (ranges_in below ++ ranges_in beside)) (less_one (length (ranges_in below)))
    ∙ drop_front (ranges_in below) (ranges_in beside))

below_own : (f : Forest) → ranges_in (below_first f) ≡ take (first_nodes (ranges_in f) - 1) (behind_first (ranges_in f))
below_own no_nodes = refl
below_own (node start end names below beside) =
    sym (ap (λ n. take n (ranges_in below ++ ranges_in beside)) (less_one (length (ranges_in below)))
    ∙ take_front (ranges_in below) (ranges_in beside))

pub beside_is : (ranges rest result : List Range) (nodes count : ℕ) → rest ≡ behind_first ranges
    → nodes ≡ first_nodes ranges → count ≡ nodes - 1 → result ≡ drop count rest → (f : Forest) → ranges_in f ≡ ranges
    → ranges_in (from_nth f 1) ≡ result
beside_is ranges rest result nodes count r n c d f e =
    beside_own f ∙ ap (λ l. drop (first_nodes l - 1) (behind_first l)) e
    ∙ sym (d ∙ ap (λ l. drop count l) r ∙ ap (λ k. drop k (behind_first ranges)) (c ∙ ap (λ k. k - 1) n))

pub below_is : (ranges rest result : List Range) (nodes count : ℕ) → rest ≡ behind_first ranges
    → nodes ≡ first_nodes ranges → count ≡ nodes - 1 → result ≡ take count rest → (f : Forest) → ranges_in f ≡ ranges
    → ranges_in (below_first f) ≡ result
below_is ranges rest result nodes count r n c d f e =
    below_own f ∙ ap (λ l. take (first_nodes l - 1) (behind_first l)) e
    ∙ sym (d ∙ ap (λ l. take count l) r ∙ ap (λ k. take k (behind_first ranges)) (c ∙ ap (λ k. k - 1) n))

behind_length : (ranges : List Range) → length (behind_first ranges) ≡ length ranges - 1
behind_length [] = refl
behind_length (r ∷ rs) = sym (less_one (length rs))

drop_length : (n : ℕ) (xs : List Range) → length (drop n xs) ≤ length xs
drop_length zero xs = omega arith
drop_length (suc n) [] = omega arith
drop_length (suc n) (x ∷ xs) = let l = drop_length n xs in omega (arith, l)

take_length : (n : ℕ) (xs : List Range) → length (take n xs) ≤ length xs
take_length zero xs = omega arith
take_length (suc n) [] = omega arith
take_length (suc n) (x ∷ xs) = let l = take_length n xs in omega (arith, l)

pub drop_shorter : (ranges rest result : List Range) (count : ℕ) → rest ≡ behind_first ranges → result ≡ drop count rest
    → length result ≤ length ranges - 1
drop_shorter ranges rest result count r d =
    let a = ap length d in
    let b = drop_length count rest in
    let c = ap length r in
    let e = behind_length ranges in
    omega (arith, a, b, c, e)

pub take_shorter : (ranges rest result : List Range) (count : ℕ) → rest ≡ behind_first ranges → result ≡ take count rest
    → length result ≤ length ranges - 1
take_shorter ranges rest result count r d =
    let a = ap length d in
    let b = take_length count rest in
    let c = ap length r in
    let e = behind_length ranges in
    omega (arith, a, b, c, e)

-- the first of them

first_on : (tokens : List Spanned) (byte : ℕ) (f : Forest)
    → covers_by tokens byte (slice_get (ranges_in f) 0) ≡ is_on tokens byte f
first_on tokens byte no_nodes = refl
first_on tokens byte (node start end names below beside) = refl

pub on_first : (tokens : List Spanned) (byte : ℕ) (ranges : List Range) (so : Bool)
    → so ≡ covers_by tokens byte (slice_get ranges 0) → (f : Forest) → ranges_in f ≡ ranges → so ≡ is_on tokens byte f
on_first tokens byte ranges so is f e =
    is ∙ ap (λ l. covers_by tokens byte (slice_get l 0)) (sym e) ∙ first_on tokens byte f

-- ---- the nodes side by side

-- the ranges from the next node on
pub rest_after : (f : Forest) (k : ℕ) (ranges more : List Range) → ranges_in (from_nth f k) ≡ ranges
    → ((g : Forest) → ranges_in g ≡ ranges → ranges_in (from_nth g 1) ≡ more)
    → ranges_in (from_nth f (suc k)) ≡ more
rest_after f k ranges more e next = ap ranges_in (nth_after f k) ∙ next (from_nth f k) e

no_nth : (k : ℕ) → from_nth no_nodes k ≡ no_nodes
no_nth zero = refl
no_nth (suc k) = refl

-- no node is after the last one
past : (f : Forest) (k n : ℕ) → ranges_in (from_nth f k) ≡ [] → k ≤ n → from_nth f n ≡ no_nodes
past f zero n e le = ap (λ g. from_nth g n) (empty_forest f e) ∙ no_nth n
past no_nodes (suc k) n e le = no_nth n
past (node start end names below beside) (suc k) zero e le = absurd (omega (arith, le))
past (node start end names below beside) (suc k) (suc n) e le = past beside k n e (omega (arith, le))

some_same : (x y : Child) → Some x ≡ Some y → x ≡ y
some_same x y e = cc

pub if_none : {X : Type 0} (P : Type 0) (o : Option X) → (None ≡ o → P) → IfNone o P
if_none P None h = h refl
if_none P (Some x) h = tt

pub if_some : {X : Type 0} (P : X → Type 0) (o : Option X) → ((x : X) → o ≡ Some x → P x) → IfSome o P
if_some P None h = tt
if_some P (Some x) h = h x refl

pub some_in : {X : Type 0} (P : X → Type 0) (o : Option X) (x : X) → o ≡ Some x → IfSome o P → P x
some_in P o x is h = subst (λ q. IfSome q P) is h

pub none_in : {X : Type 0} (P : Type 0) (o : Option X) → o ≡ None → IfNone o P → P
none_in P o is h = subst (λ q. IfNone q P) is h

module _ (tokens : List Spanned) (byte : ℕ) where
  pub so_far_first : (f : Forest) → IsSoFar tokens byte f 0 None
  so_far_first f = none_yet (λ n lt. absurd (omega (arith, lt)))

  pub so_far_next : (f : Forest) (next : Child) → is_on tokens byte (from_nth f next.number) ≡ true
      → ranges_in (from_nth f next.number) ≡ next.ranges.now → IsSoFar tokens byte f (suc next.number) (Some next)
  so_far_next f next on e = last_yet next on (λ n more less. absurd (omega (arith, more, less))) e

  -- none of one more, where the next one does not cover the byte
  one_more : (f : Forest) (k n : ℕ) → is_on tokens byte (from_nth f k) ≡ false → n < suc k
      → (n < k → is_on tokens byte (from_nth f n) ≡ false) → is_on tokens byte (from_nth f n) ≡ false
  one_more f k n off lt h =
      elim (cases_lt n k) [
        | inl less ↦ h less
        | inr more ↦
            subst (λ m. is_on tokens byte (from_nth f m) ≡ false) (let e : k ≡ n = omega (arith, lt, more) in e) off
      ]

  pub so_far_same : (f : Forest) (k : ℕ) (found : Option Child) → IsSoFar tokens byte f k found
      → is_on tokens byte (from_nth f k) ≡ false → IsSoFar tokens byte f (suc k) found
  so_far_same f k found (none_yet h) off = none_yet (λ n lt. one_more f k n off lt (λ less. h n less))
  so_far_same f k found (last_yet child on h e) off =
      last_yet child on (λ n more lt. one_more f k n off lt (λ less. h n more less)) e

  -- where there are no more nodes
  pub none_on : (f : Forest) (k : ℕ) → IsSoFar tokens byte f k None → ranges_in (from_nth f k) ≡ [] → (n : ℕ)
      → is_on tokens byte (from_nth f n) ≡ false
  none_on f k (none_yet h) e n =
      elim (cases_lt n k) [
        | inl less ↦ h n less
        | inr more ↦ ap (is_on tokens byte) (past f k n e more)
      ]

  pub last_there : (f : Forest) (k : ℕ) (child : Child) → IsSoFar tokens byte f k (Some child)
      → ranges_in (from_nth f k) ≡ []
      → IsLastOn tokens byte f child.number × (ranges_in (from_nth f child.number) ≡ child.ranges.now)
  last_there f k child (last_yet _ on h own) e = (
    record {
      on = on;
      last = λ n more.
          elim (cases_lt n k) [
            | inl less ↦ h n more less
            | inr past_all ↦ ap (is_on tokens byte) (past f k n e past_all)
          ];
    },
    own,
  )

  -- what is known in the walk over the nodes, before the next one
  pub record IsLooking (ranges : List Range) (next : Child) (found : Option Child) : Type 0 where
    pub so_far : (f : Forest) → ranges_in f ≡ ranges → IsSoFar tokens byte f next.number found
    pub rest : (f : Forest) → ranges_in f ≡ ranges → ranges_in (from_nth f next.number) ≡ next.ranges.now
    pub room : next.number + length next.ranges.now ≤ length ranges
    pub short : (child : Child) → found ≡ Some child
        → (0 < length child.ranges.now) × (length child.ranges.now ≤ length ranges)

  pub looking_first : (next : Child) → next.number ≡ 0 → (ranges : List Range) → next.ranges.now ≡ ranges
      → IsLooking ranges next None
  looking_first next n ranges e = record {
    so_far = λ f is. subst (λ k. IsSoFar tokens byte f k None) (sym n) (so_far_first f);
    rest = λ f is. ap (λ k. ranges_in (from_nth f k)) n ∙ is ∙ sym e;
    room = let l = ap length e in omega (arith, n, l);
    short = λ child is. absurd (none-some child is);
  }

  pub looking_next : (ranges : List Range) (next after : Child) (found new : Option Child) → IsLooking ranges next found
      → 0 < length next.ranges.now
      → ((f : Forest) → ranges_in (from_nth f next.number) ≡ next.ranges.now → IsSoFar tokens byte f next.number found
      → IsSoFar tokens byte f (suc next.number) new)
      → (new ≡ Some next) ⊎ (new ≡ found) → after.number ≡ suc next.number
      → length after.ranges.now ≤ length next.ranges.now - 1
      → ((f : Forest) → ranges_in f ≡ next.ranges.now → ranges_in (from_nth f 1) ≡ after.ranges.now)
      → IsLooking ranges after new
  looking_next ranges next after found new is some step either n less beside = record {
    so_far = λ f e. subst (λ k. IsSoFar tokens byte f k new) (sym n) (step f (is.rest f e) (is.so_far f e));
    rest = λ f e. ap (λ k. ranges_in (from_nth f k)) n
        ∙ rest_after f next.number next.ranges.now after.ranges.now (is.rest f e) beside;
    room = let r = is.room in omega (arith, r, some, n, less);
    short = λ child e. elim either [
      | inl this ↦ this_one child (sym this ∙ e)
      | inr that ↦ is.short child (sym that ∙ e)
    ];
  } where
    this_one : (child : Child) → Some next ≡ Some child
        → (0 < length child.ranges.now) × (length child.ranges.now ≤ length ranges)
    this_one child e =
        subst (λ (c : Child). (0 < length c.ranges.now) × (length c.ranges.now ≤ length ranges)) (some_same next child e)
        (some, let r = is.room in omega (arith, r))

  module _ (ranges : List Range) (next : Child) (found : Option Child) (is : IsLooking ranges next found)
      (all : length next.ranges.now ≡ 0) where
    empty : next.ranges.now ≡ []
    empty = nil_from_length next.ranges.now all

    pub looking_none : None ≡ found → (f : Forest) → ranges_in f ≡ ranges → (n : ℕ)
        → is_on tokens byte (from_nth f n) ≡ false
    looking_none none f e =
        none_on f next.number (subst (IsSoFar tokens byte f next.number) (sym none) (is.so_far f e)) (is.rest f e ∙ empty)

    pub looking_last : (child : Child) → found ≡ Some child → (f : Forest) → ranges_in f ≡ ranges
        → IsLastOn tokens byte f child.number × (ranges_in (from_nth f child.number) ≡ child.ranges.now)
    looking_last child some f e =
        last_there f next.number child (subst (IsSoFar tokens byte f next.number) some (is.so_far f e))
        (is.rest f e ∙ empty)

  -- ---- the children of the first node

  module _ (ranges children : List Range) (inner : (f : Forest) → ranges_in f ≡ ranges → ranges_in (below_first f) ≡ children)
    where
      pub child_none : (o : Option Child)
          → IfNone o ((f : Forest) → ranges_in f ≡ children → (n : ℕ) → is_on tokens byte (from_nth f n) ≡ false)
          → IfNone o ((f : Forest) → ranges_in f ≡ ranges → (n : ℕ)
          → is_on tokens byte (from_nth (below_first f) n) ≡ false)
      child_none None h = λ f e. h (below_first f) (inner f e)
      child_none (Some child) h = tt

      pub child_last : (o : Option Child)
          → IfSome o (λ child. (f : Forest) → ranges_in f ≡ children
          → IsLastOn tokens byte f child.number × (ranges_in (from_nth f child.number) ≡ child.ranges.now))
          → IfSome o (λ child. (f : Forest) → ranges_in f ≡ ranges → IsLastOn tokens byte (below_first f) child.number
          × (ranges_in (from_nth (below_first f) child.number) ≡ child.ranges.now))
      child_last None h = tt
      child_last (Some child) h = λ f e. h (below_first f) (inner f e)

  pub child_shorter : (o : Option Child) (ranges children : List Range) → length children ≤ length ranges - 1
      → IfSome o (λ child. (0 < length child.ranges.now) × (length child.ranges.now ≤ length children))
      → IfSome o (λ child. length child.ranges.now < length ranges)
  child_shorter None ranges children le h = tt
  child_shorter (Some child) ranges children le h = let a = h.0 in let b = h.1 in omega (arith, le, a, b)

  -- ---- the way

  -- whatever is the way from the rest on completes the way
  abbrev pub IsOnWay : List Range → List Range → List ℕ → Type 0
  IsOnWay ranges rest steps = (f : Forest) → ranges_in f ≡ ranges
      → (g : Forest) × (ranges_in g ≡ rest) × ((path : Path) → Leads tokens byte g path → Leads tokens byte f (steps ++ path))

  pub way_first : (ranges : List Range) (steps : List ℕ) → steps ≡ [] → IsOnWay ranges ranges steps
  way_first ranges steps none =
      subst (IsOnWay ranges ranges) (sym none) (λ f e. (f, e, λ path h. h))

  pub way_next : (ranges rest more : List Range) (steps new : List ℕ) (number step : ℕ) → IsOnWay ranges rest steps
      → step ≡ number → new ≡ steps ++ step ∷ []
      → ((g : Forest) → ranges_in g ≡ rest
      → IsLastOn tokens byte (below_first g) number × (ranges_in (from_nth (below_first g) number) ≡ more))
      → IsOnWay ranges more new
  way_next ranges rest more steps new number step way same is last =
      subst (IsOnWay ranges more) (sym (is ∙ ap (λ k. steps ++ k ∷ []) same)) on_way where
        on_way : IsOnWay ranges more (steps ++ number ∷ [])
        on_way f e =
            let x = way f e in
            let y = last x.0 x.1 in (
              from_nth (below_first x.0) number,
              y.1,
              λ path h.
                  subst (Leads tokens byte f) (sym (append_assoc steps (number ∷ []) path))
                  (x.2 (number ∷ path) (goes_on number y.0 h)),
            )

  pub way_end : (ranges rest : List Range) (steps path : List ℕ) → IsOnWay ranges rest steps → path ≡ steps
      → ((g : Forest) → ranges_in g ≡ rest → (n : ℕ) → is_on tokens byte (from_nth (below_first g) n) ≡ false)
      → (f : Forest) → ranges_in f ≡ ranges → Leads tokens byte f path
  way_end ranges rest steps path way same none f e =
      let x = way f e in
      subst (Leads tokens byte f) (append-nil steps ∙ sym same) (x.2 [] (ends (none x.0 x.1)))

  -- ---- what is there

  on_there : (f : Forest) (path : Path) → Leads tokens byte f path → is_on tokens byte f ≡ true
      → is_on tokens byte (at_path f path) ≡ true
  on_there f path (ends h) on = on
  on_there f path (goes_on {path = rest} k last more) on = on_there (from_nth (below_first f) k) rest more last.on

  range_there : (f : Forest) → is_on tokens byte f ≡ true → (r : Range) × (first_range f ≡ Some r)
  range_there no_nodes on = absurd (false≢true on)
  range_there (node start end names below beside) on = (_, refl)

  module _ (def : Definition) (ts : List Token) (f : Fragment) (nodes : Forest) (has : HasRanges def ts f nodes)
      (path : Path) where
    by_node : (o : Option Fragment) → node_at f path ≡ o → (r : Range) × (first_range (at_path nodes path) ≡ Some r)
        → IsNodeThere def ts f nodes path
    by_node None e there = absurd (none-some there.0 (sym (has.none path e) ∙ there.1))
    by_node (Some g) e there =
        let x = has.there path g e in
        record { node = g; range = x.0; node_is = e; range_is = x.1; is_range = x.2 }

    pub node_there : IsPointed tokens byte nodes (Some path) → IsNodeThere def ts f nodes path
    node_there (pointed _ on leads) =
        by_node (node_at f path) refl (range_there (at_path nodes path) (on_there nodes path leads on))
