-- Along a walk over right claims: where each step's claim is good for its step, the rows that the walk comes to are good for
-- the tree, and where it ends the tree is closed. What "good" is and why steps keep it is given.
use Rattle.std.proofs.Common.{◌≡◌, ℕ, suc, ◌+◌, ◌*◌, Bool, true, false, List, [], ◌∷◌, ◌++◌, length, Option, Some, None, refl, ap, ap₂, sym, ◌∙◌, subst, arith, append-nil, append_assoc, length-append}
use Rattle.std.specs.List.{slice_get, AllByRecursion}
use Rattle.psg_terms.specs.Terms.{Term}
use Rattle.psg_grammar.specs.declared.types.Definition.{Definition}
use Rattle.psg_grammar.specs.Fragments.{Fragment, hole, ending, cell, operator, with_child, with_name, with_number, with_text, anything, observed, children_of}
use Rattle.psg_grammar.specs.Lookups.{is_scope}
use Rattle.psg_grammar.specs.Paths.{Path}
use Rattle.psg_terms.proofs.Lists.{slice_get-front, slice_get-end, slice_get-middle}
use Rattle.psg_explain.specs.declared.refutation.Claim.{Claim}
use Rattle.psg_explain.specs.declared.given.Case.{Case}
use Rattle.psg_explain.specs.Given.{first_cases, next_cases, last_cases}
use Rattle.psg_explain.specs.Walks.{At, Child, Walk, WalkBelow, went, ended, went_all, ended_below, ComesTo, Takes, After, AfterAll, AfterFirst, AfterFront, Adds, Closes, Makes, Lists, Precedes, Follows, Walks, WalksBelow}
use Rattle.psg_explain.specs.Refutations.{IsClaim, rows_claimed}

abbrev pub Rows : Type 0
Rows = List (List Term)

-- the children that are added one by one
abbrev pub added_children : Fragment → List Fragment
added_children (cell l e r) = e ∷ r ∷ []
added_children (hole p) = []
added_children (ending l u) = []
added_children anything = []
added_children f = children_of f

abbrev pub at_step : Path → Option ℕ → Fragment → ℕ → List Case → ℕ → At
at_step path number f n cases pairs = record { path = path; cell = number; part = f; step = n; cases = cases; pairs = pairs }

each_front : (P : Fragment → Type 0) (xs ys : List Fragment) → AllByRecursion P (xs ++ ys) → AllByRecursion P xs
each_front P [] ys h = tt
each_front P (x ∷ xs) ys (p, h) = (p, each_front P xs ys h)

each_back : (P : Fragment → Type 0) (xs ys : List Fragment) → AllByRecursion P (xs ++ ys) → AllByRecursion P ys
each_back P [] ys h = h
each_back P (x ∷ xs) ys (p, h) = each_back P xs ys h

-- Formed: a well-formed node. Whole f rows, Part f n rows: the rows are good for the node, for its step n. Closed: it is not
-- open.
module _ (def : Definition) (Formed : Fragment → Type 0) (Whole : Fragment → Rows → Type 0) (Part : Fragment → ℕ → Rows → Type 0) (Closed : Fragment → Type 0) where
  pub record KeepGood : Type 0 where
    pub first : (path : Path) (number : Option ℕ) (f : Fragment) (c : Claim) → Formed f → IsClaim def (at_step path number f 0 (first_cases def f) 0) c → Part f 0 c.rows
    pub next : (path : Path) (number : Option ℕ) (f t : Fragment) (n : ℕ) (before child : Rows) (c : Claim) → Formed f → slice_get (added_children f) n ≡ Some t
        → Part f n before → Whole t child → IsClaim def (at_step path number f (n + 1) (next_cases def f n t before child) (length before * length child)) c → Part f (n + 1) c.rows
    pub close : (path : Path) (number : Option ℕ) (f : Fragment) (n : ℕ) (before : Rows) (c : Claim) → Formed f → n ≡ length (added_children f) → is_scope def f ≡ true
        → Part f n before → IsClaim def (at_step path number f (n + 1) (last_cases def f before) 0) c → Whole f c.rows
    pub stay : (f : Fragment) (n : ℕ) (rows : Rows) → Formed f → n ≡ length (added_children f) → is_scope def f ≡ false → Part f n rows → Whole f rows
    pub none_part : (f : Fragment) (n : ℕ) → Formed f → Part f n [] → Closed f
    pub none_whole : (f : Fragment) → Formed f → Whole f [] → Closed f
    pub closed_up : (f t : Fragment) (k : ℕ) → Formed f → slice_get (children_of f) k ≡ Some t → Closed t → Closed f
    pub closed_rest : (l : ℕ) (e r : Fragment) → Formed (cell l e r) → Closed r → Closed (cell l e r)
    pub formed_children : (f : Fragment) → Formed f → AllByRecursion Formed (children_of f)
    pub formed_rest : (l : ℕ) (e r : Fragment) → Formed (cell l e r) → Formed r

  module _ (laws : KeepGood) where
    abbrev IsOf : At → Claim → Type 0
    IsOf = IsClaim def

    abbrev pub Good : Fragment → Walk Claim → Type 0
    Good f (went rows left) = Whole f rows
    Good f (ended last) = Closed f

    abbrev TakenAs : (Rows → Type 0) → Walk Claim → Type 0
    TakenAs Q (went rows left) = Q rows
    TakenAs Q (ended last) = Q []

    comes_as : (Q : Rows → Type 0) (at : At) (rows : Rows) (left : List Claim) (w : Walk Claim) → Q rows → ComesTo def rows_claimed IsOf at rows left w → TakenAs Q w
    comes_as Q at [] left w q (none, e) = subst (TakenAs Q) (sym e) q
    comes_as Q at (row ∷ rows) left w q e = subst (TakenAs Q) (sym e) q

    takes_as : (Q : Rows → Type 0) (at : At) (xs : List Claim) (w : Walk Claim) → ((c : Claim) → IsClaim def at c → Q c.rows) → Takes def rows_claimed IsOf at xs w → TakenAs Q w
    takes_as Q at [] w q h = absurd h
    takes_as Q at (c ∷ left) w q (is, comes) = comes_as Q at c.rows left w (q c is) comes

    after_as : (Q : Rows → Type 0) (f : Fragment) (v w : Walk Claim) (Goes : Rows → List Claim → Walk Claim → Type 0) → TakenAs Q v → (Q [] → Closed f)
        → ((rows : Rows) (left : List Claim) → Q rows → Goes rows left w → Good f w) → After def rows_claimed IsOf v Goes w → Good f w
    after_as Q f (went rows left) w Goes q none on h = on rows left q h
    after_as Q f (ended last) w Goes q none on e = subst (Good f) (sym e) (none q)

    -- the children from the n-th on, with good rows
    abbrev pub AreAdded : Fragment → ℕ → List Child → Type 0
    AreAdded f n [] = n ≡ length (added_children f)
    AreAdded f n (c ∷ cs) = (slice_get (added_children f) n ≡ Some c.tree) × Whole c.tree c.rows × AreAdded f (n + 1) cs

    whole_good : (f : Fragment) (w : Walk Claim) → Formed f → TakenAs (Whole f) w → Good f w
    whole_good f (went rows left) formed q = q
    whole_good f (ended last) formed q = laws.none_whole f formed q

    closes_good : (b : Bool) (path : Path) (number : Option ℕ) (f : Fragment) (n : ℕ) (rows : Rows) (xs : List Claim) (w : Walk Claim) → Formed f → is_scope def f ≡ b
        → n ≡ length (added_children f) → Part f n rows → Closes def rows_claimed IsOf b path number f n rows xs w → Good f w
    closes_good true path number f n rows xs w formed scope all part h =
        whole_good f w formed (takes_as (Whole f) (at_step path number f (n + 1) (last_cases def f rows) 0) xs w (λ c is. laws.close path number f n rows c formed all scope part is) h)
    closes_good false path number f n rows xs w formed scope all part e = subst (Good f) (sym e) (laws.stay f n rows formed all scope part)

    adds_good : (path : Path) (number : Option ℕ) (f : Fragment) (n : ℕ) (rows : Rows) (children : List Child) (xs : List Claim) (w : Walk Claim) → Formed f
        → AreAdded f n children → Part f n rows → Adds def rows_claimed IsOf path number f n rows children xs w → Good f w
    adds_good path number f n rows [] xs w formed all part h = closes_good (is_scope def f) path number f n rows xs w formed refl all part h
    adds_good path number f n rows (c ∷ children) xs w formed (at, whole, more) part (v, takes, after) =
        after_as (Part f (n + 1)) f v w (λ made left u. Adds def rows_claimed IsOf path number f (n + 1) made children left u)
        (takes_as (Part f (n + 1)) (at_step path number f (n + 1) (next_cases def f n c.tree rows c.rows) (length rows * length c.rows)) xs v (λ claim is. laws.next path number f c.tree n rows c.rows claim formed at part whole is) takes)
        (laws.none_part f (n + 1) formed)
        (λ made left q goes. adds_good path number f (n + 1) made children left w formed more q goes)
        after

    pub makes_good : (path : Path) (number : Option ℕ) (f : Fragment) (children : List Child) (xs : List Claim) (w : Walk Claim) → Formed f → AreAdded f 0 children
        → Makes def rows_claimed IsOf path number f children xs w → Good f w
    makes_good path number f children xs w formed all (v, takes, after) =
        after_as (Part f 0) f v w (λ rows left u. Adds def rows_claimed IsOf path number f 0 rows children left u)
        (takes_as (Part f 0) (at_step path number f 0 (first_cases def f) 0) xs v (λ c is. laws.first path number f c formed is) takes)
        (laws.none_part f 0 formed)
        (λ rows left q goes. adds_good path number f 0 rows children left w formed all q goes)
        after

    -- ---- children

    -- these trees, each with good rows
    abbrev AreKids : List Fragment → List Child → Type 0
    AreKids [] [] = Unit {0}
    AreKids [] (c ∷ cs) = ⊥
    AreKids (t ∷ ts) [] = ⊥
    AreKids (t ∷ ts) (c ∷ cs) = (c.tree ≡ t) × Whole c.tree c.rows × AreKids ts cs

    abbrev GoodBelow : List Fragment → WalkBelow Claim → Type 0
    GoodBelow ts (went_all children left) = AreKids ts children
    GoodBelow ts (ended_below last) = (k : ℕ) × (t : Fragment) × (slice_get ts k ≡ Some t) × Closed t

    kids_more : (ts : List Fragment) (cs : List Child) (t : Fragment) (rows : Rows) → AreKids ts cs → Whole t rows → AreKids (ts ++ t ∷ []) (cs ++ record { tree = t; rows = rows } ∷ [])
    kids_more [] [] t rows h w = (refl, w, tt)
    kids_more [] (c ∷ cs) t rows h w = absurd h
    kids_more (s ∷ ts) [] t rows h w = absurd h
    kids_more (s ∷ ts) (c ∷ cs) t rows (e, g, h) w = (e, g, kids_more ts cs t rows h w)

    follows_good : (ts : List Fragment) (t : Fragment) (cs : List Child) (v : Walk Claim) (b : WalkBelow Claim) → AreKids ts cs → Good t v → Follows def rows_claimed IsOf t cs v b → GoodBelow (ts ++ t ∷ []) b
    follows_good ts t cs (went rows left) b h g e = subst (GoodBelow (ts ++ t ∷ [])) (sym e) (kids_more ts cs t rows h g)
    follows_good ts t cs (ended last) b h g e = subst (GoodBelow (ts ++ t ∷ [])) (sym e) (length ts, t, slice_get-end ts t, g)

    front_good : (ts : List Fragment) (t : Fragment) (a b : WalkBelow Claim) (Goes : List Claim → Walk Claim → Type 0) → GoodBelow ts a → ((left : List Claim) (v : Walk Claim) → Goes left v → Good t v)
        → AfterFront def rows_claimed IsOf t a Goes b → GoodBelow (ts ++ t ∷ []) b
    front_good ts t (went_all cs left) b Goes h good (v, goes, follows) = follows_good ts t cs v b h (good left v goes) follows
    front_good ts t (ended_below last) b Goes (k, s, at, closed) good e = subst (GoodBelow (ts ++ t ∷ [])) (sym e) (k, s, slice_get-front ts (t ∷ []) k s at, closed)

    precedes_good : (e : Fragment) (rows : Rows) (ts : List Fragment) (c b : WalkBelow Claim) → Whole e rows → GoodBelow ts c → Precedes def rows_claimed IsOf (record { tree = e; rows = rows }) c b → GoodBelow (e ∷ ts) b
    precedes_good e rows ts (went_all cs left) b w h d = subst (GoodBelow (e ∷ ts)) (sym d) (refl, w, h)
    precedes_good e rows ts (ended_below last) b w (k, t, at, closed) d = subst (GoodBelow (e ∷ ts)) (sym d) (suc k, t, at, closed)

    first_good : (e : Fragment) (ts : List Fragment) (v : Walk Claim) (b : WalkBelow Claim) (Goes : List Claim → WalkBelow Claim → Type 0) → Good e v → ((left : List Claim) (c : WalkBelow Claim) → Goes left c → GoodBelow ts c)
        → AfterFirst def rows_claimed IsOf e v Goes b → GoodBelow (e ∷ ts) b
    first_good e ts (went rows left) b Goes g good (c, goes, precedes) = precedes_good e rows ts c b g (good left c goes) precedes
    first_good e ts (ended last) b Goes g good d = subst (GoodBelow (e ∷ ts)) (sym d) (0, e, refl, g)

    -- the kids of an operator are what it adds
    added_from : (f : Fragment) (n : ℕ) (front ts : List Fragment) (cs : List Child) → added_children f ≡ front ++ ts → n ≡ length front → AreKids ts cs → AreAdded f n cs
    added_from f n front [] [] e m h = m ∙ sym (ap length (e ∙ append-nil front))
    added_from f n front [] (c ∷ cs) e m h = absurd h
    added_from f n front (t ∷ ts) [] e m h = absurd h
    added_from f n front (t ∷ ts) (c ∷ cs) e m (d, w, h) = (
      ap₂ (λ l k. slice_get l k) e m ∙ slice_get-middle front t ts ∙ ap Some (sym d),
      w,
      added_from f (n + 1) (front ++ t ∷ []) ts cs (e ∙ sym (append_assoc front (t ∷ []) ts)) (longer front t n m) h,
    )
      where
        longer : (front : List Fragment) (t : Fragment) (n : ℕ) → n ≡ length front → n + 1 ≡ length (front ++ t ∷ [])
        longer front t n m = let d = length-append front (t ∷ []) in omega (arith, m, d)

    all_good : (f : Fragment) (b : WalkBelow Claim) (w : Walk Claim) (Goes : List Child → List Claim → Walk Claim → Type 0) → Formed f → GoodBelow (children_of f) b
        → ((cs : List Child) (left : List Claim) → AreKids (children_of f) cs → Goes cs left w → Good f w) → AfterAll def rows_claimed IsOf b Goes w → Good f w
    all_good f (went_all cs left) w Goes formed h on goes = on cs left h goes
    all_good f (ended_below last) w Goes formed (k, t, at, closed) on e = subst (Good f) (sym e) (laws.closed_up f t k formed at closed)

    operator_good : (path : Path) (f : Fragment) (b : WalkBelow Claim) (w : Walk Claim) → Formed f → added_children f ≡ children_of f → GoodBelow (children_of f) b
        → AfterAll def rows_claimed IsOf b (λ children left u. Makes def rows_claimed IsOf path None f children left u) w → Good f w
    operator_good path f b w formed same h after =
        all_good f b w (λ children left u. Makes def rows_claimed IsOf path None f children left u) formed h
        (λ cs left kids goes. makes_good path None f cs left w formed (added_from f 0 [] (children_of f) cs same refl kids) goes) after

    -- ---- lists

    lists_good : (path : Path) (n : ℕ) (f : Fragment) (children : List Child) (xs : List Claim) (w : Walk Claim) → Formed f → AreKids (children_of f) children
        → Lists def rows_claimed IsOf path n f children xs w → Good f w
    lists_good path n (ending l u) children xs w formed kids h = makes_good path (Some n) (ending l u) [] xs w formed refl h
    lists_good path n (cell l e r) [] xs w formed kids h = absurd h
    lists_good path n (cell l e r) (c ∷ children) xs w formed (d, whole, kids) (v, lists, after) =
        on v (lists_good path (n + 1) r children xs v (laws.formed_rest l e r formed) kids lists) after
      where
        on : (v : Walk Claim) → Good r v → After def rows_claimed IsOf v (λ rows left u. Makes def rows_claimed IsOf path (Some n) (cell l e r) (c ∷ record { tree = r; rows = rows } ∷ []) left u) w → Good (cell l e r) w
        on (went rows left) g makes = makes_good path (Some n) (cell l e r) (c ∷ record { tree = r; rows = rows } ∷ []) left w formed (ap Some (sym d), whole, (refl, g, refl)) makes
        on (ended last) g e' = subst (Good (cell l e r)) (sym e') (laws.closed_rest l e r formed g)
    lists_good path n (hole p) children xs w formed kids h = absurd h
    lists_good path n (operator o) children xs w formed kids h = absurd h
    lists_good path n (with_child f t) children xs w formed kids h = absurd h
    lists_good path n (with_name f m) children xs w formed kids h = absurd h
    lists_good path n (with_number f m) children xs w formed kids h = absurd h
    lists_good path n (with_text f m) children xs w formed kids h = absurd h
    lists_good path n anything children xs w formed kids h = absurd h
    lists_good path n (observed f) children xs w formed kids h = absurd h

    -- ---- the tree

    mutual
      pub walks_good : (path : Path) (f : Fragment) (xs : List Claim) (w : Walk Claim) → Formed f → Walks def rows_claimed IsOf path f xs w → Good f w
      walks_good path (hole p) xs w formed h = makes_good path None (hole p) [] xs w formed refl h
      walks_good path (ending l u) xs w formed h = lists_good path 0 (ending l u) [] xs w formed tt h
      walks_good path (cell l e r) xs w formed (v, b, walks, first, after) =
          let each = laws.formed_children (cell l e r) formed in
          all_good (cell l e r) b w (λ children left u. Lists def rows_claimed IsOf path 0 (cell l e r) children left u) formed
          (first_good e (children_of r) v b (λ left c. WalksBelow def rows_claimed IsOf path 1 r left c) (walks_good (path ++ 0 ∷ []) e xs v each.0 walks)
          (λ left c below. below_good path 1 r left c each.1 below) first)
          (λ cs left kids goes. lists_good path 0 (cell l e r) cs left w formed kids goes) after
      walks_good path (operator o) xs w formed h = makes_good path None (operator o) [] xs w formed refl h
      walks_good path (with_child f t) xs w formed (a, b, below, front, after) =
          let each = each_front Formed (children_of f) (t ∷ []) (laws.formed_children (with_child f t) formed) in
          let last = each_back Formed (children_of f) (t ∷ []) (laws.formed_children (with_child f t) formed) in
          operator_good path (with_child f t) b w formed refl
          (front_good (children_of f) t a b (λ left v. Walks def rows_claimed IsOf (path ++ length (children_of f) ∷ []) t left v) (below_good path 0 f xs a each below)
          (λ left v walks. walks_good (path ++ length (children_of f) ∷ []) t left v last.0 walks) front)
          after
      walks_good path (with_name f n) xs w formed (b, below, after) = operator_good path (with_name f n) b w formed refl (below_good path 0 f xs b (laws.formed_children (with_name f n) formed) below) after
      walks_good path (with_number f n) xs w formed (b, below, after) = operator_good path (with_number f n) b w formed refl (below_good path 0 f xs b (laws.formed_children (with_number f n) formed) below) after
      walks_good path (with_text f n) xs w formed (b, below, after) = operator_good path (with_text f n) b w formed refl (below_good path 0 f xs b (laws.formed_children (with_text f n) formed) below) after
      walks_good path anything xs w formed h = absurd h
      walks_good path (observed f) xs w formed h = absurd h

      below_good : (path : Path) (n : ℕ) (f : Fragment) (xs : List Claim) (b : WalkBelow Claim) → AllByRecursion Formed (children_of f) → WalksBelow def rows_claimed IsOf path n f xs b → GoodBelow (children_of f) b
      below_good path n (hole p) xs b each e = subst (GoodBelow []) (sym e) tt
      below_good path n (ending l u) xs b each e = subst (GoodBelow []) (sym e) tt
      below_good path n (cell l e r) xs b each (v, walks, first) =
          first_good e (children_of r) v b (λ left c. WalksBelow def rows_claimed IsOf path (n + 1) r left c) (walks_good (path ++ n ∷ []) e xs v each.0 walks)
          (λ left c below. below_good path (n + 1) r left c each.1 below) first
      below_good path n (operator o) xs b each e = subst (GoodBelow []) (sym e) tt
      below_good path n (with_child f t) xs b each (a, below, front) =
          front_good (children_of f) t a b (λ left v. Walks def rows_claimed IsOf (path ++ length (children_of f) ∷ []) t left v)
          (below_good path n f xs a (each_front Formed (children_of f) (t ∷ []) each) below)
          (λ left v walks. walks_good (path ++ length (children_of f) ∷ []) t left v (each_back Formed (children_of f) (t ∷ []) each).0 walks) front
      below_good path n (with_name f m) xs b each h = below_good path n f xs b each h
      below_good path n (with_number f m) xs b each h = below_good path n f xs b each h
      below_good path n (with_text f m) xs b each h = below_good path n f xs b each h
      below_good path n anything xs b each h = absurd h
      below_good path n (observed f) xs b each h = absurd h
