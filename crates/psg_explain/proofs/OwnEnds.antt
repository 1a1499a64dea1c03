-- Claims on a node whose children are open end at a step of the node itself, since those on an open tree end nowhere.
use Rattle.std.proofs.Common.{◌≡◌, ◌↔◌, ℕ, ◌+◌, ◌*◌, Bool, true, false, List, [], ◌∷◌, ◌++◌, length, Option, Some, None, refl, sym, subst}
use Rattle.std.specs.List.{AllByRecursion}
use Rattle.psg_grammar.specs.declared.types.Kind.{Kind}
use Rattle.psg_grammar.specs.declared.types.Definition.{Definition}
use Rattle.psg_grammar.specs.Fragments.{Fragment, hole, ending, cell, operator, with_child, with_name, with_number, with_text, anything, observed, children_of}
use Rattle.psg_grammar.specs.Legal.{IsCompletable}
use Rattle.psg_grammar.specs.Lookups.{is_scope}
use Rattle.psg_grammar.specs.Open.{IsOpen}
use Rattle.psg_grammar.specs.Paths.{Path}
use Rattle.psg_grammar.specs.Sound.{IsSound}
use Rattle.psg_grammar.specs.WellFormed.{WellFormed}
use Rattle.psg_cache.specs.Notes.{IsFormed}
use Rattle.psg_cache.proofs.ChildLaws.{formed_below}
use Rattle.psg_cache.proofs.FormedTrees.{node_formed}
use Rattle.psg_explain.specs.declared.refutation.Claim.{Claim}
use Rattle.psg_explain.specs.Explanations.{IsFirstCulprit}
use Rattle.psg_explain.specs.Given.{first_cases, next_cases, last_cases}
use Rattle.psg_explain.specs.Refutations.{ClaimTo, IsClaim, rows_claimed}
use Rattle.psg_explain.specs.Walks.{At, Child, Walk, WalkBelow, went, ended, went_all, ended_below, ComesTo, Takes, After, AfterAll, AfterFirst, AfterFront, Adds, Closes, Makes, Lists, Precedes, Follows, Walks, WalksBelow}
use Rattle.psg_explain.proofs.ExplainLaws.{open_children}
use Rattle.psg_explain.proofs.Theorem.{walked_out}
use Rattle.psg_explain.proofs.Walking.{Rows, at_step}

each_front : (P : Fragment → Type 0) (xs ys : List Fragment) → AllByRecursion P (xs ++ ys) → AllByRecursion P xs
each_front P [] ys h = tt
each_front P (x ∷ xs) ys (p, h) = (p, each_front P xs ys h)

each_back : (P : Fragment → Type 0) (xs ys : List Fragment) → AllByRecursion P (xs ++ ys) → AllByRecursion P ys
each_back P [] ys h = h
each_back P (x ∷ xs) ys (p, h) = each_back P xs ys h

module _ (def : Definition) where
  abbrev IsOf : At → Claim → Type 0
  IsOf = IsClaim def

  -- ---- the steps of the node itself

  -- where the walk ends, it is at a step of the node at the path
  abbrev EndsAt : Path → Walk Claim → Type 0
  EndsAt path (went rows left) = Unit {0}
  EndsAt path (ended last) = last.path ≡ path

  comes_at : (at : At) (rows : Rows) (left : List Claim) (w : Walk Claim) → ComesTo def rows_claimed IsOf at rows left w → EndsAt at.path w
  comes_at at [] left w (none, e) = subst (EndsAt at.path) (sym e) refl
  comes_at at (row ∷ rows) left w e = subst (EndsAt at.path) (sym e) tt

  takes_at : (at : At) (xs : List Claim) (w : Walk Claim) → Takes def rows_claimed IsOf at xs w → EndsAt at.path w
  takes_at at [] w h = absurd h
  takes_at at (c ∷ left) w (is, comes) = comes_at at c.rows left w comes

  after_at : (path : Path) (v w : Walk Claim) (Goes : Rows → List Claim → Walk Claim → Type 0) → EndsAt path v
      → ((rows : Rows) (left : List Claim) → Goes rows left w → EndsAt path w) → After def rows_claimed IsOf v Goes w → EndsAt path w
  after_at path (went rows left) w Goes here on h = on rows left h
  after_at path (ended last) w Goes here on e = subst (EndsAt path) (sym e) here

  closes_at : (b : Bool) (path : Path) (number : Option ℕ) (f : Fragment) (n : ℕ) (rows : Rows) (xs : List Claim) (w : Walk Claim)
      → Closes def rows_claimed IsOf b path number f n rows xs w → EndsAt path w
  closes_at true path number f n rows xs w h = takes_at (at_step path number f (n + 1) (last_cases def f rows) 0) xs w h
  closes_at false path number f n rows xs w e = subst (EndsAt path) (sym e) tt

  adds_at : (path : Path) (number : Option ℕ) (f : Fragment) (n : ℕ) (rows : Rows) (children : List Child) (xs : List Claim) (w : Walk Claim)
      → Adds def rows_claimed IsOf path number f n rows children xs w → EndsAt path w
  adds_at path number f n rows [] xs w h = closes_at (is_scope def f) path number f n rows xs w h
  adds_at path number f n rows (c ∷ children) xs w (v, takes, after) =
      after_at path v w (λ made left u. Adds def rows_claimed IsOf path number f (n + 1) made children left u)
      (takes_at (at_step path number f (n + 1) (next_cases def f n c.tree rows c.rows) (length rows * length c.rows)) xs v takes)
      (λ made left goes. adds_at path number f (n + 1) made children left w goes)
      after

  makes_at : (path : Path) (number : Option ℕ) (f : Fragment) (children : List Child) (xs : List Claim) (w : Walk Claim)
      → Makes def rows_claimed IsOf path number f children xs w → EndsAt path w
  makes_at path number f children xs w (v, takes, after) =
      after_at path v w (λ rows left u. Adds def rows_claimed IsOf path number f 0 rows children left u)
      (takes_at (at_step path number f 0 (first_cases def f) 0) xs v takes)
      (λ rows left goes. adds_at path number f 0 rows children left w goes)
      after

  lists_at : (path : Path) (n : ℕ) (f : Fragment) (children : List Child) (xs : List Claim) (w : Walk Claim)
      → Lists def rows_claimed IsOf path n f children xs w → EndsAt path w
  lists_at path n (ending l u) children xs w h = makes_at path (Some n) (ending l u) [] xs w h
  lists_at path n (cell l e r) [] xs w h = absurd h
  lists_at path n (cell l e r) (c ∷ children) xs w (v, lists, after) =
      after_at path v w (λ rows left u. Makes def rows_claimed IsOf path (Some n) (cell l e r) (c ∷ record { tree = r; rows = rows } ∷ []) left u)
      (lists_at path (n + 1) r children xs v lists)
      (λ rows left goes. makes_at path (Some n) (cell l e r) (c ∷ record { tree = r; rows = rows } ∷ []) left w goes)
      after
  lists_at path n (hole p) children xs w h = absurd h
  lists_at path n (operator o) children xs w h = absurd h
  lists_at path n (with_child f t) children xs w h = absurd h
  lists_at path n (with_name f m) children xs w h = absurd h
  lists_at path n (with_number f m) children xs w h = absurd h
  lists_at path n (with_text f m) children xs w h = absurd h
  lists_at path n anything children xs w h = absurd h
  lists_at path n (observed f) children xs w h = absurd h

  -- ---- the children

  -- no claims on the tree end at a step without rows
  abbrev GoesOn : Fragment → Type 0
  GoesOn f = (path : Path) (xs : List Claim) (last : At) → ClaimTo def path f xs last → ⊥

  abbrev HasAll : WalkBelow Claim → Type 0
  HasAll (went_all children left) = Unit {0}
  HasAll (ended_below last) = ⊥

  follows_all : (t : Fragment) (cs : List Child) (path : Path) (left : List Claim) (v : Walk Claim) (b : WalkBelow Claim) → GoesOn t
      → Walks def rows_claimed IsOf path t left v → Follows def rows_claimed IsOf t cs v b → HasAll b
  follows_all t cs path left (went rows more) b on walks e = subst HasAll (sym e) tt
  follows_all t cs path left (ended last) b on walks e = absurd (on path left last walks)

  front_all : (t : Fragment) (path : Path) (a b : WalkBelow Claim) → GoesOn t → HasAll a
      → AfterFront def rows_claimed IsOf t a (λ left v. Walks def rows_claimed IsOf path t left v) b → HasAll b
  front_all t path (went_all cs left) b on all (v, walks, follows) = follows_all t cs path left v b on walks follows
  front_all t path (ended_below last) b on all e = absurd all

  precedes_all : (c : Child) (a b : WalkBelow Claim) → HasAll a → Precedes def rows_claimed IsOf c a b → HasAll b
  precedes_all c (went_all children left) b all e = subst HasAll (sym e) tt
  precedes_all c (ended_below last) b all e = absurd all

  first_all : (e : Fragment) (path : Path) (xs : List Claim) (v : Walk Claim) (b : WalkBelow Claim) (Goes : List Claim → WalkBelow Claim → Type 0) → GoesOn e
      → Walks def rows_claimed IsOf path e xs v → ((left : List Claim) (c : WalkBelow Claim) → Goes left c → HasAll c)
      → AfterFirst def rows_claimed IsOf e v Goes b → HasAll b
  first_all e path xs (went rows left) b Goes on walks more (c, goes, precedes) =
      precedes_all (record { tree = e; rows = rows }) c b (more left c goes) precedes
  first_all e path xs (ended last) b Goes on walks more d = absurd (on path xs last walks)

  below_all : (path : Path) (n : ℕ) (f : Fragment) (xs : List Claim) (b : WalkBelow Claim) → AllByRecursion GoesOn (children_of f)
      → WalksBelow def rows_claimed IsOf path n f xs b → HasAll b
  below_all path n (hole p) xs b each e = subst HasAll (sym e) tt
  below_all path n (ending l u) xs b each e = subst HasAll (sym e) tt
  below_all path n (cell l e r) xs b each (v, walks, first) =
      first_all e (path ++ n ∷ []) xs v b (λ left c. WalksBelow def rows_claimed IsOf path (n + 1) r left c) each.0 walks
      (λ left c below. below_all path (n + 1) r left c each.1 below) first
  below_all path n (operator o) xs b each e = subst HasAll (sym e) tt
  below_all path n (with_child f t) xs b each (a, below, front) =
      front_all t (path ++ length (children_of f) ∷ []) a b (each_back GoesOn (children_of f) (t ∷ []) each).0
      (below_all path n f xs a (each_front GoesOn (children_of f) (t ∷ []) each) below) front
  below_all path n (with_name f m) xs b each h = below_all path n f xs b each h
  below_all path n (with_number f m) xs b each h = below_all path n f xs b each h
  below_all path n (with_text f m) xs b each h = below_all path n f xs b each h
  below_all path n anything xs b each h = absurd h
  below_all path n (observed f) xs b each h = absurd h

  -- ---- the node

  all_at : (path : Path) (b : WalkBelow Claim) (w : Walk Claim) (Goes : List Child → List Claim → Walk Claim → Type 0) → HasAll b
      → ((cs : List Child) (left : List Claim) → Goes cs left w → EndsAt path w) → AfterAll def rows_claimed IsOf b Goes w → EndsAt path w
  all_at path (went_all cs left) w Goes all on goes = on cs left goes
  all_at path (ended_below last) w Goes all on e = absurd all

  operator_at : (path : Path) (f : Fragment) (b : WalkBelow Claim) (w : Walk Claim) → HasAll b
      → AfterAll def rows_claimed IsOf b (λ children left u. Makes def rows_claimed IsOf path None f children left u) w → EndsAt path w
  operator_at path f b w all after =
      all_at path b w (λ children left u. Makes def rows_claimed IsOf path None f children left u) all (λ cs left goes. makes_at path None f cs left w goes) after

  walks_at : (path : Path) (f : Fragment) (xs : List Claim) (w : Walk Claim) → AllByRecursion GoesOn (children_of f) → Walks def rows_claimed IsOf path f xs w → EndsAt path w
  walks_at path (hole p) xs w each h = makes_at path None (hole p) [] xs w h
  walks_at path (ending l u) xs w each h = lists_at path 0 (ending l u) [] xs w h
  walks_at path (cell l e r) xs w each (v, b, walks, first, after) =
      all_at path b w (λ children left u. Lists def rows_claimed IsOf path 0 (cell l e r) children left u)
      (first_all e (path ++ 0 ∷ []) xs v b (λ left c. WalksBelow def rows_claimed IsOf path 1 r left c) each.0 walks
      (λ left c below. below_all path 1 r left c each.1 below) first)
      (λ cs left goes. lists_at path 0 (cell l e r) cs left w goes)
      after
  walks_at path (operator o) xs w each h = makes_at path None (operator o) [] xs w h
  walks_at path (with_child f t) xs w each (a, b, below, front, after) =
      operator_at path (with_child f t) b w
      (front_all t (path ++ length (children_of f) ∷ []) a b (each_back GoesOn (children_of f) (t ∷ []) each).0
      (below_all path 0 f xs a (each_front GoesOn (children_of f) (t ∷ []) each) below) front)
      after
  walks_at path (with_name f n) xs w each (b, below, after) = operator_at path (with_name f n) b w (below_all path 0 f xs b each below) after
  walks_at path (with_number f n) xs w each (b, below, after) = operator_at path (with_number f n) b w (below_all path 0 f xs b each below) after
  walks_at path (with_text f n) xs w each (b, below, after) = operator_at path (with_text f n) b w (below_all path 0 f xs b each below) after
  walks_at path anything xs w each h = absurd h
  walks_at path (observed f) xs w each h = absurd h

  -- ---- the first culprit

  all_go_on : IsSound def → (ts : List Fragment) → AllByRecursion (IsFormed def) ts → AllByRecursion (IsOpen def) ts → AllByRecursion GoesOn ts
  all_go_on sound [] formed are = tt
  all_go_on sound (t ∷ ts) ((kind, own), formed) (is_open, are) =
      ((λ path xs last claim. walked_out def sound path t kind xs last own claim is_open), all_go_on sound ts formed are)

  pub ends_at_culprit : IsSound def → ((g : Fragment) (kind : Kind) → WellFormed def g kind → IsOpen def g ↔ IsCompletable def g)
      → (f : Fragment) → IsFormed def f → (path : Path) (node : Fragment) → IsFirstCulprit def f path node → (claims : List Claim) (last : At)
      → ClaimTo def path node claims last → last.path ≡ path
  ends_at_culprit sound same f (kind, formed) path node culprit claims last claim =
      let (own, (fits, plain)) = node_formed def f kind path node formed culprit.there in
      let are : AllByRecursion (IsOpen def) (children_of node) = open_children def f (kind, formed) path node culprit (own, (fits, plain)) same in
      walks_at path node claims (ended last) (all_go_on sound (children_of node) (formed_below def node [] own fits plain) are) claim
