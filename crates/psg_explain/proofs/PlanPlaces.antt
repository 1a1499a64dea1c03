-- The steps of a tree's plan are the steps of the tree, in their order.
use Rattle.std.proofs.Common.{◌≡◌, ℕ, suc, ◌+◌, ◌-◌, Bool, true, false, cond, List, [], ◌∷◌, ◌++◌, map, length, length-append, Option, Some, None, refl, ap, ap₂, sym, ◌∙◌, append_assoc, append-nil, arith}
use Rattle.std.proofs.lemmas.List.{map-append}
use Rattle.psg_terms.specs.Terms.{Term}
use Rattle.psg_grammar.specs.declared.types.Definition.{Definition}
use Rattle.psg_grammar.specs.Fragments.{Fragment, hole, ending, cell, operator, with_child, with_name, with_number, with_text, anything, observed, children_of}
use Rattle.psg_grammar.specs.Lookups.{is_scope}
use Rattle.psg_grammar.specs.Paths.{Path}
use Rattle.psg_grammar.specs.Steps.{Place, children_count, list_steps, own_steps, steps_below, steps_of, steps_up_to}
use Rattle.psg_explain.specs.declared.refutation.Claim.{Claim}
use Rattle.psg_explain.specs.Orders.{AreFirstSteps, place_of, told_at, told_of}
use Rattle.psg_explain.specs.Plans.{Below, Done, Flows, Step, adding, at_of, closing, halted, listing, making, planned, planned_below, rows_claimed}
use Rattle.psg_explain.specs.Refutations.{IsClaim}
use Rattle.psg_explain.specs.Walks.{At, ComesTo, went, ended}
use Rattle.psg_explain.proofs.PlanLaws.{IsFront, IsRest, IsWalked, Matches, below_matches}

abbrev pub place_in : Step → Place
place_in s = record { path = s.path; part = s.part; step = s.number }

abbrev places : List Step → List Place
places steps = map place_in steps

module _ (def : Definition) where
  module _ (path : Path) (c : Option ℕ) (f : Fragment) where
    abbrev at_number : ℕ → Place
    at_number n = record { path = path; part = f; step = n }

    one_up : (n : ℕ) → steps_up_to path f (n + 1) ≡ steps_up_to path f n ++ at_number (n + 1) ∷ []
    one_up n =
        let e : n + 1 ≡ suc n = omega arith in
        ap (steps_up_to path f) e ∙ ap (λ (k : ℕ). steps_up_to path f n ++ at_number k ∷ []) (sym e)

    closed_up : (b : Bool) (n before : ℕ) → steps_up_to path f n ++ places (closing def b path c f n before) ≡ steps_up_to path f (cond b (n + 1) n)
    closed_up true n before = sym (one_up n)
    closed_up false n before = append-nil (steps_up_to path f n)

    added_up : (ds : List Done) (n before : ℕ) → steps_up_to path f n ++ places (adding def path c f n before ds) ≡ steps_up_to path f (cond (is_scope def f) (n + length ds + 1) (n + length ds))
    added_up [] n before =
        let e : n ≡ n + length {A = Done} [] = omega arith in
        closed_up (is_scope def f) n before ∙ ap (λ (k : ℕ). steps_up_to path f (cond (is_scope def f) (k + 1) k)) e
    added_up (d ∷ ds) n before =
        let k = added_up ds (n + 1) (before + 1) in
        let e : n + 1 + length ds ≡ n + length (d ∷ ds) = omega arith in
        sym (append_assoc (steps_up_to path f n) (at_number (n + 1) ∷ []) (places (adding def path c f (n + 1) (before + 1) ds)))
        ∙ ap (λ (l : List Place). l ++ places (adding def path c f (n + 1) (before + 1) ds)) (sym (one_up n)) ∙ k
        ∙ ap (λ (m : ℕ). steps_up_to path f (cond (is_scope def f) (m + 1) m)) e

    pub made_places : (base : ℕ) (ds : List Done) → length ds ≡ children_count f → places (making def base path c f ds) ≡ own_steps def path f
    made_places base ds e =
        let k : 0 + length ds ≡ children_count f = omega (arith, e) in
        added_up ds 0 base ∙ ap (λ (m : ℕ). steps_up_to path f (cond (is_scope def f) (m + 1) m)) k

  pub listed_places : (f : Fragment) (base : ℕ) (path : Path) (n : ℕ) (ds : List Done) → Matches f ds → places (listing def base path n f ds) ≡ list_steps def path f
  listed_places (ending l u) base path n ds h = made_places path (Some n) (ending l u) base [] refl
  listed_places (cell l e r) base path n [] h = absurd h
  listed_places (cell l e r) base path n (d ∷ ds) h =
      let front : List Step = listing def base path (n + 1) r ds in
      let last : Done = record { tree = r; place = base + length front - 1 } in
      map-append place_in front (making def (base + length front) path (Some n) (cell l e r) (d ∷ last ∷ []))
      ∙ ap₂ (λ (a b : List Place). a ++ b) (listed_places r base path (n + 1) ds h) (made_places path (Some n) (cell l e r) (base + length front) (d ∷ last ∷ []) refl)
  listed_places (hole p) base path n ds h = absurd h
  listed_places (operator o) base path n ds h = absurd h
  listed_places (with_child f t) base path n ds h = absurd h
  listed_places (with_name f m) base path n ds h = absurd h
  listed_places (with_number f m) base path n ds h = absurd h
  listed_places (with_text f m) base path n ds h = absurd h
  listed_places anything base path n ds h = absurd h
  listed_places (observed f) base path n ds h = absurd h

  -- an operator has so many children
  front_many : (f : Fragment) (base : ℕ) (path : Path) (n : ℕ) → IsFront f → length (planned_below def base path n f).children ≡ length (children_of f)
  front_many (operator o) base path n h = refl
  front_many (with_child f t) base path n (h, k) =
      let b : Below = planned_below def base path n f in
      let more : List Step = planned def (base + length b.steps) (path ++ length (children_of f) ∷ []) t in
      let last : Done = record { tree = t; place = base + length b.steps + length more - 1 } in
      let a = length-append b.children (last ∷ []) in
      let m = length-append (children_of f) (t ∷ []) in
      let e = front_many f base path n h in
      omega (arith, a, m, e)
  front_many (with_name f m) base path n h = front_many f base path n h
  front_many (with_number f m) base path n h = front_many f base path n h
  front_many (with_text f m) base path n h = front_many f base path n h
  front_many (hole p) base path n h = absurd h
  front_many (ending l u) base path n h = absurd h
  front_many (cell l e r) base path n h = absurd h
  front_many anything base path n h = absurd h
  front_many (observed f) base path n h = absurd h

  both : (a b : List Step) (p q : List Place) → places a ≡ p → places b ≡ q → places (a ++ b) ≡ p ++ q
  both a b p q e k = map-append place_in a b ∙ ap₂ (λ (x y : List Place). x ++ y) e k

  mutual
    pub planned_places : (f : Fragment) (base : ℕ) (path : Path) → IsWalked f → places (planned def base path f) ≡ steps_of def path f
    planned_places (hole p) base path h = made_places path None (hole p) base [] refl
    planned_places (ending l u) base path h = made_places path (Some 0) (ending l u) base [] refl
    planned_places (operator o) base path h = made_places path None (operator o) base [] refl
    planned_places (cell l e r) base path (h, k) =
        let first : List Step = planned def base (path ++ 0 ∷ []) e in
        let b : Below = planned_below def (base + length first) path 1 r in
        let ds : List Done = record { tree = e; place = base + length first - 1 } ∷ b.children in
        both (first ++ b.steps) (listing def (base + length (first ++ b.steps)) path 0 (cell l e r) ds) (steps_of def (path ++ 0 ∷ []) e ++ steps_below def path 1 r) (list_steps def path (cell l e r))
        (both first b.steps (steps_of def (path ++ 0 ∷ []) e) (steps_below def path 1 r) (planned_places e base (path ++ 0 ∷ []) h) (rest_places r (base + length first) path 1 k))
        (listed_places (cell l e r) (base + length (first ++ b.steps)) path 0 ds (below_matches def (base + length first) path 1 r k))
    planned_places (with_child f t) base path (h, k) =
        let b : Below = planned_below def base path 0 f in
        let pt : Path = path ++ length (children_of f) ∷ [] in
        let more : List Step = planned def (base + length b.steps) pt t in
        let all : Below = planned_below def base path 0 (with_child f t) in
        both (b.steps ++ more) (making def (base + length all.steps) path None (with_child f t) all.children) (steps_below def path 0 f ++ steps_of def pt t) (own_steps def path (with_child f t))
        (both b.steps more (steps_below def path 0 f) (steps_of def pt t) (front_places f base path 0 h) (planned_places t (base + length b.steps) pt k))
        (made_places path None (with_child f t) (base + length all.steps) all.children (front_many (with_child f t) base path 0 (h, k)))
    planned_places (with_name f m) base path h =
        let b : Below = planned_below def base path 0 f in
        both b.steps (making def (base + length b.steps) path None (with_name f m) b.children) (steps_below def path 0 f) (own_steps def path (with_name f m)) (front_places f base path 0 h)
        (made_places path None (with_name f m) (base + length b.steps) b.children (front_many f base path 0 h))
    planned_places (with_number f m) base path h =
        let b : Below = planned_below def base path 0 f in
        both b.steps (making def (base + length b.steps) path None (with_number f m) b.children) (steps_below def path 0 f) (own_steps def path (with_number f m)) (front_places f base path 0 h)
        (made_places path None (with_number f m) (base + length b.steps) b.children (front_many f base path 0 h))
    planned_places (with_text f m) base path h =
        let b : Below = planned_below def base path 0 f in
        both b.steps (making def (base + length b.steps) path None (with_text f m) b.children) (steps_below def path 0 f) (own_steps def path (with_text f m)) (front_places f base path 0 h)
        (made_places path None (with_text f m) (base + length b.steps) b.children (front_many f base path 0 h))
    planned_places anything base path h = absurd h
    planned_places (observed f) base path h = absurd h

    front_places : (f : Fragment) (base : ℕ) (path : Path) (n : ℕ) → IsFront f → places (planned_below def base path n f).steps ≡ steps_below def path n f
    front_places (operator o) base path n h = refl
    front_places (with_child f t) base path n (h, k) =
        let b : Below = planned_below def base path n f in
        let pt : Path = path ++ length (children_of f) ∷ [] in
        both b.steps (planned def (base + length b.steps) pt t) (steps_below def path n f) (steps_of def pt t) (front_places f base path n h) (planned_places t (base + length b.steps) pt k)
    front_places (with_name f m) base path n h = front_places f base path n h
    front_places (with_number f m) base path n h = front_places f base path n h
    front_places (with_text f m) base path n h = front_places f base path n h
    front_places (hole p) base path n h = absurd h
    front_places (ending l u) base path n h = absurd h
    front_places (cell l e r) base path n h = absurd h
    front_places anything base path n h = absurd h
    front_places (observed f) base path n h = absurd h

    rest_places : (f : Fragment) (base : ℕ) (path : Path) (n : ℕ) → IsRest f → places (planned_below def base path n f).steps ≡ steps_below def path n f
    rest_places (ending l u) base path n h = refl
    rest_places (cell l e r) base path n (h, k) =
        let first : List Step = planned def base (path ++ n ∷ []) e in
        both first (planned_below def (base + length first) path (n + 1) r).steps (steps_of def (path ++ n ∷ []) e) (steps_below def path (n + 1) r) (planned_places e base (path ++ n ∷ []) h)
        (rest_places r (base + length first) path (n + 1) k)
    rest_places (hole p) base path n h = absurd h
    rest_places (operator o) base path n h = absurd h
    rest_places (with_child f t) base path n h = absurd h
    rest_places (with_name f m) base path n h = absurd h
    rest_places (with_number f m) base path n h = absurd h
    rest_places (with_text f m) base path n h = absurd h
    rest_places anything base path n h = absurd h
    rest_places (observed f) base path n h = absurd h

  -- ---- claims

  -- the first of these steps, up to that of the last claim
  pub record AreTold (steps : List Step) (claims : List Claim) (last : At) : Type 0 where
    pub front : List Place
    pub rest : List Place
    pub all : places steps ≡ front ++ place_of last ∷ rest
    pub told : map told_at claims ≡ map told_of (front ++ place_of last ∷ [])

  told_one : (rows : List (List (List Term))) (s : Step) (x : Claim) → IsClaim def (at_of def rows s) x → told_at x ≡ told_of (place_in s)
  told_one rows s x is = ap₂ pair is.path is.step
    where
      pair : Path → ℕ → Path × ℕ
      pair p n = (p, n)

  nothing_left : (at : At) (rows : List (List Term)) (left : List Claim) (last : At) → ComesTo def rows_claimed (IsClaim def) at rows left (ended last) → (left ≡ []) × (last ≡ at)
  nothing_left at [] left last (e, k) = let d : last ≡ at = cc in (e, d)
  nothing_left at (r ∷ rows) left last h = absurd (cc)

  something_left : (at : At) (rows : List (List Term)) (left : List Claim) (more : List (List Term)) (rest : List Claim) → ComesTo def rows_claimed (IsClaim def) at rows left (went more rest) → rest ≡ left
  something_left at [] left more rest (e, k) = absurd (cc)
  something_left at (r ∷ rows) left more rest h = let d : rest ≡ left = cc in d

  pub flows_told : (steps : List Step) (rows : List (List (List Term))) (claims : List Claim) (last : At) → Flows def rows_claimed (IsClaim def) rows steps claims (halted last) → AreTold steps claims last
  flows_told [] rows claims last h = absurd (cc)
  flows_told (s ∷ steps) rows [] last (v, t, o) = absurd t
  flows_told (s ∷ steps) rows (x ∷ left) last (went more rest, (is, c), o) =
      let it = flows_told steps (rows ++ more ∷ []) rest last o in
      let same = something_left (at_of def rows s) x.rows left more rest c in
      record {
        front = place_in s ∷ it.front;
        rest = it.rest;
        all = ap (λ (l : List Place). place_in s ∷ l) it.all;
        told = ap₂ (λ (a : Path × ℕ) (l : List (Path × ℕ)). a ∷ l) (told_one rows s x is) (ap (map told_at) (sym same) ∙ it.told);
      }
  flows_told (s ∷ steps) rows (x ∷ left) last (ended other, (is, c), o) =
      let (none, e) = nothing_left (at_of def rows s) x.rows left other c in
      let d : last ≡ other = cc in
      let here : place_of last ≡ place_in s = ap place_of (d ∙ e) in
      record {
        front = [];
        rest = places steps;
        all = ap (λ (p : Place). p ∷ places steps) (sym here);
        told = ap₂ (λ (a : Path × ℕ) (l : List (Path × ℕ)). a ∷ l) (told_one rows s x is ∙ ap told_of (sym here)) (ap (map told_at) none);
      }

  pub claims_first : (path : Path) (f : Fragment) (claims : List Claim) (last : At) → IsWalked f → Flows def rows_claimed (IsClaim def) [] (planned def 0 path f) claims (halted last) → AreFirstSteps def path f claims last
  claims_first path f claims last walked h =
      let it = flows_told (planned def 0 path f) [] claims last h in
      record { front = it.front; rest = it.rest; steps = sym (planned_places f 0 path walked) ∙ it.all; told = it.told }
