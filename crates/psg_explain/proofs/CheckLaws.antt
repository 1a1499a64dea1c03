-- Claims tested one after the other.
use Rattle.std.proofs.Common.{◌≡◌, ◌↔◌, ℕ, zero, suc, ◌+◌, ◌<◌, ◌≤◌, eqb, min, Bool, true, IsTrue, List, [], ◌∷◌, ◌++◌, map, take, drop, get_or, length, Some, None, slice_get, refl, ap, sym, ◌∙◌, subst, arith}
use Rattle.std.proofs.lemmas.List.{map-append}
use Rattle.std.specs.List.{AllByRecursion}
use Rattle.psg_terms.specs.Terms.{Term}
use Rattle.psg_terms.specs.Relations.{IsIn, first, later}
use Rattle.psg_terms.specs.Signature.{Signature}
use Rattle.psg_terms.specs.Canonical.{IsCanonical}
use Rattle.psg_terms.proofs.Lists.{drop_item, drop_there, each_push, eqb-refl}
use Rattle.psg_grammar.specs.declared.types.Definition.{Definition}
use Rattle.psg_explain.specs.declared.given.Case.{Case}
use Rattle.psg_explain.specs.declared.refutation.Claim.{Claim}
use Rattle.psg_explain.specs.declared.refutation.Verdict.{Verdict}
use Rattle.psg_explain.specs.declared.stages.Stage.{Stage}
use Rattle.psg_explain.specs.Plans.{AreCanonical, Flow, Flows, Onward, Step, at_of, cases_at, halted, rows_at, rows_claimed}
use Rattle.psg_explain.specs.Refutations.{AreClaimed, AreRight, IsClaim}
use Rattle.psg_explain.specs.Sources.{AreStages, IsStage}
use Rattle.psg_explain.specs.Verdicts.{IsRight}
use Rattle.psg_explain.specs.Walks.{At, ComesTo, Walk, went, ended}

-- all rows are canonical where each one is
pub all_canonical : (sig : Signature) (rows : List (List Term)) → ((row : List Term) → IsIn row rows → IsCanonical sig row) → AreCanonical rows
all_canonical sig [] h = tt
all_canonical sig (row ∷ rows) h = ((sig, h row first), all_canonical sig rows (λ other at. h other (later at)))

-- a product that is counted up to the greatest number of 64 bits
pub capped : (p many r : ℕ) → r ≡ min p 18446744073709551615 → many < 18446744073709551616 → p ≡ many → eqb r many ≡ true
capped p many r e small same = let d : r ≡ many = omega (arith, e, small, same) in ap (λ (k : ℕ). eqb k many) d ∙ eqb-refl many

pub moved_right : (b : Bool) (rows rows' : List (List Term)) (cases cases' : List Case) (verdicts verdicts' : List Verdict) → rows' ≡ rows → cases' ≡ cases → verdicts' ≡ verdicts → IsTrue b ↔ AreRight rows' cases' verdicts' → IsTrue b ↔ AreRight rows cases verdicts
moved_right b rows rows' cases cases' verdicts verdicts' e d f h =
    subst (λ (l : List (List Term)). IsTrue b ↔ AreRight l cases verdicts) e
    (subst (λ (l : List Case). IsTrue b ↔ AreRight rows' l verdicts) d
    (subst (λ (l : List Verdict). IsTrue b ↔ AreRight rows' cases' l) f h))

-- rows by places
pub rows_past : (claims : List Claim) (n : ℕ) → length claims ≤ n → rows_at (map rows_claimed claims) n ≡ []
rows_past [] n h = refl
rows_past (x ∷ claims) zero h = absurd (omega (arith, h))
rows_past (x ∷ claims) (suc n) h = rows_past claims n (omega (arith, h))

pub rows_there : (claims : List Claim) (n : ℕ) (x : Claim) → n < length claims → x ≡ get_or claims n x → rows_at (map rows_claimed claims) n ≡ x.rows
rows_there [] n x h e = absurd (omega (arith, h))
rows_there (y ∷ claims) zero x h e = ap rows_claimed (sym e)
rows_there (y ∷ claims) (suc n) x h e = rows_there claims n x (omega (arith, h)) e

pub claims_past : (claims : List Claim) (n : ℕ) → length claims ≤ n → slice_get claims n ≡ None
claims_past [] n h = refl
claims_past (x ∷ claims) zero h = absurd (omega (arith, h))
claims_past (x ∷ claims) (suc n) h = claims_past claims n (omega (arith, h))

module _ (def : Definition) where
  -- ---- one claim

  module _ (stage : Stage) (front : List (List (List Term))) (x : Claim) (s : Step) (is : IsStage def stage s) where
    abbrev pub IsHere : Type 0
    IsHere = (x.path ≡ stage.path) × (x.cell ≡ stage.cell) × (x.step ≡ stage.step)

    pub not_here : (IsHere → ⊥) → IsClaim def (at_of def front s) x → ⊥
    not_here wrong claim = wrong (claim.path ∙ sym is.path, claim.cell ∙ sym is.cell, claim.step ∙ sym is.number)

    -- what is left to be said of a claim
    pub claim_parts : IsHere → AreClaimed def s.part s.number x.rows → (b : Bool) → IsTrue b ↔ AreRight x.rows (cases_at def front s) x.verdicts → IsTrue b ↔ IsClaim def (at_of def front s) x
    claim_parts (p, q, r) rows b right = (
      (λ t. record { path = p ∙ is.path; cell = q ∙ is.cell; step = r ∙ is.number; rows = rows; verdicts = right.0 t }),
      (λ claim. right.1 claim.verdicts),
    )

  -- the claims before it are the first ones
  pub moved : (claims : List Claim) (i : ℕ) (stage : Stage) (x : Claim) (before : List Claim) → before ≡ take i claims → (b : Bool)
      → ((s : Step) → IsStage def stage s → IsTrue b ↔ IsClaim def (at_of def (map rows_claimed before) s) x)
      → (s : Step) → IsStage def stage s → IsTrue b ↔ IsClaim def (at_of def (map rows_claimed (take i claims)) s) x
  moved claims i stage x before e b h s is = subst (λ (l : List Claim). IsTrue b ↔ IsClaim def (at_of def (map rows_claimed l) s) x) e (h s is)

  abbrev C : List (List (List Term)) → List Step → List Claim → Flow Claim → Type 0
  C rows steps claims r = Flows def rows_claimed (IsClaim def) rows steps claims r

  comes_some : (at : At) (rows : List (List Term)) (left : List Claim) (w : Walk Claim) → (rows ≡ [] → ⊥) → ComesTo def rows_claimed (IsClaim def) at rows left w → w ≡ went rows left
  comes_some at [] left w some h = absurd (some refl)
  comes_some at (r ∷ rows) left w some h = h

  some_comes : (at : At) (rows : List (List Term)) (left : List Claim) → (rows ≡ [] → ⊥) → ComesTo def rows_claimed (IsClaim def) at rows left (went rows left)
  some_comes at [] left some = absurd (some refl)
  some_comes at (r ∷ rows) left some = refl

  module _ (rows : List (List (List Term))) (s : Step) (steps : List Step) (x : Claim) (left : List Claim) where
    pub claim_next : (last : At) → IsClaim def (at_of def rows s) x → (x.rows ≡ [] → ⊥) → C (rows ++ x.rows ∷ []) steps left (halted last) ↔ C rows (s ∷ steps) (x ∷ left) (halted last)
    claim_next last is some = (
      (λ h. (went x.rows left, (is, some_comes (at_of def rows s) x.rows left some), h)),
      (λ (v, (other, c), o).
          subst (λ (w : Walk Claim). Onward def rows_claimed (IsClaim def) rows w (λ now more u. C now steps more u) (halted last)) (comes_some (at_of def rows s) x.rows left v some c) o),
    )

    pub claim_last : IsClaim def (at_of def rows s) x → x.rows ≡ [] → left ≡ [] → (last : At) × C rows (s ∷ steps) (x ∷ left) (halted last)
    claim_last is none over = (
      at_of def rows s,
      (ended (at_of def rows s), (is, subst (λ (q : List (List Term)). ComesTo def rows_claimed (IsClaim def) (at_of def rows s) q left (ended (at_of def rows s))) (sym none) (over, refl)), refl),
    )

    pub claim_over : (last : At) → x.rows ≡ [] → C rows (s ∷ steps) (x ∷ left) (halted last) → left ≡ []
    claim_over last none (v, (is, c), o) = (subst (λ (q : List (List Term)). ComesTo def rows_claimed (IsClaim def) (at_of def rows s) q left v) none c).0

    pub not_claim : (r : Flow Claim) → (IsClaim def (at_of def rows s) x → ⊥) → C rows (s ∷ steps) (x ∷ left) r → ⊥
    not_claim r none (v, (is, c), o) = none is

  pub no_claim : (rows : List (List (List Term))) (s : Step) (steps : List Step) (r : Flow Claim) → C rows (s ∷ steps) [] r → ⊥
  no_claim rows s steps r (v, t, o) = t

  pub no_step : (rows : List (List (List Term))) (claims : List Claim) (last : At) → C rows [] claims (halted last) → ⊥
  no_step rows claims last h = absurd (cc)

  -- ---- the steps that are kept

  pub stage_at : (stages : List Stage) (steps : List Step) (i : ℕ) (stage : Stage) → AreStages def stages steps → slice_get stages i ≡ Some stage → (s : Step) × (slice_get steps i ≡ Some s) × IsStage def stage s
  stage_at [] steps i stage h at = absurd (cc)
  stage_at (x ∷ stages) [] i stage h at = absurd h
  stage_at (x ∷ stages) (s ∷ steps) zero stage (is, h) at = let e : x ≡ stage = cc in (s, refl, subst (λ (y : Stage). IsStage def y s) e is)
  stage_at (x ∷ stages) (s ∷ steps) (suc i) stage (is, h) at = stage_at stages steps i stage h at

  pub stages_many : (stages : List Stage) (steps : List Step) → AreStages def stages steps → length stages ≡ length steps
  stages_many [] steps h = sym (ap length h)
  stages_many (x ∷ stages) [] h = absurd h
  stages_many (x ∷ stages) (s ∷ steps) (is, h) = ap suc (stages_many stages steps h)

  -- the first claims are right, and have rows
  pub record IsChecked (stages : List Stage) (claims : List Claim) (i : ℕ) : Type 0 where
    pub within : i ≤ length claims
    pub canonical : AllByRecursion AreCanonical (map rows_claimed (take i claims))
    pub same : (steps : List Step) → AreStages def stages steps → (last : At)
        → C (map rows_claimed (take i claims)) (drop i steps) (drop i claims) (halted last) ↔ C [] steps claims (halted last)

  pub checked_none : (stages : List Stage) (claims : List Claim) → IsChecked stages claims 0
  checked_none stages claims = record { within = omega arith; canonical = tt; same = λ steps h last. ((λ k. k), (λ k. k)) }

  module _ (stages : List Stage) (claims : List Claim) (i : ℕ) (checked : IsChecked stages claims i) (x : Claim) (here : slice_get claims i ≡ Some x) where
    abbrev front : List (List (List Term))
    front = map rows_claimed (take i claims)

    taken : take (i + 1) claims ≡ take i claims ++ x ∷ []
    taken = let e : i + 1 ≡ suc i = omega arith in ap (λ k. take k claims) e ∙ more claims i here
      where
        more : (xs : List Claim) (n : ℕ) → slice_get xs n ≡ Some x → take (suc n) xs ≡ take n xs ++ x ∷ []
        more [] n h = absurd (cc)
        more (y ∷ xs) zero h = let e : y ≡ x = cc in ap (λ (z : Claim). z ∷ []) e
        more (y ∷ xs) (suc n) h = ap (λ (l : List Claim). y ∷ l) (more xs n h)

    rows_more : map rows_claimed (take (i + 1) claims) ≡ front ++ x.rows ∷ []
    rows_more = ap (map rows_claimed) taken ∙ map-append rows_claimed (take i claims) (x ∷ [])

    -- what is said of the claim and those behind it is said of all
    at_step : (steps : List Step) (s : Step) → AreStages def stages steps → slice_get steps i ≡ Some s → (last : At)
        → C front (s ∷ drop (i + 1) steps) (x ∷ drop (i + 1) claims) (halted last) ↔ C [] steps claims (halted last)
    at_step steps s h at last =
        subst (λ (l : List Claim). C front (s ∷ drop (i + 1) steps) l (halted last) ↔ C [] steps claims (halted last)) (drop_there claims i x here)
        (subst (λ (l : List Step). C front l (drop i claims) (halted last) ↔ C [] steps claims (halted last)) (drop_there steps i s at) (checked.same steps h last))

    pub checked_next : (stage : Stage) → slice_get stages i ≡ Some stage → ((s : Step) → IsStage def stage s → IsClaim def (at_of def front s) x) → (x.rows ≡ [] → ⊥) → (steps : List Step) → AreStages def stages steps
        → IsChecked stages claims (i + 1)
    checked_next stage at claim some known known_are =
        let (s, there, is) = stage_at stages known i stage known_are at in
        let c = claim s is in
        record {
          within = inside claims i here;
          canonical = subst (AllByRecursion AreCanonical) (sym rows_more) (each_push AreCanonical front x.rows checked.canonical (all_canonical def.signature x.rows c.rows.canonical));
          same = λ steps h last. on steps h last (stage_at stages steps i stage h at);
        }
      where
        inside : (xs : List Claim) (n : ℕ) → slice_get xs n ≡ Some x → n + 1 ≤ length xs
        inside [] n h = absurd (cc)
        inside (y ∷ xs) zero h = omega arith
        inside (y ∷ xs) (suc n) h = let k = inside xs n h in omega (arith, k)

        on : (steps : List Step) → AreStages def stages steps → (last : At) → (s : Step) × (slice_get steps i ≡ Some s) × IsStage def stage s
            → C (map rows_claimed (take (i + 1) claims)) (drop (i + 1) steps) (drop (i + 1) claims) (halted last) ↔ C [] steps claims (halted last)
        on steps h last (s, there, is) =
            let (a, b) = claim_next front s (drop (i + 1) steps) x (drop (i + 1) claims) last (claim s is) some in
            let (d, e) = at_step steps s h there last in
            subst (λ (l : List (List (List Term))). C l (drop (i + 1) steps) (drop (i + 1) claims) (halted last) ↔ C [] steps claims (halted last)) (sym rows_more)
            ((λ k. d (a k)), (λ k. b (e k)))

    -- a claim that is not right
    pub checked_wrong : (stage : Stage) → slice_get stages i ≡ Some stage → ((s : Step) → IsStage def stage s → IsClaim def (at_of def front s) x → ⊥) → (steps : List Step) → AreStages def stages steps
        → (last : At) → C [] steps claims (halted last) → ⊥
    checked_wrong stage at wrong steps h last whole =
        let (s, there, is) = stage_at stages steps i stage h at in
        not_claim front s (drop (i + 1) steps) x (drop (i + 1) claims) (halted last) (wrong s is) ((at_step steps s h there last).1 whole)

    -- the last one
    pub checked_last : (stage : Stage) → slice_get stages i ≡ Some stage → ((s : Step) → IsStage def stage s → IsClaim def (at_of def front s) x) → x.rows ≡ [] → (steps : List Step) → AreStages def stages steps
        → (i + 1 ≡ length claims) ↔ ((last : At) × C [] steps claims (halted last))
    checked_last stage at claim none steps h =
        let (s, there, is) = stage_at stages steps i stage h at in (
          (λ over. let (last, k) = claim_last front s (drop (i + 1) steps) x (drop (i + 1) claims) (claim s is) none (all_dropped claims (i + 1) over) in (last, (at_step steps s h there last).0 k)),
          (λ (last, whole). dropped_all claims i here (sym (ap (λ k. drop k claims) one_more) ∙ claim_over front s (drop (i + 1) steps) x (drop (i + 1) claims) last none ((at_step steps s h there last).1 whole))),
        )
      where
        one_more : i + 1 ≡ suc i
        one_more = omega arith

        all_dropped : (xs : List Claim) (n : ℕ) → n ≡ length xs → drop n xs ≡ []
        all_dropped [] zero e = refl
        all_dropped [] (suc n) e = refl
        all_dropped (y ∷ xs) zero e = absurd (omega (arith, e))
        all_dropped (y ∷ xs) (suc n) e = all_dropped xs n (omega (arith, e))

        dropped_all : (xs : List Claim) (n : ℕ) → slice_get xs n ≡ Some x → drop (suc n) xs ≡ [] → n + 1 ≡ length xs
        dropped_all [] n h e = absurd (cc)
        dropped_all (y ∷ []) zero h e = omega arith
        dropped_all (y ∷ (z ∷ xs)) zero h e = absurd (cc)
        dropped_all (y ∷ xs) (suc n) h e = let k = dropped_all xs n h e in omega (arith, k)

  -- there is no claim for the step
  pub checked_short : (stages : List Stage) (claims : List Claim) (i : ℕ) → IsChecked stages claims i → slice_get claims i ≡ None → (stage : Stage) → slice_get stages i ≡ Some stage → (steps : List Step) → AreStages def stages steps
      → (last : At) → C [] steps claims (halted last) → ⊥
  checked_short stages claims i checked none stage at steps h last whole =
      let (s, there, is) = stage_at stages steps i stage h at in
      no_claim (map rows_claimed (take i claims)) s (drop (i + 1) steps) (halted last)
      (subst (λ (l : List Step). C (map rows_claimed (take i claims)) l [] (halted last)) (drop_there steps i s there)
      (subst (λ (l : List Claim). C (map rows_claimed (take i claims)) (drop i steps) l (halted last)) (none_dropped claims i none) ((checked.same steps h last).1 whole)))
    where
      none_dropped : (xs : List Claim) (n : ℕ) → slice_get xs n ≡ None → drop n xs ≡ []
      none_dropped [] zero h = refl
      none_dropped [] (suc n) h = refl
      none_dropped (y ∷ xs) zero h = absurd (cc)
      none_dropped (y ∷ xs) (suc n) h = none_dropped xs n h

  -- all steps have rows
  pub checked_through : (stages : List Stage) (claims : List Claim) (i : ℕ) → IsChecked stages claims i → length stages ≤ i → (steps : List Step) → AreStages def stages steps → (last : At) → C [] steps claims (halted last) → ⊥
  checked_through stages claims i checked le steps h last whole =
      let many = stages_many stages steps h in
      no_step (map rows_claimed (take i claims)) (drop i claims) last
      (subst (λ (l : List Step). C (map rows_claimed (take i claims)) l (drop i claims) (halted last)) (over steps i (omega (arith, le, many))) ((checked.same steps h last).1 whole))
    where
      over : (xs : List Step) (n : ℕ) → length xs ≤ n → drop n xs ≡ []
      over [] zero l = refl
      over [] (suc n) l = refl
      over (x ∷ xs) zero l = absurd (omega (arith, l))
      over (x ∷ xs) (suc n) l = over xs n (omega (arith, l))

-- ---- verdicts one after the other

module _ (rows : List (List Term)) (cases : List Case) (verdicts : List Verdict) where
  -- what is said of those that are left is said of all
  abbrev pub IsLeft : ℕ → Type 0
  IsLeft i = AreRight rows (drop i cases) (drop i verdicts) ↔ AreRight rows cases verdicts

  pub left_start : IsLeft 0
  left_start = ((λ h. h), (λ h. h))

  module _ (i : ℕ) (c : Case) (v : Verdict) (lt : i < length cases) (lu : i < length verdicts) (at : c ≡ get_or cases i c) (there : v ≡ get_or verdicts i v) (now : IsLeft i) where
    here : AreRight rows (c ∷ drop (i + 1) cases) (v ∷ drop (i + 1) verdicts) ↔ AreRight rows cases verdicts
    here = subst (λ (l : List Case). AreRight rows l (v ∷ drop (i + 1) verdicts) ↔ AreRight rows cases verdicts) (drop_item cases i c lt at)
        (subst (λ (l : List Verdict). AreRight rows (drop i cases) l ↔ AreRight rows cases verdicts) (drop_item verdicts i v lu there) now)

    pub left_next : IsRight rows c.given c.columns v → IsLeft (i + 1)
    left_next is = ((λ h. here.0 (is, h)), (λ h. (here.1 h).1))

    pub left_wrong : (IsRight rows c.given c.columns v → ⊥) → AreRight rows cases verdicts → ⊥
    left_wrong wrong h = wrong (here.1 h).0

  pub left_end : (i : ℕ) → length cases ≤ i → length cases ≡ length verdicts → IsLeft i → AreRight rows cases verdicts
  left_end i le same now =
      now.0 (subst (λ (l : List Verdict). AreRight rows (drop i cases) l) (sym (over verdicts i (omega (arith, le, same))))
      (subst (λ (l : List Case). AreRight rows l []) (sym (over cases i le)) tt))
    where
      over : {X : Type 0} (xs : List X) (n : ℕ) → length xs ≤ n → drop n xs ≡ []
      over [] zero l = refl
      over [] (suc n) l = refl
      over (x ∷ xs) zero l = absurd (omega (arith, l))
      over (x ∷ xs) (suc n) l = over xs n (omega (arith, l))

  pub many_right : AreRight rows cases verdicts → length cases ≡ length verdicts
  many_right = many cases verdicts
    where
      many : (cs : List Case) (vs : List Verdict) → AreRight rows cs vs → length cs ≡ length vs
      many [] [] h = refl
      many [] (v ∷ vs) h = absurd h
      many (c ∷ cs) [] h = absurd h
      many (c ∷ cs) (v ∷ vs) (is, h) = ap suc (many cs vs h)
