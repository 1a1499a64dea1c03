-- Claims on steps, one after the other.
use Rattle.std.proofs.Common.{◌≡◌, ℕ, zero, suc, ◌+◌, ◌<◌, ◌≤◌, List, [], ◌∷◌, ◌++◌, map, take, drop, get_or, length, Some, slice_get, refl, ap, ap₂, sym, ◌∙◌, subst, append-nil, append_assoc, arith}
use Rattle.std.specs.List.{AllByRecursion}
use Rattle.std.proofs.lemmas.List.{length-map, map-append, take_all}
use Rattle.std.proofs.lemmas.Option.{same_Some}
use Rattle.psg_terms.proofs.Lists.{drop_item, slice_get_item, take_item}
use Rattle.psg_grammar.specs.declared.types.Definition.{Definition}
use Rattle.psg_cache.proofs.Each.{each_at}
use Rattle.psg_explain.specs.declared.given.Case.{Case}
use Rattle.psg_explain.specs.declared.refutation.Claim.{Claim}
use Rattle.psg_explain.specs.declared.refutation.Verdict.{Verdict}
use Rattle.psg_explain.specs.declared.stages.Stage.{Stage}
use Rattle.psg_explain.specs.Claiming.{AreClaims, AreCoverable, MayClaim, MayClaimAll}
use Rattle.psg_explain.specs.Explanations.{IsTrueAt}
use Rattle.psg_explain.specs.Plans.{AreCanonical, Flow, Flows, Step, at_of, halted, rows_claimed}
use Rattle.psg_explain.specs.Fitted.{IsCoverable}
use Rattle.psg_explain.specs.Refutations.{AreClaimed, AreRight, IsClaim}
use Rattle.psg_explain.specs.Relations.{IsRelationAt, same_rows}
use Rattle.psg_explain.specs.Walks.{At, ComesTo, ended, went}
use Rattle.psg_explain.specs.Sources.{AreStages, IsStage}
use Rattle.psg_explain.specs.Verdicts.{IsRight}
use Rattle.psg_explain.proofs.CheckLaws.{all_canonical, stage_at, stages_many}
use Rattle.psg_explain.proofs.PlanLaws.{Rows}
use Rattle.psg_explain.proofs.PlanSources.{comes_ended, comes_went}

module _ (def : Definition) where
  pub claims_canonical : (before : List Rows) (steps : List Step) (claims : List Claim) → AreClaims def before steps claims → AllByRecursion AreCanonical (map rows_claimed claims)
  claims_canonical before steps [] h = tt
  claims_canonical before [] (c ∷ claims) h = absurd h
  claims_canonical before (s ∷ steps) (c ∷ claims) (is, h) = (all_canonical def.signature c.rows is.rows.canonical, claims_canonical (before ++ c.rows ∷ []) steps claims h)

  -- the rows after those that are claimed
  pub may_next : (before : List Rows) (steps : List Step) (claims : List Claim) (own : Rows) (rest : List Rows) → MayClaimAll def before steps (map rows_claimed claims ++ own ∷ rest)
      → (s : Step) × (slice_get steps (length claims) ≡ Some s) × MayClaim def (before ++ map rows_claimed claims) s own
  may_next before [] [] own rest h = absurd h
  may_next before (s ∷ steps) [] own rest (may, h) = (s, refl, subst (λ (b : List Rows). MayClaim def b s own) (sym (append-nil before)) may)
  may_next before [] (c ∷ claims) own rest h = absurd h
  may_next before (s ∷ steps) (c ∷ claims) own rest (may, h) =
      let (q, at, is) = may_next (before ++ c.rows ∷ []) steps claims own rest h in
      (q, at, subst (λ (b : List Rows). MayClaim def b q own) (append_assoc before (c.rows ∷ []) (map rows_claimed claims)) is)

  -- one claim more
  pub claims_more : (before : List Rows) (steps : List Step) (claims : List Claim) (s : Step) (c : Claim) → AreClaims def before steps claims → slice_get steps (length claims) ≡ Some s
      → IsClaim def (at_of def (before ++ map rows_claimed claims) s) c → AreClaims def before steps (claims ++ c ∷ [])
  claims_more before [] [] s c h at is = absurd (cc)
  claims_more before (q ∷ steps) [] s c h at is =
      let e : q ≡ s = cc in
      let own : IsClaim def (at_of def (before ++ []) q) c = subst (λ (x : Step). IsClaim def (at_of def (before ++ []) x) c) (sym e) is in
      (subst (λ (b : List Rows). IsClaim def (at_of def b q) c) (append-nil before) own, tt)
  claims_more before [] (x ∷ claims) s c h at is = absurd h
  claims_more before (q ∷ steps) (x ∷ claims) s c (one, h) at is =
      (one, claims_more (before ++ x.rows ∷ []) steps claims s c h at (subst (λ (b : List Rows). IsClaim def (at_of def b s) c) (sym (append_assoc before (x.rows ∷ []) (map rows_claimed claims))) is))

  -- ---- claims on all steps up to the one without rows

  same_last : (a b : At) → ◌≡◌ {A = Flow Rows} (halted a) (halted b) → a ≡ b
  same_last a b e = cc

  none_mapped : (claims : List Claim) → map rows_claimed claims ≡ [] → claims ≡ []
  none_mapped [] e = refl
  none_mapped (c ∷ claims) e = absurd (cc)

  -- a step with rows goes on, whatever is said of it
  module _ (IsOf : At → Claim → Type 0) (at : At) (claims : List Claim) where
    goes : (r : Rows) (left : List Rows) (more : Rows) (rest : List Rows) → ComesTo def same_rows (IsRelationAt def) at r left (went more rest) → ComesTo def rows_claimed IsOf at r claims (went r claims)
    goes [] left more rest (e, k) = absurd (cc)
    goes (q ∷ r) left more rest h = refl

    stops : (r : Rows) → r ≡ [] → claims ≡ [] → ComesTo def rows_claimed IsOf at r claims (ended at)
    stops r e none = subst (λ (x : Rows). ComesTo def rows_claimed IsOf at x claims (ended at)) (sym e) (none, refl)

  pub claims_flow : (before : List Rows) (steps : List Step) (claims : List Claim) (last : At) → AreClaims def before steps claims → Flows def same_rows (IsRelationAt def) before steps (map rows_claimed claims) (halted last)
      → Flows def rows_claimed (IsClaim def) before steps claims (halted last) × Flows def rows_claimed (IsTrueAt def) before steps claims (halted last)
  claims_flow before [] claims last h flow = absurd (cc)
  claims_flow before (s ∷ steps) [] last h (v, none, on) = absurd none
  claims_flow before (s ∷ steps) (c ∷ claims) last (is, h) (went more rest, (rel, comes), on) =
      let at : At = at_of def before s in
      let (a, b) = comes_went def same_rows (IsRelationAt def) at c.rows (map rows_claimed claims) more rest comes in
      let one : Flows def same_rows (IsRelationAt def) (before ++ c.rows ∷ []) steps rest (halted last) = subst (λ (r : Rows). Flows def same_rows (IsRelationAt def) (before ++ r ∷ []) steps rest (halted last)) a on in
      let two : Flows def same_rows (IsRelationAt def) (before ++ c.rows ∷ []) steps (map rows_claimed claims) (halted last) = subst (λ (l : List Rows). Flows def same_rows (IsRelationAt def) (before ++ c.rows ∷ []) steps l (halted last)) b one in
      let (claimed, real) = claims_flow (before ++ c.rows ∷ []) steps claims last h two in (
        (went c.rows claims, (is, goes (IsClaim def) at claims c.rows (map rows_claimed claims) more rest comes), claimed),
        (went c.rows claims, (rel, goes (IsTrueAt def) at claims c.rows (map rows_claimed claims) more rest comes), real),
      )
  claims_flow before (s ∷ steps) (c ∷ claims) last (is, h) (ended other, (rel, comes), on) =
      let at : At = at_of def before s in
      let (a, b, d) = comes_ended def same_rows (IsRelationAt def) at c.rows (map rows_claimed claims) other comes in
      let none = none_mapped claims b in
      let same : last ≡ at = same_last last other on ∙ d in (
        (ended at, (is, stops (IsClaim def) at claims c.rows a none), ap halted same),
        (ended at, (rel, stops (IsTrueAt def) at claims c.rows a none), ap halted same),
      )

-- ---- the verdicts of a claim

module _ (rows : Rows) where
  right_push : (cases : List Case) (told : List Verdict) (x : Case) (v : Verdict) → AreRight rows cases told → IsRight rows x.given x.columns v → AreRight rows (cases ++ x ∷ []) (told ++ v ∷ [])
  right_push [] [] x v h is = (is, tt)
  right_push [] (w ∷ told) x v h is = absurd h
  right_push (y ∷ cases) [] x v h is = absurd h
  right_push (y ∷ cases) (w ∷ told) x v (one, h) is = (one, right_push cases told x v h is)

  pub right_none : (cases : List Case) (told : List Verdict) → told ≡ [] → AreRight rows (take 0 cases) told
  right_none cases told e = subst (AreRight rows (take 0 cases)) (sym e) (none cases)
    where
      none : (xs : List Case) → AreRight rows (take 0 xs) []
      none [] = tt
      none (x ∷ xs) = tt

  pub case_covered : (cases : List Case) (i : ℕ) (x : Case) → AreCoverable rows cases → i < length cases → x ≡ get_or cases i x → IsCoverable rows x.given x.columns
  case_covered cases i x h lt e = each_at (λ (y : Case). IsCoverable rows y.given y.columns) cases i x h lt e

  pub right_next : (cases : List Case) (i : ℕ) (x : Case) (told more : List Verdict) (v : Verdict) → i < length cases → x ≡ get_or cases i x → more ≡ told ++ v ∷ [] → IsRight rows x.given x.columns v → AreRight rows (take i cases) told
      → AreRight rows (take (i + 1) cases) more
  right_next cases i x told more v lt at e is h =
      subst (AreRight rows (take (i + 1) cases)) (sym e) (subst (λ (l : List Case). AreRight rows l (told ++ v ∷ [])) (sym (take_item cases i x lt at)) (right_push (take i cases) told x v h is))

  pub right_all : (cases : List Case) (i : ℕ) (told : List Verdict) → length cases ≤ i → AreRight rows (take i cases) told → AreRight rows cases told
  right_all cases i told le h = subst (λ (l : List Case). AreRight rows l told) (take_all i cases le) h

pub right_moved : (rows own : Rows) (cases all : List Case) (told kept : List Verdict) → rows ≡ own → cases ≡ all → kept ≡ told → AreRight rows cases told → AreRight own all kept
right_moved rows own cases all told kept er ec ek h =
    subst (λ (l : List Verdict). AreRight own all l) (sym ek) (subst (λ (l : List Case). AreRight own l told) ec (subst (λ (r : Rows). AreRight r cases told) er h))

pub claimed_canonical : (def : Definition) (s : Step) (rows : Rows) → AreClaimed def s.part s.number rows → AreCanonical rows
claimed_canonical def s rows h = all_canonical def.signature rows h.canonical

-- ---- one claim after the other

take_drop : (n : ℕ) (xs : List Rows) → take n xs ++ drop n xs ≡ xs
take_drop zero xs = refl
take_drop (suc n) [] = refl
take_drop (suc n) (x ∷ xs) = ap (λ l. x ∷ l) (take_drop n xs)

module _ (def : Definition) (stages : List Stage) (rows : List Rows) where
  -- the yielded rows are claimed
  abbrev pub AreMade : List Claim → List Rows → Type 0
  AreMade claims yielded = (map rows_claimed claims ≡ yielded) × ((steps : List Step) → AreStages def stages steps → MayClaimAll def [] steps rows → AreClaims def [] steps claims)

  pub claims_none : (claims : List Claim) → claims ≡ [] → AreMade claims []
  claims_none claims e = (ap (map rows_claimed) e, λ steps are may. subst (AreClaims def [] steps) (sym e) tt)

  enough : (before : List Rows) (steps : List Step) (all : List Rows) → MayClaimAll def before steps all → length all ≤ length steps
  enough before steps [] h = omega arith
  enough before [] (r ∷ all) h = absurd h
  enough before (s ∷ steps) (r ∷ all) (may, h) = let le = enough (before ++ r ∷ []) steps all h in omega (arith, le)

  many : (claims : List Claim) (yielded : List Rows) → map rows_claimed claims ≡ yielded → length claims ≡ length yielded
  many claims yielded e = sym (length-map claims rows_claimed) ∙ ap length e

  pub place_within : (steps : List Step) → AreStages def stages steps → MayClaimAll def [] steps rows → (claims : List Claim) (yielded : List Rows) (place : ℕ) → map rows_claimed claims ≡ yielded → length yielded < length rows → place ≡ length claims
      → place < length stages
  place_within steps are may claims yielded place e lt at =
      let a = stages_many def stages steps are in
      let b = enough [] steps rows may in
      let c = many claims yielded e in
      omega (arith, a, b, c, lt, at)

  -- the rows that are yielded next may be claimed of the stage's step
  turn_step : (steps : List Step) → AreStages def stages steps → MayClaimAll def [] steps rows → (claims : List Claim) (yielded : List Rows) (place : ℕ) (own : Rows) (stage : Stage) → map rows_claimed claims ≡ yielded → yielded ≡ take (length yielded) rows
      → (length yielded < length rows) × (own ≡ get_or rows (length yielded) own) → place ≡ length claims → stage ≡ get_or stages place stage
      → (s : Step) × (slice_get steps (length claims) ≡ Some s) × IsStage def stage s × MayClaim def (map rows_claimed claims) s own
  turn_step steps are may claims yielded place own stage e far (lt, here) at is =
      let n = many claims yielded e in
      let inside : place < length stages = place_within steps are may claims yielded place e lt at in
      let whole : map rows_claimed claims ++ own ∷ drop (length yielded + 1) rows ≡ rows =
      ap (λ (l : List Rows). l ++ own ∷ drop (length yielded + 1) rows) (e ∙ far) ∙ ap (λ (l : List Rows). take (length yielded) rows ++ l) (sym (drop_item rows (length yielded) own lt here)) ∙ take_drop (length yielded) rows in
      let (s, there, own_may) = may_next def [] steps claims own (drop (length yielded + 1) rows) (subst (MayClaimAll def [] steps) (sym whole) may) in
      let (q, found, stage_is) = stage_at def stages steps place stage are (slice_get_item stages place stage inside is) in
      let same : s ≡ q = same_Some s q (sym there ∙ ap (slice_get steps) (sym at) ∙ found) in
      (s, there, subst (IsStage def stage) (sym same) stage_is, own_may)

  pub turn_may : (steps : List Step) → AreStages def stages steps → MayClaimAll def [] steps rows → (claims : List Claim) (yielded : List Rows) (place : ℕ) (own : Rows) (stage : Stage) → map rows_claimed claims ≡ yielded → yielded ≡ take (length yielded) rows
      → (length yielded < length rows) × (own ≡ get_or rows (length yielded) own) → place ≡ length claims → stage ≡ get_or stages place stage
      → (s : Step) × IsStage def stage s × MayClaim def (map rows_claimed claims) s own
  turn_may steps are may claims yielded place own stage e far turn at is =
      let (s, there, stage_is, own_may) = turn_step steps are may claims yielded place own stage e far turn at is in
      (s, stage_is, own_may)

  pub claims_turn : (claims more : List Claim) (yielded : List Rows) (place : ℕ) (own : Rows) (stage : Stage) (c : Claim) → AreMade claims yielded → yielded ≡ take (length yielded) rows
      → (length yielded < length rows) × (own ≡ get_or rows (length yielded) own) → place ≡ length claims → stage ≡ get_or stages place stage
      → ((s : Step) → IsStage def stage s → MayClaim def (map rows_claimed claims) s own → IsClaim def (at_of def (map rows_claimed claims) s) c) → c.rows ≡ own → more ≡ claims ++ c ∷ [] → AreMade more (yielded ++ own ∷ [])
  claims_turn claims more yielded place own stage c (e, made) far turn at is claim same new = (
    ap (map rows_claimed) new ∙ map-append rows_claimed claims (c ∷ []) ∙ ap₂ (λ (l : List Rows) (r : Rows). l ++ r ∷ []) e same,
    λ steps are may.
        let (s, there, stage_is, own_may) = turn_step steps are may claims yielded place own stage e far turn at is in
        subst (AreClaims def [] steps) (sym new) (claims_more def [] steps claims s c (made steps are may) there (claim s stage_is own_may)),
  )
