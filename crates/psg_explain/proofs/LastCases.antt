-- The cases of the step at which right claims end have no solution.
use Rattle.std.proofs.Common.{◌≡◌, ◌↔◌, Bor, Bool, false, true, IsTrue, ℕ, suc, ◌+◌, List, [], ◌∷◌, ◌++◌, map, take, length, Option, Some, None, slice_get, refl, ap, sym, ◌∙◌, subst, append-nil, append_assoc, arith}
use Rattle.std.specs.List.{AllByRecursion}
use Rattle.std.specs.Option.{option_copied}
use Rattle.psg_terms.proofs.Lists.{each_at}
use Rattle.psg_grammar.specs.declared.types.Kind.{Kind}
use Rattle.psg_grammar.specs.declared.types.Definition.{Definition}
use Rattle.psg_grammar.specs.Fragments.{Fragment}
use Rattle.psg_grammar.specs.Paths.{Path, node_at}
use Rattle.psg_grammar.specs.Sound.{IsSound}
use Rattle.psg_grammar.specs.Steps.{last_step}
use Rattle.psg_grammar.specs.WellFormed.{WellFormed}
use Rattle.psg_cache.specs.Notes.{IsFormed}
use Rattle.psg_cache.proofs.FormedTrees.{node_formed}
use Rattle.psg_explain.specs.declared.given.Case.{Case}
use Rattle.psg_explain.specs.declared.refutation.Claim.{Claim}
use Rattle.psg_explain.specs.declared.stages.Stage.{Stage}
use Rattle.psg_explain.specs.Plans.{AreCanonical, Flows, Origin, Step, at_of, cases_at, from_before, from_itself, from_pair, halted, planned, rows_at, rows_claimed}
use Rattle.psg_explain.specs.Reached.{IsReady, IsUnsolved}
use Rattle.psg_explain.specs.Refutations.{AreClaimed, AreRight, ClaimTo, IsClaim}
use Rattle.psg_explain.specs.Sources.{AreStages, IsStage}
use Rattle.psg_explain.specs.Walks.{At, went, ended}
use Rattle.psg_explain.proofs.CheckLaws.{all_canonical, stage_at, stages_many}
use Rattle.psg_explain.proofs.FairLaws.{fair_first, fair_last, fair_next}
use Rattle.psg_explain.proofs.PlanFormed.{claims_planned, walked_of}
use Rattle.psg_explain.proofs.PlanLaws.{Rows}
use Rattle.psg_explain.proofs.PlanSources.{there_within, AreKnown, IsSourced, IsSourcedBy, Stops, comes_ended, comes_went, planned_sourced, stops}
use Rattle.psg_explain.proofs.SolvedLaws.{IsFair, all_unsolved}
use Rattle.psg_explain.proofs.Theorem.{added_formed}
use Rattle.psg_explain.proofs.UnderLaws.{unmade}
use Rattle.psg_explain.proofs.Walking.{added_children}

module _ (def : Definition) where
  -- the rows are claimed of the step
  abbrev pub IsClaimedOf : Step → Rows → Type 0
  IsClaimedOf s rows = AreClaimed def s.part s.number rows

  pub claim_keeps : (rows : List Rows) (s : Step) (x : Claim) → IsClaim def (at_of def rows s) x → IsClaimedOf s x.rows
  claim_keeps rows s x is = is.rows

  abbrev pub Ends : At → Type 0
  Ends last = Stops def rows_claimed (IsClaim def) IsClaimedOf claim_keeps last

  abbrev pub Known : List Step → List Rows → Type 0
  Known before rows = AreKnown def rows_claimed (IsClaim def) IsClaimedOf claim_keeps before rows

  child_formed : (f : Fragment) (kind : Kind) (n : ℕ) (t : Fragment) → WellFormed def f kind → slice_get (added_children f) n ≡ Some t → (k : Kind) × WellFormed def t k
  child_formed f kind n t formed at = each_at (λ (x : Fragment). (k : Kind) × WellFormed def x k) (added_children f) (added_formed def f (kind, formed)) n t at

  -- the cases of a step with these rows before it are fair
  fair_cases : IsSound def → (before : List Step) (rows : List Rows) (s : Step) → IsSourced def before s → Known before rows → AllByRecursion (IsFair def.signature) (cases_at def rows s)
  fair_cases sound before rows s sourced (many, known) = by s.part s.number s.origin sourced.formed sourced.by
    where
      moved : (f g : Fragment) (n m : ℕ) (r : Rows) → f ≡ g → n ≡ m → AreClaimed def f n r → AreClaimed def g m r
      moved f g n m r e d h = subst (λ (x : Fragment). AreClaimed def x m r) e (subst (λ (k : ℕ). AreClaimed def f k r) d h)

      by : (f : Fragment) (n : ℕ) (o : Origin) → (kind : Kind) × WellFormed def f kind → IsSourcedBy def before f n o
          → AllByRecursion (IsFair def.signature) (cases_at def rows (record { path = s.path; cell = s.cell; part = f; number = n; origin = o }))
      by f n from_itself formed h = fair_first def sound f
      by f n (from_before b) formed h = fair_last def f (rows_at rows b)
      by f n (from_pair m b c t) (kind, formed) (p, at, part, number, (q, there, of, last), child, next) =
          let left = moved p.part f p.number m (rows_at rows b) part number (known b p at) in
          let right = moved q.part t q.number (last_step def t) (rows_at rows c) of last (known c q there) in
          fair_next def f kind m t (child_formed f kind m t formed child).0 (rows_at rows b) (rows_at rows c) formed (child_formed f kind m t formed child).1 child left right

  -- what claims along a plan end at
  pub claims_end : (root : Fragment) (path : Path) (node : Fragment) (kind : Kind) (claims : List Claim) (last : At) → WellFormed def node kind → node_at root path ≡ Some node
      → Flows def rows_claimed (IsClaim def) [] (planned def 0 path node) claims (halted last) → Ends last
  claims_end root path node kind claims last formed at flow =
      stops def rows_claimed (IsClaim def) IsClaimedOf claim_keeps (planned def 0 path node) [] [] claims last (refl, λ k p h. absurd (cc)) (planned_sourced def root path node kind formed at) flow

  pub last_unsolved : IsSound def → (root : Fragment) (path : Path) (node : Fragment) (kind : Kind) (claims : List Claim) (last : At) → WellFormed def node kind → node_at root path ≡ Some node
      → Flows def rows_claimed (IsClaim def) [] (planned def 0 path node) claims (halted last) → AllByRecursion IsUnsolved last.cases
  last_unsolved sound root path node kind claims last formed at flow =
      let e = claims_end root path node kind claims last formed at flow in
      let fair = fair_cases sound e.before e.rows e.s e.sourced e.known in
      let verdicts = subst (λ (r : Rows). AreRight r (cases_at def e.rows e.s) e.item.verdicts) e.none e.of.verdicts in
      subst (λ (a : At). AllByRecursion IsUnsolved a.cases) (sym e.last_is) (all_unsolved def.signature (cases_at def e.rows e.s) e.item.verdicts verdicts fair)

  -- ---- the last claim by its place

  -- the last step is the one at the place of the last claim, where the rows before are those of the claims before
  pub record IsLastAt (rows : List Rows) (steps : List Step) (claims : List Claim) (last : At) : Type 0 where
    pub place : ℕ
    pub count : length claims ≡ place + 1
    pub step : Step
    pub there : slice_get steps place ≡ Some step
    pub last_is : last ≡ at_of def (rows ++ map rows_claimed (take place claims)) step
    pub canonical : AllByRecursion AreCanonical (map rows_claimed (take place claims))

  pub last_at : (steps : List Step) (rows : List Rows) (claims : List Claim) (last : At) → Flows def rows_claimed (IsClaim def) rows steps claims (halted last) → IsLastAt rows steps claims last
  last_at [] rows claims last h = absurd (cc)
  last_at (s ∷ steps) rows [] last (v, t, o) = absurd t
  last_at (s ∷ steps) rows (x ∷ left) last (went more rest, (is, c), o) =
      let (a, b) = comes_went def rows_claimed (IsClaim def) (at_of def rows s) x.rows left more rest c in
      let h = last_at steps (rows ++ more ∷ []) rest last o in
      let count = h.count in
      let many : length left ≡ h.place + 1 = sym (ap length b) ∙ count in
      let front : take (h.place + 1) (x ∷ left) ≡ x ∷ take h.place left = let e : h.place + 1 ≡ suc h.place = omega arith in ap (λ (n : ℕ). take n (x ∷ left)) e in
      let same : take h.place rest ≡ take h.place left = ap (take h.place) b in
      let whole : (rows ++ more ∷ []) ++ map rows_claimed (take h.place rest) ≡ rows ++ map rows_claimed (take (h.place + 1) (x ∷ left)) =
      append_assoc rows (more ∷ []) (map rows_claimed (take h.place rest)) ∙ ap (λ (l : List Claim). rows ++ more ∷ map rows_claimed l) same ∙ ap (λ (r : Rows). rows ++ r ∷ map rows_claimed (take h.place left)) a
      ∙ sym (ap (λ (l : List Claim). rows ++ map rows_claimed l) front) in
      let next : h.place + 1 ≡ suc h.place = omega arith in
      record {
        place = h.place + 1;
        count = omega (arith, many);
        step = h.step;
        there = ap (slice_get (s ∷ steps)) next ∙ h.there;
        last_is = h.last_is ∙ ap (λ (r : List Rows). at_of def r h.step) whole;
        canonical = subst (λ (l : List Claim). AllByRecursion AreCanonical (map rows_claimed l)) (sym front)
            (all_canonical def.signature x.rows is.rows.canonical, subst (λ (l : List Claim). AllByRecursion AreCanonical (map rows_claimed l)) same h.canonical);
      }
  last_at (s ∷ steps) rows (x ∷ left) last (ended other, (is, c), o) =
      let (a, b, d) = comes_ended def rows_claimed (IsClaim def) (at_of def rows s) x.rows left other c in
      let e : last ≡ other = cc in
      record {
        place = 0;
        count = ap (λ (l : List Claim). length (x ∷ l)) b;
        step = s;
        there = refl;
        last_is = e ∙ d ∙ ap (λ (r : List Rows). at_of def r s) (sym (append-nil rows));
        canonical = tt;
      }

-- ---- what the program has of a node

pub copied_some : {A : Type 0} (o : Option (Bor A)) (x : Bor A) (r : Option A) → option_copied o ≡ r → o ≡ Some x → r ≡ Some x.now
copied_some o x r e h = sym e ∙ ap option_copied h

pub copied_none : {A : Type 0} (o : Option (Bor A)) (r : Option A) → option_copied o ≡ r → o ≡ None → r ≡ None
copied_none o r e h = sym e ∙ ap option_copied h

-- a node that is there is there
pub no_node : (r : Option Fragment) → r ≡ None → (node : Fragment) → r ≡ Some node → ⊥
no_node r e node h = let d : None ≡ Some node = sym e ∙ h in absurd (cc)

pub same_node : (r : Option Fragment) (a b : Fragment) → r ≡ Some a → r ≡ Some b → a ≡ b
same_node r a b e h = let d : Some a ≡ Some b = sym e ∙ h in cc

-- a node of a tree is well-formed
pub formed_node : (def : Definition) (root : Fragment) (path : Path) (node : Fragment) → IsFormed def root → node_at root path ≡ Some node → IsFormed def node
formed_node def root path node (kind, formed) at = node_formed def root kind path node formed at

pub twice_iff : (T : Fragment → Bool) (r : Option Fragment) (node : Fragment) → r ≡ Some node → (b : Bool) → b ≡ T node → IsTrue b ↔ ((n : Fragment) × (r ≡ Some n) × (T n ≡ true))
twice_iff T r node at b e = (
  (λ t. (node, at, sym e ∙ t)),
  (λ (n, there, t). e ∙ ap T (same_node r node n at there) ∙ t),
)

-- nothing is said of a node that is not there
pub no_such : (P : Fragment → Type 0) (r : Option Fragment) → r ≡ None → IsTrue false ↔ ((n : Fragment) × (r ≡ Some n) × P n)
no_such P r e = unmade (λ (n, at, p). no_node r e n at)

pub no_refuted : (def : Definition) (root : Fragment) (path : Path) (claims : List Claim) → node_at root path ≡ None
    → IsTrue false ↔ ((n : Fragment) × (node_at root path ≡ Some n) × (last : At) × ClaimTo def path n claims last)
no_refuted def root path claims e = unmade (λ (n, at, last, claim). no_node (node_at root path) e n at)

pub moved_stages : (def other : Definition) (stages left : List Stage) (steps : List Step) → other ≡ def → left ≡ stages → AreStages def stages steps → AreStages other left steps
moved_stages def other stages left steps e d h = subst (λ (l : List Stage). AreStages other l steps) (sym d) (subst (λ (x : Definition). AreStages x stages steps) (sym e) h)

pub moved_told : (def other : Definition) (stages left : List Stage) (claims told : List Claim) (b : Bool) → other ≡ def → left ≡ stages → told ≡ claims
    → ((steps : List Step) → AreStages other left steps → IsTrue b ↔ ((last : At) × Flows other rows_claimed (IsClaim other) [] steps told (halted last)))
    → (steps : List Step) → AreStages def stages steps → IsTrue b ↔ ((last : At) × Flows def rows_claimed (IsClaim def) [] steps claims (halted last))
moved_told def other stages left claims told b e d f h steps are =
    subst (λ (x : Definition). IsTrue b ↔ ((last : At) × Flows x rows_claimed (IsClaim x) [] steps claims (halted last))) e
    (subst (λ (l : List Claim). IsTrue b ↔ ((last : At) × Flows other rows_claimed (IsClaim other) [] steps l (halted last))) f
    (h steps (moved_stages def other stages left steps e d are)))

pub moved_ready : (def other : Definition) (claims told : List Claim) (stages left : List Stage) (last : At) → other ≡ def → told ≡ claims → left ≡ stages → IsReady def claims stages last → IsReady other told left last
moved_ready def other claims told stages left last e d f h =
    subst (λ (l : List Stage). IsReady other told l last) (sym f) (subst (λ (l : List Claim). IsReady other l stages last) (sym d) (subst (λ (x : Definition). IsReady x claims stages last) (sym e) h))

module _ (def : Definition) (root : Fragment) (path : Path) (node : Fragment) (claims : List Claim) (stages : List Stage) where
  abbrev pub IsRefuted : Type 0
  IsRefuted = (n : Fragment) × (node_at root path ≡ Some n) × (last : At) × ClaimTo def path n claims last

  pub claims_iff : (kind : Kind) → WellFormed def node kind → node_at root path ≡ Some node → AreStages def stages (planned def 0 path node) → (b : Bool)
      → ((steps : List Step) → AreStages def stages steps → IsTrue b ↔ ((last : At) × Flows def rows_claimed (IsClaim def) [] steps claims (halted last))) → IsTrue b ↔ IsRefuted
  claims_iff kind formed at are b told =
      let iff = told (planned def 0 path node) are in
      let plan = λ (last : At). claims_planned def path node claims last (walked_of def node kind formed.0 formed.1) in (
        (λ t. let (last, flow) = iff.0 t in (node, at, last, (plan last).1 flow)),
        (λ (n, there, last, claim).
            let same : n ≡ node = same_node (node_at root path) n node there at in
            iff.1 (last, (plan last).0 (subst (λ (x : Fragment). ClaimTo def path x claims last) same claim))),
      )

  pub ready : IsSound def → (kind : Kind) → WellFormed def node kind → node_at root path ≡ Some node → (r : IsRefuted) → AreStages def stages (planned def 0 path node) → IsReady def claims stages r.2
  ready sound kind formed at (n, there, last, claim) are =
      let same : n ≡ node = same_node (node_at root path) n node there at in
      let own : ClaimTo def path node claims last = subst (λ (x : Fragment). ClaimTo def path x claims last) same claim in
      let flow = (claims_planned def path node claims last (walked_of def node kind formed.0 formed.1)).0 own in
      let h = last_at def (planned def 0 path node) [] claims last flow in
      let many = stages_many def stages (planned def 0 path node) are in
      let in_steps = there_within (planned def 0 path node) h.place h.step h.there in
      record {
        place = h.place;
        count = h.count;
        within = omega (arith, many, in_steps);
        canonical = h.canonical;
        cases = λ stage here.
            let (s, at_place, is) = stage_at def stages (planned def 0 path node) h.place stage are here in
            let e : Some h.step ≡ Some s = sym h.there ∙ at_place in
            let d : h.step ≡ s = cc in
            (s, is, ap (λ (a : At). a.cases) h.last_is ∙ ap (cases_at def (map rows_claimed (take h.place claims))) d);
        unsolved = last_unsolved def sound root path node kind claims last formed at flow;
      }

module _ (def : Definition) (claims : List Claim) (stages : List Stage) (last : At) (r : IsReady def claims stages last) where
  -- the place of the last claim is the only one
  pub same_place : (n : ℕ) → length claims ≡ n + 1 → r.place ≡ n
  same_place n e = let c = r.count in omega (arith, c, e)

  pub ready_canonical : (n : ℕ) → length claims ≡ n + 1 → (before : List Claim) → before ≡ take n claims → AllByRecursion AreCanonical (map rows_claimed before)
  ready_canonical n e before is =
      subst (λ (l : List Claim). AllByRecursion AreCanonical (map rows_claimed l)) (ap (λ (m : ℕ). take m claims) (same_place n e) ∙ sym is) r.canonical

  -- the cases that the program makes are those of the last step
  pub ready_cases : (n : ℕ) → length claims ≡ n + 1 → (before : List Claim) → before ≡ take n claims → (stage : Stage) → slice_get stages n ≡ Some stage → (made : List Case)
      → ((s : Step) → IsStage def stage s → made ≡ cases_at def (map rows_claimed before) s) → made ≡ last.cases
  ready_cases n e before is stage at made told =
      let place = same_place n e in
      let (s, step, same) = r.cases stage (ap (slice_get stages) place ∙ at) in
      let front : before ≡ take r.place claims = is ∙ ap (λ (m : ℕ). take m claims) (sym place) in
      told s step ∙ ap (λ (l : List Claim). cases_at def (map rows_claimed l) s) front ∙ sym same
