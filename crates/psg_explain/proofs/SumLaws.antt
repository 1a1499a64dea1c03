-- How many pairs of rows the steps of a tree are made of.
use Rattle.std.proofs.Common.{◌≡◌, ◌⊎◌, inl, inr, ℕ, zero, suc, ◌+◌, ◌-◌, ◌*◌, ◌^◌, ◌<◌, ◌≤◌, min, List, [], ◌∷◌, ◌++◌, take, drop, get_or, length, Some, None, slice_get, refl, ap, ap₂, sym, ◌∙◌, subst, arith}
use Rattle.std.proofs.lemmas.Bool.Decides.{leb_tells}
use Rattle.std.proofs.lemmas.List.{drop_all}
use Rattle.std.proofs.lemmas.Nat.{mul-le}
use Rattle.std.proofs.lemmas.Option.{none-some, same_Some}
use Rattle.psg_terms.proofs.Lists.{drop_item, drop_there, get_or_fixed, slice_get_item, take_item}
use Rattle.psg_grammar.specs.declared.types.Definition.{Definition}
use Rattle.psg_grammar.specs.Fragments.{Fragment}
use Rattle.psg_grammar.specs.Paths.{Path}
use Rattle.psg_scope.specs.declared.header.NameCol.{NameCol}
use Rattle.psg_scope.specs.Headers.{keys}
use Rattle.psg_explain.specs.declared.stages.Source.{Source}
use Rattle.psg_explain.specs.declared.stages.Source.TheVariants as sources
use Rattle.psg_explain.specs.declared.stages.Stage.{Stage}
use Rattle.psg_explain.specs.Explanations.{HasPairs, IsMadeAt, all_pairs_in, rows_made}
use Rattle.psg_explain.specs.PairSums.{made_from}
use Rattle.psg_explain.specs.Plans.{Flow, Flows, Onward, Origin, Step, at_of, from_before, from_itself, from_pair, halted, pairs_of, planned, rows_at}
use Rattle.psg_explain.specs.Relations.{AreRelations, IsRelationAt, same_rows}
use Rattle.psg_explain.specs.Sources.{AreStages, IsSource, IsStage}
use Rattle.psg_explain.specs.Walks.{At, Walk, ended, went}
use Rattle.psg_explain.proofs.CheckLaws.{stage_at, stages_many}
use Rattle.psg_explain.proofs.PlanLaws.{IsWalked, Rows}
use Rattle.psg_explain.proofs.PlanWalks.{walks_from}

-- ---- the rows with the numbers of pairs go along the steps

module _ (def : Definition) where
  none_made : (now : List Rows) (steps : List Step) → made_from def now steps [] ≡ []
  none_made now [] = refl
  none_made now (s ∷ steps) = refl

  pub made_flows : (now : List Rows) (steps : List Step) (rows : List Rows) (last : At) → Flows def same_rows (IsRelationAt def) now steps rows (halted last)
      → Flows def rows_made (IsMadeAt def) now steps (made_from def now steps rows) (halted last)
  made_flows now [] rows last h = absurd (cc)
  made_flows now (s ∷ steps) [] last (v, none, on) = absurd none
  made_flows now (s ∷ steps) ([] ∷ rows) last (v, (is, (over, e)), on) =
      let here : ◌≡◌ {A = Flow Rows} (halted last) (halted (at_of def now s)) = subst (λ (w : Walk Rows). Onward def same_rows (IsRelationAt def) now w (λ later left u. Flows def same_rows (IsRelationAt def) later steps left u) (halted last)) e on in
      let none : made_from def (now ++ [] ∷ []) steps rows ≡ [] = ap (made_from def (now ++ [] ∷ []) steps) over ∙ none_made (now ++ [] ∷ []) steps in
      let same : last ≡ at_of def now s = ended_once last (at_of def now s) here in
      (ended (at_of def now s), ((is, refl), (none, refl)), ap halted same)
    where
      ended_once : (a b : At) → ◌≡◌ {A = Flow Rows} (halted a) (halted b) → a ≡ b
      ended_once a b e = cc
  made_flows now (s ∷ steps) ((x ∷ r) ∷ rows) last (v, (is, e), on) =
      let later : Flows def same_rows (IsRelationAt def) (now ++ (x ∷ r) ∷ []) steps rows (halted last) =
      subst (λ (w : Walk Rows). Onward def same_rows (IsRelationAt def) now w (λ next left u. Flows def same_rows (IsRelationAt def) next steps left u) (halted last)) e on in
      (went (x ∷ r) (made_from def (now ++ (x ∷ r) ∷ []) steps rows), ((is, refl), refl), made_flows (now ++ (x ∷ r) ∷ []) steps rows last later)

  pub has_pairs : (path : Path) (f : Fragment) (rows : List Rows) → IsWalked f → AreRelations def path f rows → HasPairs def path f (all_pairs_in (made_from def [] (planned def 0 path f) rows))
  has_pairs path f rows walked (last, flows) = record {
    steps = made_from def [] (planned def 0 path f) rows;
    last = last;
    walk = walks_from def rows_made (IsMadeAt def) f path 0 [] (made_from def [] (planned def 0 path f) rows) (halted last) walked refl (made_flows [] (planned def 0 path f) rows last flows);
    sum = refl;
  }

  -- ---- one step

  pub own_none : (f : Fragment) (ks : List (List ℕ)) (o : Origin) (now : List Rows) → IsSource def f sources.Own ks o → 0 ≡ pairs_of def o now
  own_none f ks from_itself now h = refl
  own_none f ks (from_pair n b c t) now h = absurd h
  own_none f ks (from_before b) now h = absurd h

  pub closed_none : (f : Fragment) (before : ℕ) (inside : List NameCol) (ks : List (List ℕ)) (o : Origin) (now : List Rows) → IsSource def f (sources.Closed before inside) ks o → 0 ≡ pairs_of def o now
  closed_none f before inside ks from_itself now h = absurd h
  closed_none f before inside ks (from_pair n b c t) now h = absurd h
  closed_none f before inside ks (from_before b) now h = refl

  pub pair_some : (f : Fragment) (before child : ℕ) (left right : List NameCol) (ks : List (List ℕ)) (o : Origin) (now : List Rows) → IsSource def f (sources.Pair before child left right) ks o
      → length (rows_at now before) * length (rows_at now child) ≡ pairs_of def o now
  pair_some f before child left right ks from_itself now h = absurd h
  pair_some f before child left right ks (from_pair n b c t) now (eb, ec, el, er, ek) = ap₂ (λ i j. length (rows_at now i) * length (rows_at now j)) eb ec
  pair_some f before child left right ks (from_before b) now h = absurd h

  module _ (stage : Stage) (s : Step) (is : IsStage def stage s) (now : List Rows) where
    abbrev at_source : Source → Type 0
    at_source x = IsSource def s.part x (keys stage.header.names) s.origin

    pub own_pairs : stage.source ≡ sources.Own → 0 ≡ pairs_of def s.origin now
    own_pairs e = own_none s.part (keys stage.header.names) s.origin now (subst at_source e is.source)

    pub closed_pairs : (before : ℕ) (inside : List NameCol) → stage.source ≡ sources.Closed before inside → 0 ≡ pairs_of def s.origin now
    closed_pairs before inside e = closed_none s.part before inside (keys stage.header.names) s.origin now (subst at_source e is.source)

    pub step_pairs : (before child : ℕ) (left right : List NameCol) (a b : ℕ) → stage.source ≡ sources.Pair before child left right → a ≡ length (rows_at now before) → b ≡ length (rows_at now child)
        → a * b ≡ pairs_of def s.origin now
    step_pairs before child left right a b e ea eb = ap₂ (λ x y. x * y) ea eb ∙ pair_some s.part before child left right (keys stage.header.names) s.origin now (subst at_source e is.source)

  -- ---- all steps

  -- the step that the program keeps at the place
  stage_step : (stages : List Stage) (steps : List Step) (i : ℕ) (stage : Stage) → AreStages def stages steps → i < length stages → stage ≡ get_or stages i stage
      → (s : Step) × (drop i steps ≡ s ∷ drop (i + 1) steps) × IsStage def stage s
  stage_step stages steps i stage are lt at =
      let (s, there, is) = stage_at def stages steps i stage are (slice_get_item stages i stage lt at) in
      (s, drop_there steps i s there, is)

  abbrev pub rest_sum : List Step → List Rows → ℕ → ℕ
  rest_sum steps rows i = all_pairs_in (made_from def (take i rows) (drop i steps) (drop i rows))

  capped : (p x r k new : ℕ) → new ≡ min (p + x) k → min (new + r) k ≡ min (p + (x + r)) k
  capped p x r k new e = omega (arith, e)

  pub sum_start : (steps : List Step) (rows : List Rows) (k : ℕ) → min (0 + rest_sum steps rows 0) k ≡ min (all_pairs_in (made_from def [] steps rows)) k
  sum_start steps rows k = let e : 0 + rest_sum steps rows 0 ≡ rest_sum steps rows 0 = omega arith in ap (λ n. min n k) e

  pub sum_next : (stages : List Stage) (steps : List Step) (rows before : List Rows) (i p new more whole k : ℕ) (stage : Stage) → AreStages def stages steps → i < length stages → i < length rows
      → stage ≡ get_or stages i stage → before ≡ take i rows → ((s : Step) → IsStage def stage s → more ≡ pairs_of def s.origin before) → new ≡ min (p + more) k → min (p + rest_sum steps rows i) k ≡ whole
      → min (new + rest_sum steps rows (i + 1)) k ≡ whole
  sum_next stages steps rows before i p new more whole k stage are lt lr at eb is made now =
      let (s, apart, kept) = stage_step stages steps i stage are lt at in
      let r : Rows = get_or rows i [] in
      let fixed = get_or_fixed rows i [] lr in
      let taken : take (i + 1) rows ≡ take i rows ++ r ∷ [] = take_item rows i r lr fixed in
      let dropped : drop i rows ≡ r ∷ drop (i + 1) rows = drop_item rows i r lr fixed in
      let one : more ≡ pairs_of def s.origin (take i rows) = is s kept ∙ ap (pairs_of def s.origin) eb in
      let split : rest_sum steps rows i ≡ more + rest_sum steps rows (i + 1) =
      ap₂ (λ (a : List Step) (b : List Rows). all_pairs_in (made_from def (take i rows) a b)) apart dropped
      ∙ ap₂ (λ (n : ℕ) (l : List Rows). n + all_pairs_in (made_from def l (drop (i + 1) steps) (drop (i + 1) rows))) (sym one) (sym taken) in
      capped p more (rest_sum steps rows (i + 1)) k new made ∙ ap (λ n. min (p + n) k) (sym split) ∙ now

  pub sum_end : (stages : List Stage) (steps : List Step) (rows : List Rows) (i p whole k : ℕ) → AreStages def stages steps → min (length rows) (length stages) ≤ i → p ≤ k → min (p + rest_sum steps rows i) k ≡ whole → p ≡ whole
  sum_end stages steps rows i p whole k are le small h =
      let e = stages_many def stages steps are in
      let none : rest_sum steps rows i ≡ 0 = nothing steps rows i (omega (arith, le, e)) in
      let own : p ≡ min (p + rest_sum steps rows i) k = omega (arith, none, small) in
      own ∙ h
    where
      nothing : (steps : List Step) (rows : List Rows) (i : ℕ) → min (length rows) (length steps) ≤ i → rest_sum steps rows i ≡ 0
      nothing steps rows i le = elim (either (length rows) (length steps) i le) [
        | inl h ↦ ap all_pairs_in (ap (made_from def (take i rows) (drop i steps)) (drop_all i rows h) ∙ none_made (take i rows) (drop i steps))
        | inr h ↦ ap (λ (l : List Step). all_pairs_in (made_from def (take i rows) l (drop i rows))) (drop_all i steps h)
      ]
        where
          either : (a b i : ℕ) → min a b ≤ i → (a ≤ i) ⊎ (b ≤ i)
          either a b i h = elim (leb_tells a i) [ inl l ↦ inl l.1 | inr l ↦ inr (let m = l.1 in omega (arith, h, m)) ]

-- ---- numbers

pub product_fits : (a b : ℕ) → a < 2 ^ 64 → b < 2 ^ 64 → a * b < 2 ^ 128
product_fits a b ha hb =
    let le : a * b ≤ (2 ^ 64 - 1) * (2 ^ 64 - 1) = mul-le a b (2 ^ 64 - 1) (2 ^ 64 - 1) (omega (arith, ha)) (omega (arith, hb)) in
    let less : (2 ^ 64 - 1) * (2 ^ 64 - 1) < 2 ^ 128 = omega arith in
    omega (arith, le, less)

pub many_some : (rows : List Rows) (n : ℕ) (r : Rows) → slice_get rows n ≡ Some r → length r ≡ length (rows_at rows n)
many_some [] n r h = absurd (none-some r h)
many_some (x ∷ rows) zero r h = ap length (sym (same_Some x r h))
many_some (x ∷ rows) (suc n) r h = many_some rows n r h

pub many_none : (rows : List Rows) (n : ℕ) → slice_get rows n ≡ None → 0 ≡ length (rows_at rows n)
many_none [] n h = refl
many_none (x ∷ rows) zero h = absurd (none-some x (sym h))
many_none (x ∷ rows) (suc n) h = many_none rows n h
