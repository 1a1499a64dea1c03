-- What the evaluator answers of a node, where no step of it passes the limit.
use Rattle.std.proofs.Common.{◌≡◌, ◌⊎◌, inl, inr, ℕ, zero, suc, ◌+◌, ◌-◌, ◌<◌, ◌≤◌, ◌↔◌, Bool, IsTrue, false, List, [], ◌∷◌, ◌++◌, map, take, get_or, length, length-append, Option, Some, None, slice_get, refl, ap, sym, ◌∙◌, subst, arith}
use Rattle.std.specs.List.{AllByRecursion}
use Rattle.std.proofs.lemmas.Bool.{false≢true}
use Rattle.std.proofs.lemmas.Option.{none-some}
use Rattle.std.specs.Prelude.{Result, Ok, Err, Vec, IfOk}
use Rattle.std.specs.Global.{Global}
use Rattle.psg_terms.proofs.Lists.{take_item}
use Rattle.psg_grammar.specs.declared.types.Definition.{Definition}
use Rattle.psg_grammar.specs.Fragments.{Fragment, hole, ending, cell, operator, with_child, with_name, with_number, with_text, anything, observed, children_of}
use Rattle.psg_grammar.specs.Steps.{IsStepRelation, adding, last_step}
use Rattle.psg_tree.specs.declared.tree.Part.{Part}
use Rattle.psg_tree.specs.Shapes.{subtrees}
use Rattle.psg_tree.proofs.Children.{subtrees-append}
use Rattle.psg_tree.specs.declared.tree.Part.TheVariants as parts
use Rattle.psg_tree.proofs.Children.{children-with_parts}
use Rattle.psg_tree.specs.Shapes.{with_parts}
use Rattle.psg_grammar.specs.declared.types.Kind.TheVariants as kinds
use Rattle.psg_terms.specs.Names.{Name}
use Rattle.psg_grammar.specs.Paths.{Path, node_at}
use Rattle.psg_grammar.specs.WellFormed.{IsListEnd}
use Rattle.psg_cache.specs.Notes.{IsFormed}
use Rattle.psg_cache.specs.Walks.{names_in}
use Rattle.psg_cache.proofs.Evaluations.{is_node, kind_fits, one_kind, takes_at}
use Rattle.psg_eval.specs.Trees.{IsNode}
use Rattle.psg_explain.specs.declared.stages.Site.{Site}
use Rattle.psg_explain.specs.declared.stages.Site.TheVariants as sites
use Rattle.psg_explain.specs.declared.stages.Stage.{Stage}
use Rattle.psg_explain.specs.Plans.{Step}
use Rattle.psg_explain.specs.Sources.{IsNodeSite, IsSite}
use Rattle.psg_explain.specs.Splits.{names_among}
use Rattle.psg_explain.proofs.PlanBlocks.{node_below, suffix_child}
use Rattle.psg_eval.specs.declared.steps.StepRows.{StepRows}
use Rattle.psg_eval.specs.declared.summary.EvalFault.{EvalFault}
use Rattle.psg_eval.specs.declared.summary.EvalFault.TheVariants as faults
use Rattle.psg_eval.specs.declared.summary.SummaryParts.{SummaryParts}
use Rattle.psg_eval.specs.StepRows.{MatchSteps}
use Rattle.psg_eval.specs.Summaries.{AllSummaries, Answers, IsSummary, IsSummaryOf, StaysWithin, TakesAt, TakesCell}
use Rattle.psg_eval.proofs.Closing.{inside_relation}
use Rattle.psg_explain.specs.Relations.{AreOwnFrom, EndsEmpty, IsNodeStep, IsPlaced, IsRestOf, IsWholeOf, rel_of}
use Rattle.psg_explain.proofs.EvalRows.{none_or_some, own_relations}
use Rattle.psg_explain.proofs.PlanLaws.{Rows}

module _ (def : Definition) where
  module _ (f : Fragment) (light : StaysWithin def f) where
    pub not_wide : (answer : Result SummaryParts EvalFault) → Answers def f answer → (step : ℕ) → answer ≡ Err (faults.Wide step) → ⊥
    not_wide answer h step e = let p = subst (Answers def f) e h in light step p.there p.passes

    pub not_wide_steps : (answer : Result (Vec StepRows Global) EvalFault) → MatchSteps def f answer → (step : ℕ) → answer ≡ Err (faults.Wide step) → ⊥
    not_wide_steps answer h step e = let p = subst (MatchSteps def f) e h in light step p.there p.passes

  pub known_summary : (f : Fragment) (answer : Result SummaryParts EvalFault) (s : SummaryParts) → Answers def f answer → answer ≡ Ok s → IsSummaryOf def f s
  known_summary f answer s h e = (subst (Answers def f) e h).0

  pub usual_known : (answer : Result SummaryParts EvalFault) (s : SummaryParts) → IfOk answer (IsSummary def) → answer ≡ Ok s → IsSummary def s
  usual_known answer s h e = subst (λ (r : Result SummaryParts EvalFault). IfOk r (IsSummary def)) e h

  pub known_rows : (f : Fragment) (answer : Result (Vec StepRows Global) EvalFault) (v : Vec StepRows Global) (rows : List Rows) → MatchSteps def f answer → answer ≡ Ok v → rows ≡ map rel_of v.items → AreOwnFrom def f 0 rows
  known_rows f answer v rows h e d = subst (AreOwnFrom def f 0) (sym d) (own_relations def f v.items (subst (MatchSteps def f) e h))

  -- ---- a node with one step

  leaf_own : (f : Fragment) → last_step def f ≡ 0 → (rows : Rows) → IsStepRelation def f 0 rows → AreOwnFrom def f 0 (rows ∷ [])
  leaf_own f last rows step = (step, by (none_or_some rows))
    where
      by : (rows ≡ []) ⊎ (rows ≡ [] → ⊥) → ((rows ≡ []) × (◌≡◌ {A = List Rows} [] [])) ⊎ ((rows ≡ [] → ⊥) × (1 ≡ last_step def f + 1))
      by (inl e) = inl (e, refl)
      by (inr h) = inr (h, omega (arith, last))

  pub hole_own : (p : ℕ) (s : SummaryParts) (all : List Rows) → IsSummaryOf def (hole p) s → all ≡ s.rel ∷ [] → AreOwnFrom def (hole p) 0 all
  hole_own p s all of e =
      subst (AreOwnFrom def (hole p) 0) (sym e) (leaf_own (hole p) refl s.rel (adding 0 s.rel (omega arith) (of.rows.0, inside_relation def (hole p) of.rows.0 s.rel refl of.rows.1)))

  pub end_own : (l : ℕ) (u : Bool) (s : SummaryParts) (all : List Rows) → IsSummaryOf def (ending l u) s → all ≡ s.rel ∷ [] → AreOwnFrom def (ending l u) 0 all
  end_own l u s all of e =
      subst (AreOwnFrom def (ending l u) 0) (sym e) (leaf_own (ending l u) refl s.rel (adding 0 s.rel (omega arith) (of.rows.0, inside_relation def (ending l u) of.rows.0 s.rel refl of.rows.1)))

  -- ---- summaries one after the other

  pub summaries_more : (cs : List Fragment) (i : ℕ) (t : Fragment) (s : SummaryParts) (ss : List SummaryParts) → slice_get cs i ≡ Some t → AllSummaries def (take i cs) ss → IsSummaryOf def t s → AllSummaries def (take (i + 1) cs) (ss ++ s ∷ [])
  summaries_more cs i t s ss at h of = let e : i + 1 ≡ suc i = omega arith in subst (λ (n : ℕ). AllSummaries def (take n cs) (ss ++ s ∷ [])) (sym e) (more cs i ss at h)
    where
      more : (xs : List Fragment) (k : ℕ) (ys : List SummaryParts) → slice_get xs k ≡ Some t → AllSummaries def (take k xs) ys → AllSummaries def (take (suc k) xs) (ys ++ s ∷ [])
      more [] k ys a m = absurd (cc)
      more (x ∷ xs) zero [] a m = let d : t ≡ x = cc in (subst (λ (z : Fragment). IsSummaryOf def z s) d of, tt)
      more (x ∷ xs) zero (y ∷ ys) a m = absurd m
      more (x ∷ xs) (suc k) [] a m = absurd m
      more (x ∷ xs) (suc k) (y ∷ ys) a (p, m) = (p, more xs k ys a m)

-- ---- the last of the relations

pub some_there : {X : Type 0} (xs : List X) (n : ℕ) → n < length xs → (x : X) × (slice_get xs n ≡ Some x)
some_there [] n h = absurd (omega (arith, h))
some_there (x ∷ xs) zero h = (x, refl)
some_there (x ∷ xs) (suc n) h = some_there xs n (omega (arith, h))

pub last_empty : (rows : List Rows) (i : ℕ) (r : Rows) → length rows ≡ i + 1 → slice_get rows i ≡ Some r → (r ≡ [] → EndsEmpty rows) × (EndsEmpty rows → r ≡ [])
last_empty [] i r e at = absurd (cc)
last_empty (x ∷ []) zero r e at = let d : x ≡ r = cc in ((λ h. inl (d ∙ h, refl)), (λ h. sym d ∙ only x h))
  where
    only : (y : Rows) → EndsEmpty (y ∷ []) → y ≡ []
    only y (inl (h, n)) = h
    only y (inr h) = absurd h
last_empty (x ∷ []) (suc i) r e at = absurd (cc)
last_empty (x ∷ y ∷ rows) zero r e at = let n : suc (length rows) ≡ 0 = omega (arith, e) in absurd (omega (arith, n))
last_empty (x ∷ y ∷ rows) (suc i) r e at =
    let (to, from) = last_empty (y ∷ rows) i r (omega (arith, e)) at in ((λ h. inr (to h)), (λ h. from (behind h)))
  where
    behind : EndsEmpty (x ∷ y ∷ rows) → EndsEmpty (y ∷ rows)
    behind (inl (h, n)) = let d : y ∷ rows ≡ [] = n in absurd (cc)
    behind (inr h) = h

pub over_iff : (rows : List Rows) (r x : Rows) (b : Bool) → slice_get rows (length rows - 1) ≡ Some r → x ≡ r → IsTrue b ↔ (x ≡ []) → IsTrue b ↔ EndsEmpty rows
over_iff [] r x b at same h = absurd (cc)
over_iff (y ∷ rows) r x b at same h =
    let size : length (y ∷ rows) ≡ length (y ∷ rows) - 1 + 1 = omega arith in
    let ends = last_empty (y ∷ rows) (length (y ∷ rows) - 1) r size at in
    ((λ t. ends.0 (sym same ∙ h.0 t)), (λ e. h.1 (same ∙ ends.1 e)))

pub over_none : (rows : List Rows) → slice_get rows (length rows - 1) ≡ None → IsTrue false ↔ EndsEmpty rows
over_none [] e = ((λ t. absurd (false≢true t)), (λ h. absurd h))
over_none (x ∷ rows) e = let (y, at) = some_there (x ∷ rows) (length (x ∷ rows) - 1) (omega arith) in absurd (none-some y (sym e ∙ at))

-- ---- parts and children by place

pub all_taken : {X : Type 0} (xs : List X) (n : ℕ) → length xs ≤ n → take n xs ≡ xs
all_taken [] zero h = refl
all_taken [] (suc n) h = refl
all_taken (x ∷ xs) zero h = absurd (omega (arith, h))
all_taken {X} (x ∷ xs) (suc n) h = ap (λ (l : List X). x ∷ l) (all_taken xs n (omega (arith, h)))

pub trees_next : (ps : List Part) (i : ℕ) (p : Part) (n r : ℕ) → i < length ps → p ≡ get_or ps i p → n ≡ length (subtrees (take i ps)) → n ≤ i → r ≤ 1 → r ≡ length (subtrees (p ∷ []))
    → (n + r ≡ length (subtrees (take (i + 1) ps))) × (n + r ≤ i + 1)
trees_next ps i p n r lt at e few one is =
    let whole : subtrees (take (i + 1) ps) ≡ subtrees (take i ps) ++ subtrees (p ∷ []) = ap subtrees (take_item ps i p lt at) ∙ subtrees-append (take i ps) (p ∷ []) in
    let sizes = ap length whole ∙ length-append (subtrees (take i ps)) (subtrees (p ∷ [])) in
    (omega (arith, sizes, e, is), omega (arith, few, one))

-- ---- an operator's node

pub names_same : (ps : List Part) → names_among ps ≡ names_in ps
names_same [] = refl
names_same (parts.Sub t ∷ ps) = names_same ps
names_same (parts.Name n ∷ ps) = ap (λ (l : List Name). n ∷ l) (names_same ps)
names_same (parts.Number n ∷ ps) = names_same ps
names_same (parts.Text n ∷ ps) = names_same ps

pub children_many : (o : ℕ) (ps : List Part) → length (children_of (with_parts (operator o) ps)) ≡ length (subtrees ps)
children_many o ps = ap length (children-with_parts (operator o) ps)

module _ (def : Definition) (o : ℕ) (ps : List Part) (formed : IsFormed def (with_parts (operator o) ps)) (names : List Name) (same : names ≡ names_among ps) where
  pub node_takes : (below : List SummaryParts) → AllSummaries def (children_of (with_parts (operator o) ps)) below → AllByRecursion (IsSummary def) below → TakesAt def o names below
  node_takes below are usual =
      let (kind, whole) = formed in
      subst (λ (n : List Name). TakesAt def o n below) (sym (same ∙ names_same ps)) (takes_at def o ps (with_parts (operator o) ps) kind refl whole.0 whole.1 below are usual)

  pub node_is : IsNode def o names (with_parts (operator o) ps)
  node_is =
      let (kind, whole) = formed in
      subst (λ (n : List Name). IsNode def o n (with_parts (operator o) ps)) (sym (same ∙ names_same ps)) (is_node def o ps (with_parts (operator o) ps) kind refl whole.0 whole.1)

-- ---- where a step's node is

module _ (def : Definition) (root : Fragment) (stage : Stage) (rest : Option SummaryParts) where
  pub placed_node : (path : Path) (c : Option ℕ) (f : Fragment) → IsNodeSite f → IsPlaced def root path c f → node_at root path ≡ Some f
  placed_node path c (hole p) i h = h
  placed_node path c (operator p) i h = h
  placed_node path c (with_child f t) i h = h
  placed_node path c (with_name f n) i h = h
  placed_node path c (with_number f n) i h = h
  placed_node path c (with_text f n) i h = h
  placed_node path c anything i h = h
  placed_node path c (observed f) i h = h
  placed_node path c (cell l e r) (inl (p, d)) h = absurd (cc)
  placed_node path c (cell l e r) (inr (p, d)) h = absurd (cc)
  placed_node path c (ending l u) (inl (p, d)) h = absurd (cc)
  placed_node path c (ending l u) (inr (p, d)) h = absurd (cc)

  -- a step of a node
  pub record IsNodeOf (t : Fragment) (s : Step) : Type 0 where
    pub same : s.part ≡ t
    pub site : IsNodeSite t
    pub there : node_at root stage.path ≡ Some t
    pub formed : IsFormed def t
    pub light : StaysWithin def t

  pub node_of : (t : Fragment) (s : Step) → stage.site ≡ sites.Node t → IsNodeStep def root stage rest s → IsNodeOf t s
  node_of t s e is =
      let (same, site) = subst (λ (x : Site). IsSite x s.part) e is.stage.site in
      record {
        same = same;
        site = site;
        there = ap (node_at root) is.stage.path ∙ subst (λ (x : Fragment). node_at root s.path ≡ Some x) same (placed_node s.path s.cell s.part (subst IsNodeSite (sym same) site) is.placed);
        formed = subst (IsFormed def) same is.stage.formed;
        light = subst (StaysWithin def) same is.light;
      }

  -- a step of a list's end
  pub record IsEndOf (l : ℕ) (u : Bool) (s : Step) : Type 0 where
    pub same : s.part ≡ ending l u
    pub end : IsListEnd def l u
    pub light : StaysWithin def (ending l u)

  pub end_of : (l : ℕ) (u : Bool) (s : Step) → stage.site ≡ sites.End l u → IsNodeStep def root stage rest s → IsEndOf l u s
  end_of l u s e is =
      let same = subst (λ (x : Site). IsSite x s.part) e is.stage.site in
      let (kind, formed) = subst (IsFormed def) same is.stage.formed in
      record { same = same; end = formed.0.2; light = subst (StaysWithin def) same is.light }

  -- a step of a cell
  pub record IsCellOf (l : ℕ) (s : Step) : Type 0 where
    pub element : Fragment
    pub behind : Fragment
    pub same : s.part ≡ cell l element behind
    pub number : ℕ
    pub cell_is : stage.cell ≡ Some number
    pub there : node_at root (stage.path ++ number ∷ []) ≡ Some element
    pub summary : SummaryParts
    pub rest_is : rest ≡ Some summary
    pub of_rest : IsSummaryOf def behind summary
    pub usual : IsSummary def summary
    pub light : StaysWithin def (cell l element behind)
    pub formed : IsFormed def (cell l element behind)

  pub cell_of : (l : ℕ) (s : Step) → stage.site ≡ sites.Cell l → IsNodeStep def root stage rest s → IsCellOf l s
  cell_of l s e is =
      let (x, r, same) = subst (λ (y : Site). IsSite y s.part) e is.stage.site in
      let (k, list, number, at, suffix) = subst (IsPlaced def root s.path s.cell) same is.placed in
      let (sum, known, of, usual) = subst (λ (f : Fragment). IsRestOf def f rest) same is.rest in
      record {
        element = x;
        behind = r;
        same = same;
        number = k;
        cell_is = is.stage.cell ∙ number;
        there = node_below k x stage.path root list (ap (node_at root) is.stage.path ∙ at) (suffix_child list k l x r suffix);
        summary = sum;
        rest_is = known;
        of_rest = of;
        usual = usual;
        light = subst (StaysWithin def) same is.light;
        formed = subst (IsFormed def) same is.stage.formed;
      }

  pub no_cell : (l : ℕ) (s : Step) → IsCellOf l s → stage.cell ≡ None → ⊥
  no_cell l s h e = let d : ◌≡◌ {A = Option ℕ} (Some h.number) None = sym h.cell_is ∙ e in absurd (cc)

  pub no_rest : (l : ℕ) (s : Step) → IsCellOf l s → rest ≡ None → ⊥
  no_rest l s h e = let d : ◌≡◌ {A = Option SummaryParts} (Some h.summary) None = sym h.rest_is ∙ e in absurd (cc)

  module _ (l : ℕ) (s : Step) (h : IsCellOf l s) where
    pub element_there : (n : ℕ) → stage.cell ≡ Some n → (path : Path) → path ≡ stage.path → node_at root (path ++ n ∷ []) ≡ Some h.element
    element_there n e path d =
        let q : ◌≡◌ {A = Option ℕ} (Some h.number) (Some n) = sym h.cell_is ∙ e in
        let k : h.number ≡ n = cc in
        ap (λ (p : Path). node_at root (p ++ n ∷ [])) d ∙ subst (λ (m : ℕ). node_at root (stage.path ++ m ∷ []) ≡ Some h.element) k h.there

    pub rest_same : (r : SummaryParts) → rest ≡ Some r → h.summary ≡ r
    rest_same r e = let q : ◌≡◌ {A = Option SummaryParts} (Some h.summary) (Some r) = sym h.rest_is ∙ e in cc

    pub cell_takes : (element r : SummaryParts) → IsSummaryOf def h.element element → IsSummary def element → rest ≡ Some r → TakesCell def l element r
    cell_takes element r of usual e =
        let (kind, ((a, b, k, found, fe, fr, z), plain)) = h.formed in
        let same = rest_same r e in
        record {
          list = k;
          found = found;
          element_kind = one_kind def h.element element.kind (kinds.Phylum k.element) of.kind (kind_fits def h.element [] (kinds.Phylum k.element) fe plain.0);
          rest_kind = subst (λ (q : SummaryParts). q.kind ≡ kinds.List l) same (one_kind def h.behind h.summary.kind (kinds.List l) h.of_rest.kind (kind_fits def h.behind [] (kinds.List l) fr plain.1));
          summaries = (usual, (subst (IsSummary def) same h.usual, tt));
        }

    pub rest_of : (r : SummaryParts) → rest ≡ Some r → IsSummaryOf def h.behind r
    rest_of r e = subst (IsSummaryOf def h.behind) (rest_same r e) h.of_rest

-- ---- what is known of a list from a part of it on

pub site_there : (root t : Fragment) (path here : Path) → path ≡ here → node_at root here ≡ Some t → node_at root path ≡ Some t
site_there root t path here e h = ap (node_at root) e ∙ h

module _ (def : Definition) where
  pub whole_cell : (f : Fragment) (l : ℕ) (e r : Fragment) (w : SummaryParts) → f ≡ cell l e r → IsSummaryOf def (cell l e r) w × IsSummary def w → IsWholeOf def f (Some w)
  whole_cell f l e r w same (of, usual) = subst (λ (x : Fragment). IsWholeOf def x (Some w)) (sym same) (w, refl, of, usual)

  pub whole_end : (f : Fragment) (l : ℕ) (u : Bool) (w : SummaryParts) → f ≡ ending l u → IsSummaryOf def (ending l u) w × IsSummary def w → IsWholeOf def f (Some w)
  whole_end f l u w same (of, usual) = subst (λ (x : Fragment). IsWholeOf def x (Some w)) (sym same) (w, refl, of, usual)

  pub whole_node : (f t : Fragment) (o : Option SummaryParts) → f ≡ t → IsNodeSite t → IsWholeOf def f o
  whole_node f t o same site = subst (λ (x : Fragment). IsWholeOf def x o) (sym same) (by t site)
    where
      by : (x : Fragment) → IsNodeSite x → IsWholeOf def x o
      by (hole p) i = tt
      by (operator p) i = tt
      by (with_child g y) i = tt
      by (with_name g n) i = tt
      by (with_number g n) i = tt
      by (with_text g n) i = tt
      by anything i = tt
      by (observed g) i = tt
      by (cell l e r) (inl (p, d)) = absurd (cc)
      by (cell l e r) (inr (p, d)) = absurd (cc)
      by (ending l u) (inl (p, d)) = absurd (cc)
      by (ending l u) (inr (p, d)) = absurd (cc)
