-- The steps that the program adds of a tree are those of its plan.
use Rattle.std.proofs.Common.{◌≡◌, inl, inr, ℕ, zero, suc, ◌+◌, ◌-◌, ◌<◌, ◌≤◌, Bool, true, false, List, [], ◌∷◌, ◌++◌, get_or, take, drop, length, length-append, Option, Some, None, slice_get, option_and_then, refl, sym, ap, ap₂, ◌∙◌, subst, append_assoc, append-nil, arith}
use Rattle.std.specs.List.{AllByRecursion}
use Rattle.std.proofs.lemmas.List.{drop_all, take_all}
use Rattle.std.proofs.lemmas.Option.{same_Some, slice_get_within}
use Rattle.psg_terms.proofs.Lists.{drop_item, drop_there, slice_get_some, take_item}
use Rattle.psg_grammar.specs.declared.types.Kind.TheVariants as kinds
use Rattle.psg_grammar.specs.declared.types.Definition.{Definition}
use Rattle.psg_grammar.specs.Fragments.{Fragment, hole, ending, cell, operator, with_child, with_name, with_number, with_text, anything, observed, children_of, top_operator}
use Rattle.psg_grammar.specs.declared.types.Operator.{Operator}
use Rattle.psg_grammar.specs.Declaring.{is_declaring}
use Rattle.psg_grammar.specs.Lookups.{is_scope, operator_at, scopes}
use Rattle.psg_grammar.specs.Paths.{Path}
use Rattle.psg_grammar.specs.Steps.{children_count}
use Rattle.psg_grammar.specs.WellFormed.{IsPlain}
use Rattle.psg_grammar.specs.Keys.{Key}
use Rattle.psg_scope.specs.declared.header.Header.{Header}
use Rattle.psg_scope.specs.Headers.{IsHeader, IsOrdered, declared_keys, keys}
use Rattle.psg_tree.specs.declared.tree.Part.{Part}
use Rattle.psg_tree.specs.declared.tree.Part.TheVariants as parts
use Rattle.psg_tree.specs.declared.tree.Shape.{Shape}
use Rattle.psg_tree.specs.declared.tree.Shape.TheVariants as shapes
use Rattle.psg_tree.specs.Shapes.{height, list_of, subtrees, tree_of, with_parts}
use Rattle.psg_tree.proofs.Children.{children-list, children-with_parts}
use Rattle.psg_scope.specs.declared.header.NameCol.{NameCol}
use Rattle.psg_eval.specs.OwnRows.{positions}
use Rattle.psg_eval.specs.Summaries.{AreSpacesOfList, IsHeaderOf}
use Rattle.psg_eval.proofs.LeafAnswers.{no_header}
use Rattle.psg_eval.specs.Trees.{HasParts, own_names}
use Rattle.psg_eval.proofs.RegionSteps.{count_is}
use Rattle.psg_cache.specs.Notes.{IsFormed}
use Rattle.psg_cache.proofs.ChildLaws.{formed_below, lower}
use Rattle.psg_cache.proofs.RealTrees.{IsSpine}
use Rattle.psg_explain.specs.declared.adding.Content.{Content}
use Rattle.psg_explain.specs.declared.stages.Site.{Site}
use Rattle.psg_explain.specs.declared.stages.Site.TheVariants as sites
use Rattle.psg_explain.specs.declared.stages.Source.TheVariants as sources
use Rattle.psg_explain.specs.declared.stages.Stage.{Stage}
use Rattle.psg_explain.specs.Added.{AddsBelow, AddsCell, AddsClosed, AddsPairs, ends_of, no_keys_in, planned_all, stage_of}
use Rattle.psg_explain.specs.Plans.{Below, Done, Step, finished, listing, making, planned, planned_below, with_last}
use Rattle.psg_explain.specs.Sources.{AddsStages, AreEnds, AreStages, HasOwnKeys, IsEnd, IsStepNode}
use Rattle.psg_explain.specs.Splits.{names_among}
use Rattle.psg_explain.proofs.CasingLaws.{own_names_of, top_of}
use Rattle.psg_explain.proofs.FormedParts.{all_parts, operator_of}
use Rattle.psg_explain.proofs.StepLaws.{Closes, Comes, cell_made, empty_header, ends_stay, operator_made, own_step, pushed_last, stages_append, stages_length}

-- ---- trees with places

pub no_ends : (ts : List Fragment) → ends_of ts [] ≡ []
no_ends [] = refl
no_ends (t ∷ ts) = refl

pub ends_push : (ts : List Fragment) (places : List ℕ) (t : Fragment) (p : ℕ) → length places ≡ length ts
    → ends_of (ts ++ t ∷ []) (places ++ p ∷ []) ≡ ends_of ts places ++ record { tree = t; place = p } ∷ []
ends_push [] [] t p e = refl
ends_push [] (q ∷ places) t p e = absurd (omega (arith, e))
ends_push (x ∷ ts) [] t p e = absurd (omega (arith, e))
ends_push (x ∷ ts) (q ∷ places) t p e = ap (λ (l : List Done). record { tree = x; place = q } ∷ l) (ends_push ts places t p (omega (arith, e)))

pub ends_drop : (n : ℕ) (ts : List Fragment) (places : List ℕ) → length places ≡ length ts → drop n (ends_of ts places) ≡ ends_of (drop n ts) (drop n places)
ends_drop zero ts places e = refl
ends_drop (suc n) [] [] e = refl
ends_drop (suc n) [] (q ∷ places) e = absurd (omega (arith, e))
ends_drop (suc n) (x ∷ ts) [] e = absurd (omega (arith, e))
ends_drop (suc n) (x ∷ ts) (q ∷ places) e = ends_drop n ts places (omega (arith, e))

none_taken : {X : Type 0} (xs : List X) → take 0 xs ≡ []
none_taken [] = refl
none_taken (x ∷ xs) = refl

-- ---- below a tree are its children

module _ (def : Definition) where
  -- so many children more in front, or one more at the end
  front_last : (base : ℕ) (first : List Step) (b : Below) (c : Done) (t : Fragment) (steps : ℕ → List Step)
      → ◌≡◌ {A = Below} (record {
        steps = first ++ (b.steps ++ steps (base + length first + length b.steps));
        children = c ∷ (b.children ++ record { tree = t; place = base + length first + length b.steps + length (steps (base + length first + length b.steps)) - 1 } ∷ []);
      }) (with_last def base (record { steps = first ++ b.steps; children = c ∷ b.children }) t steps)
  front_last base first b c t steps =
      let many = length-append first b.steps in
      let place : base + length first + length b.steps ≡ base + length (first ++ b.steps) = omega (arith, many) in
      ap (λ (m : ℕ). record {
        steps = first ++ (b.steps ++ steps m);
        children = c ∷ (b.children ++ record { tree = t; place = m + length (steps m) - 1 } ∷ []);
      }) place
      ∙ ap (λ (l : List Step). record {
        steps = l;
        children = c ∷ (b.children ++ record { tree = t; place = base + length (first ++ b.steps) + length (steps (base + length (first ++ b.steps))) - 1 } ∷ []);
      }) (sym (append_assoc first b.steps (steps (base + length (first ++ b.steps)))))

  pub all_push : (ts : List Fragment) (base n m : ℕ) (path : Path) (t : Fragment) → m ≡ n + length ts
      → planned_all def base path n (ts ++ t ∷ []) ≡ with_last def base (planned_all def base path n ts) t (λ k. planned def k (path ++ m ∷ []) t)
  all_push [] base n m path t e =
      let same : m ≡ n = omega (arith, e) in
      let start : base ≡ base + 0 = omega arith in
      ap (λ (l : List Step). record { steps = l; children = record { tree = t; place = base + length (planned def base (path ++ n ∷ []) t) - 1 } ∷ [] }) (append-nil (planned def base (path ++ n ∷ []) t))
      ∙ ap₂ (λ (k i : ℕ). record { steps = planned def k (path ++ i ∷ []) t; children = record { tree = t; place = k + length (planned def k (path ++ i ∷ []) t) - 1 } ∷ [] }) start (sym same)
  all_push (x ∷ ts) base n m path t e =
      let first : List Step = planned def base (path ++ n ∷ []) x in
      let next : m ≡ n + 1 + length ts = omega (arith, e) in
      ap (λ (b : Below). record { steps = first ++ b.steps; children = record { tree = x; place = base + length first - 1 } ∷ b.children }) (all_push ts (base + length first) (n + 1) m path t next)
      ∙ front_last base first (planned_all def (base + length first) path (n + 1) ts) (record { tree = x; place = base + length first - 1 }) t (λ k. planned def k (path ++ m ∷ []) t)

  -- an operator's node
  pub below_all : (f : Fragment) (base : ℕ) (path : Path) → IsSpine f → planned_below def base path 0 f ≡ planned_all def base path 0 (children_of f)
  below_all (operator o) base path h = refl
  below_all (with_child f t) base path h =
      let m : length (children_of f) ≡ 0 + length (children_of f) = omega arith in
      ap (λ (b : Below). with_last def base b t (λ k. planned def k (path ++ length (children_of f) ∷ []) t)) (below_all f base path h)
      ∙ sym (all_push (children_of f) base 0 (length (children_of f)) path t m)
  below_all (with_name f n) base path h = below_all f base path h
  below_all (with_number f n) base path h = below_all f base path h
  below_all (with_text f n) base path h = below_all f base path h
  below_all (hole p) base path h = absurd h
  below_all (ending l u) base path h = absurd h
  below_all (cell l e r) base path h = absurd h
  below_all anything base path h = absurd h
  below_all (observed f) base path h = absurd h

  made_below : (f : Fragment) (base : ℕ) (path : Path) → IsSpine f → planned def base path f ≡ finished def base (planned_below def base path 0 f) (λ n children. making def n path None f children)
  made_below (operator o) base path h = let start : base ≡ base + 0 = omega arith in ap (λ n. making def n path None (operator o) []) start
  made_below (with_child f t) base path h = refl
  made_below (with_name f n) base path h = refl
  made_below (with_number f n) base path h = refl
  made_below (with_text f n) base path h = refl
  made_below (hole p) base path h = absurd h
  made_below (ending l u) base path h = absurd h
  made_below (cell l e r) base path h = absurd h
  made_below anything base path h = absurd h
  made_below (observed f) base path h = absurd h

  pub operator_planned : (f : Fragment) (base : ℕ) (path : Path) → IsSpine f
      → planned def base path f ≡ finished def base (planned_all def base path 0 (children_of f)) (λ n children. making def n path None f children)
  operator_planned f base path h = made_below f base path h ∙ ap (λ (b : Below). finished def base b (λ n children. making def n path None f children)) (below_all f base path h)

  -- a list
  list_below : (es : List Fragment) (base : ℕ) (path : Path) (n l : ℕ) (u : Bool) → planned_below def base path n (list_of l es u) ≡ planned_all def base path n es
  list_below [] base path n l u = refl
  list_below (e ∷ es) base path n l u =
      let first : List Step = planned def base (path ++ n ∷ []) e in
      ap (λ (b : Below). record { steps = first ++ b.steps; children = record { tree = e; place = base + length first - 1 } ∷ b.children }) (list_below es (base + length first) path (n + 1) l u)

  pub list_planned : (es : List Fragment) (base : ℕ) (path : Path) (l : ℕ) (u : Bool)
      → planned def base path (list_of l es u) ≡ finished def base (planned_all def base path 0 es) (λ n children. listing def n path 0 (list_of l es u) children)
  list_planned [] base path l u = let start : base ≡ base + 0 = omega arith in ap (λ n. listing def n path 0 (ending l u) []) start
  list_planned (e ∷ es) base path l u =
      ap (λ (b : Below). finished def base b (λ n children. listing def n path 0 (cell l e (list_of l es u)) children)) (list_below (e ∷ es) base path 0 l u)

  -- ---- the steps of children, one after the other

  pub record BelowTo (path : Path) (trees : List Fragment) (old now : List Stage) (i : ℕ) (places : List ℕ) : Type 0 where
    pub more : List Stage
    pub steps : List Step
    pub added : now ≡ old ++ more
    pub stages : AreStages def more steps
    pub all_steps : (planned_all def (length old) path 0 trees).steps ≡ steps ++ (planned_all def (length now) path i (drop i trees)).steps
    pub all_children : (planned_all def (length old) path 0 trees).children ≡ ends_of (take i trees) places ++ (planned_all def (length now) path i (drop i trees)).children
    pub count : length places ≡ length (take i trees)
    pub ends : AreEnds def now (ends_of (take i trees) places)

  module _ (path : Path) (trees : List Fragment) where
    pub below_start : (old : List Stage) → BelowTo path trees old old 0 []
    below_start old =
        let none : ends_of (take 0 trees) [] ≡ [] = no_ends (take 0 trees) in
        record {
          more = [];
          steps = [];
          added = sym (append-nil old);
          stages = refl;
          all_steps = refl;
          all_children = ap (λ (l : List Done). l ++ (planned_all def (length old) path 0 trees).children) (sym none);
          count = sym (ap length (none_taken trees));
          ends = subst (AreEnds def old) (sym none) tt;
        }

    pub below_next : (old now new : List Stage) (i : ℕ) (places longer : List ℕ) (t : Fragment) (below : Path) → i < length trees → t ≡ get_or trees i t → below ≡ path ++ i ∷ []
        → BelowTo path trees old now i places → AddsStages def now new (planned def (length now) below t) → IsEnd def new (record { tree = t; place = length new - 1 }) → longer ≡ places ++ (length new - 1) ∷ []
        → BelowTo path trees old new (i + 1) longer
    below_next old now new i places longer t below lt at is h (more, added, steps) end pushed =
        let first : List Step = planned def (length now) (path ++ i ∷ []) t in
        let mine : AreStages def more first = subst (λ p. AreStages def more (planned def (length now) p t)) is steps in
        let long = stages_length def more first mine in
        let many = length-append now more in
        let count = ap length added in
        let later : length now + length first ≡ length new = omega (arith, long, many, count) in
        let rest : List Fragment = drop (i + 1) trees in
        let apart : drop i trees ≡ t ∷ rest = drop_item trees i t lt at in
        let taken : take (i + 1) trees ≡ take i trees ++ t ∷ [] = take_item trees i t lt at in
        let steps_are : (planned_all def (length now) path i (drop i trees)).steps ≡ first ++ (planned_all def (length new) path (i + 1) rest).steps =
        ap (λ l. (planned_all def (length now) path i l).steps) apart ∙ ap (λ k. first ++ (planned_all def k path (i + 1) rest).steps) later in
        let children_are : (planned_all def (length now) path i (drop i trees)).children ≡ record { tree = t; place = length new - 1 } ∷ (planned_all def (length new) path (i + 1) rest).children =
        ap (λ l. (planned_all def (length now) path i l).children) apart ∙ ap (λ k. record { tree = t; place = k - 1 } ∷ (planned_all def k path (i + 1) rest).children) later in
        let ends_are : ends_of (take (i + 1) trees) longer ≡ ends_of (take i trees) places ++ record { tree = t; place = length new - 1 } ∷ [] =
        ap₂ ends_of taken pushed ∙ ends_push (take i trees) places t (length new - 1) h.count in
        record {
          more = h.more ++ more;
          steps = h.steps ++ first;
          added = added ∙ ap (λ l. l ++ more) h.added ∙ append_assoc old h.more more;
          stages = stages_append def h.more more h.steps first h.stages mine;
          all_steps = h.all_steps ∙ ap (λ l. h.steps ++ l) steps_are ∙ sym (append_assoc h.steps first (planned_all def (length new) path (i + 1) rest).steps);
          all_children = h.all_children ∙ ap (λ l. ends_of (take i trees) places ++ l) children_are
              ∙ sym (append_assoc (ends_of (take i trees) places) (record { tree = t; place = length new - 1 } ∷ []) (planned_all def (length new) path (i + 1) rest).children)
              ∙ ap (λ l. l ++ (planned_all def (length new) path (i + 1) rest).children) (sym ends_are);
          count = (let one = ap length pushed in let two = ap length taken in let three = length-append places ((length new - 1) ∷ []) in let four = length-append (take i trees) (t ∷ []) in let five = h.count in
              omega (arith, one, two, three, four, five));
          ends = subst (AreEnds def new) (sym ends_are)
              (each_push new (ends_of (take i trees) places) (record { tree = t; place = length new - 1 }) (ends_stay def now new more (ends_of (take i trees) places) added h.ends) end);
        }
      where
        each_push : (stages : List Stage) (ds : List Done) (d : Done) → AreEnds def stages ds → IsEnd def stages d → AreEnds def stages (ds ++ d ∷ [])
        each_push stages [] d h k = (k, tt)
        each_push stages (x ∷ ds) d (h, hs) k = (h, each_push stages ds d hs k)

    pub below_end : (old now : List Stage) (i : ℕ) (places : List ℕ) → length trees ≤ i → BelowTo path trees old now i places → AddsBelow def path trees old now places
    below_end old now i places le h =
        let none : drop i trees ≡ [] = drop_all i trees le in
        let all : take i trees ≡ trees = take_all i trees le in
        record {
          more = h.more;
          added = h.added;
          stages = subst (AreStages def h.more) (sym (h.all_steps ∙ ap (λ l. h.steps ++ (planned_all def (length now) path i l).steps) none ∙ append-nil h.steps)) h.stages;
          children = h.all_children ∙ ap (λ l. ends_of (take i trees) places ++ (planned_all def (length now) path i l).children) none ∙ append-nil (ends_of (take i trees) places) ∙ ap (λ l. ends_of l places) all;
          count = h.count ∙ ap length all;
          ends = subst (λ l. AreEnds def now (ends_of l places)) all h.ends;
        }

    -- the steps of the children and then those of the node
    pub finish : (old between new : List Stage) (places : List ℕ) (own : ℕ → List Done → List Step) → AddsBelow def path trees old between places
        → AddsStages def between new (own (length between) (ends_of trees places)) → AddsStages def old new (finished def (length old) (planned_all def (length old) path 0 trees) own)
    finish old between new places own b (more, added, steps) =
        let all = planned_all def (length old) path 0 trees in
        let long = stages_length def b.more all.steps b.stages in
        let many = length-append old b.more in
        let count = ap length b.added in
        let place : length between ≡ length old + length all.steps = omega (arith, long, many, count) in (
          b.more ++ more,
          added ∙ ap (λ l. l ++ more) b.added ∙ append_assoc old b.more more,
          stages_append def b.more more all.steps (own (length old + length all.steps) all.children) b.stages
              (subst (AreStages def more) (ap₂ own place (sym b.children)) steps),
        )

  -- ---- a placeholder

  no_own : (p : ℕ) → HasOwnKeys def (hole p) []
  no_own p o op top at = let d : None ≡ Some o = top in absurd (cc)

  pub hole_made : (p : ℕ) (f : Fragment) (path : Path) (content : Content) (old new : List Stage) → hole p ≡ f → content.header ≡ no_keys_in [] → content.source ≡ sources.Own → IsStepNode def f
      → new ≡ old ++ stage_of path None 0 (sites.Node f) content ∷ []
      → AddsStages def old new (planned def (length old) path f) × IsEnd def new (record { tree = f; place = length new - 1 })
  hole_made p f path content old new e header source formed made =
      subst (λ g. IsStepNode def g → new ≡ old ++ stage_of path None 0 (sites.Node g) content ∷ [] → AddsStages def old new (planned def (length old) path g) × IsEnd def new (record { tree = g; place = length new - 1 }))
      e at formed made
    where
      at : IsStepNode def (hole p) → new ≡ old ++ stage_of path None 0 (sites.Node (hole p)) content ∷ []
          → AddsStages def old new (planned def (length old) path (hole p)) × IsEnd def new (record { tree = hole p; place = length new - 1 })
      at formed made =
          let stage : Stage = stage_of path None 0 (sites.Node (hole p)) content in
          let none : keys content.header.names ≡ [] = ap (λ (h : Header). keys h.names) header in (
            (
              stage ∷ [],
              made,
              (own_step def path None (hole p) (sites.Node (hole p)) content (refl, inl (p, refl)) formed none (subst (HasOwnKeys def (hole p)) (sym none) (no_own p)) source, refl),
            ),
            record {
              stage = stage;
              there = pushed_last old new stage made;
              header = subst (IsHeader [] [] (λ _. false)) (sym header) (empty_header def);
              ordered = subst IsOrdered (sym header) (record { keys_rise = tt; spaces_rise = tt });
            },
          )

  -- ---- a list's end and its cells

  -- a list without its first elements
  pub rest_formed : (es : List Fragment) (k l : ℕ) (u : Bool) → IsStepNode def (list_of l es u) → IsStepNode def (list_of l (drop k es) u)
  rest_formed es zero l u h = h
  rest_formed [] (suc k) l u h = h
  rest_formed (e ∷ es) (suc k) l u (kind, ((a, b, own, at, fe, fr, un), plain)) = rest_formed es k l u (kinds.List l, (fr, plain.1))

  pub no_scope : (l : ℕ) (es : List Fragment) (u : Bool) → is_scope def (list_of l es u) ≡ false
  no_scope l [] u = refl
  no_scope l (e ∷ es) u = refl

  pub end_made : (path : Path) (n l : ℕ) (u : Bool) (content : Content) (old new : List Stage) → IsStepNode def (ending l u) → keys content.header.names ≡ [] → content.source ≡ sources.Own
      → IsHeaderOf def (ending l u) content.header → IsOrdered content.header → new ≡ old ++ stage_of path (Some n) 0 (sites.End l u) content ∷ []
      → AddsStages def old new (listing def (length old) path n (ending l u) []) × IsEnd def new (record { tree = ending l u; place = length new - 1 })
  end_made path n l u content old new formed none source header ordered made =
      let stage : Stage = stage_of path (Some n) 0 (sites.End l u) content in (
        (
          stage ∷ [],
          made,
          (own_step def path (Some n) (ending l u) (sites.End l u) content refl formed none (no_own_at (keys content.header.names)) source, refl),
        ),
        record { stage = stage; there = pushed_last old new stage made; header = header; ordered = ordered },
      )
    where
      no_own_at : (ks : List Key) → HasOwnKeys def (ending l u) ks
      no_own_at ks o op top at = let d : None ≡ Some o = top in absurd (cc)

  module _ (path : Path) (l : ℕ) (es : List Fragment) (u : Bool) (places : List ℕ) where
    abbrev rest_of : ℕ → Fragment
    rest_of k = list_of l (drop k es) u

    -- the end and the cells from this number on
    pub record ListedTo (old now : List Stage) (k : ℕ) : Type 0 where
      pub more : List Stage
      pub added : now ≡ old ++ more
      pub stages : AreStages def more (listing def (length old) path k (rest_of k) (drop k (ends_of es places)))
      pub last : IsEnd def now (record { tree = rest_of k; place = length now - 1 })
      pub ends : AreEnds def now (ends_of es places)

    pub listed_start : (old now : List Stage) → length places ≡ length es → AreEnds def old (ends_of es places)
        → AddsStages def old now (listing def (length old) path (length es) (ending l u) []) → IsEnd def now (record { tree = ending l u; place = length now - 1 }) → ListedTo old now (length places)
    listed_start old now count ends (more, added, steps) end =
        let none : drop (length es) es ≡ [] = drop_all (length es) es (omega arith) in
        let rest : ending l u ≡ rest_of (length es) = ap (λ x. list_of l x u) (sym none) in
        let start : ListedTo old now (length es) =
        record {
          more = more;
          added = added;
          stages = subst (λ (g : Fragment). AreStages def more (listing def (length old) path (length es) g (drop (length es) (ends_of es places)))) rest steps;
          last = subst (λ (g : Fragment). IsEnd def now (record { tree = g; place = length now - 1 })) rest end;
          ends = ends_stay def old now more (ends_of es places) added ends;
        } in
        subst (ListedTo old now) (sym count) start

    pub listed_next : (old now new : List Stage) (left k : ℕ) (p : ℕ) → length places ≡ length es → IsStepNode def (list_of l es u) → 0 < left → left ≤ length places → k ≡ left - 1 → p ≡ get_or places k p
        → ListedTo old now left → AddsCell path (Some k) l now new p → ListedTo old new k
    listed_next old now new left k p count formed some le is at h adds =
        let lt : k < length es = omega (arith, count, some, le, is) in
        let lp : k < length places = omega (arith, some, le, is) in
        let next : left ≡ k + 1 = omega (arith, some, is) in
        let (e, there) = slice_get_some es k lt in
        let rest : Fragment = rest_of (k + 1) in
        let ds : List Done = drop (k + 1) (ends_of es places) in
        let apart : drop k es ≡ e ∷ drop (k + 1) es = drop_there es k e there in
        let whole : rest_of k ≡ cell l e rest = ap (λ x. list_of l x u) apart in
        let placed : drop k places ≡ p ∷ drop (k + 1) places = drop_item places k p lp at in
        let ends_are : drop k (ends_of es places) ≡ record { tree = e; place = p } ∷ ds =
        ends_drop k es places count ∙ ap₂ ends_of apart placed ∙ ap (λ x. record { tree = e; place = p } ∷ x) (sym (ends_drop (k + 1) es places count)) in
        let now_at : ListedTo old now (k + 1) = subst (ListedTo old now) next h in
        let front : List Step = listing def (length old) path (k + 1) rest ds in
        let long = stages_length def now_at.more front now_at.stages in
        let many = length-append old now_at.more in
        let total = ap length now_at.added in
        let place : length now ≡ length old + length front = omega (arith, long, many, total) in
        let both : AreEnds def now (record { tree = e; place = p } ∷ ds) = subst (AreEnds def now) ends_are (dropped k (ends_of es places) now now_at.ends) in
        let ((more, added, steps), last) =
        cell_made def path (Some k) l e rest p now new (subst (IsStepNode def) whole (rest_formed es k l u formed)) (no_scope l (drop (k + 1) es) u) both.0 now_at.last adds in
        let own : AreStages def more (making def (length old + length front) path (Some k) (cell l e rest) (record { tree = e; place = p } ∷ record { tree = rest; place = length old + length front - 1 } ∷ [])) =
        subst (λ m. AreStages def more (making def m path (Some k) (cell l e rest) (record { tree = e; place = p } ∷ record { tree = rest; place = m - 1 } ∷ []))) place steps in
        record {
          more = now_at.more ++ more;
          added = added ∙ ap (λ x. x ++ more) now_at.added ∙ append_assoc old now_at.more more;
          stages = subst (AreStages def (now_at.more ++ more)) (sym (ap₂ (listing def (length old) path k) whole ends_are))
              (stages_append def now_at.more more front
              (making def (length old + length front) path (Some k) (cell l e rest) (record { tree = e; place = p } ∷ record { tree = rest; place = length old + length front - 1 } ∷ [])) now_at.stages own);
          last = subst (λ (g : Fragment). IsEnd def new (record { tree = g; place = length new - 1 })) (sym whole) last;
          ends = ends_stay def now new more (ends_of es places) added now_at.ends;
        }
      where
        dropped : (n : ℕ) (ds : List Done) (stages : List Stage) → AreEnds def stages ds → AreEnds def stages (drop n ds)
        dropped zero ds stages h = h
        dropped (suc n) [] stages h = h
        dropped (suc n) (d ∷ ds) stages (h, hs) = dropped n ds stages hs

    pub listed_end : (old now : List Stage) (k : ℕ) → k ≡ 0 → ListedTo old now k
        → AddsStages def old now (listing def (length old) path 0 (list_of l es u) (ends_of es places)) × IsEnd def now (record { tree = list_of l es u; place = length now - 1 })
    listed_end old now k e h =
        let z : ListedTo old now 0 = subst (ListedTo old now) e h in
        ((z.more, z.added, z.stages), z.last)

-- ---- how deep trees are

pub list_low : (es : List Fragment) (n : ℕ) → AllByRecursion (λ c. height c + 1 ≤ n) es → height (list_of 0 es false) ≤ n
list_low [] n h = omega arith
list_low (e ∷ es) n (h, hs) = let k = list_low es n hs in omega (arith, h, k)

-- ---- trees among parts

pub subtrees_more : (ps : List Part) (p : Part) → subtrees (p ∷ ps) ≡ subtrees (p ∷ []) ++ subtrees ps
subtrees_more ps (parts.Sub t) = refl
subtrees_more ps (parts.Name n) = refl
subtrees_more ps (parts.Number n) = refl
subtrees_more ps (parts.Text n) = refl

pub spine_of : (f : Fragment) (ps : List Part) → IsSpine f → IsSpine (with_parts f ps)
spine_of f [] h = h
spine_of f (parts.Sub t ∷ ps) h = spine_of (with_child f t) ps h
spine_of f (parts.Name n ∷ ps) h = spine_of (with_name f n) ps h
spine_of f (parts.Number n ∷ ps) h = spine_of (with_number f n) ps h
spine_of f (parts.Text n ∷ ps) h = spine_of (with_text f n) ps h

-- ---- an operator's node

top_spine : (f : Fragment) (o : ℕ) → IsPlain f → top_operator f ≡ Some o → IsSpine f
top_spine (operator p) o plain e = tt
top_spine (with_child f t) o plain e = top_spine f o plain.0 e
top_spine (with_name f n) o plain e = top_spine f o plain e
top_spine (with_number f n) o plain e = top_spine f o plain e
top_spine (with_text f n) o plain e = top_spine f o plain e
top_spine (hole p) o plain e = absurd (cc)
top_spine (ending l u) o plain e = absurd (cc)
top_spine (cell l v r) o plain e = absurd (cc)
top_spine anything o plain e = absurd (cc)
top_spine (observed f) o plain e = absurd plain

pub node_spine : (def : Definition) (f : Fragment) (o : ℕ) → IsStepNode def f → top_operator f ≡ Some o → IsSpine f
node_spine def f o (kind, (fits, plain)) top = top_spine f o plain top

pub node_parts : (def : Definition) (f : Fragment) (o : ℕ) → IsStepNode def f → top_operator f ≡ Some o → HasParts def f []
node_parts def f o (kind, (fits, plain)) top = all_parts def f kind fits (top_spine f o plain top)

-- one child more than there are
pub closed_number : (def : Definition) (f : Fragment) (n : ℕ) → HasParts def f [] → n ≡ length (children_of f) → n + 1 ≡ children_count f + 1
closed_number def f n parts e = let k = count_is def f [] parts in omega (arith, e, k)

-- ---- the node at the top of a tree

pub shape_op : (s : Shape) (o : ℕ) (ps : List Part) (f : Fragment) → s ≡ shapes.Op o ps → tree_of s ≡ f → with_parts (operator o) ps ≡ f
shape_op s o ps f e h = sym (ap tree_of e) ∙ h

pub shape_list : (s : Shape) (l : ℕ) (es : List Fragment) (u : Bool) (f : Fragment) → s ≡ shapes.List l es u → tree_of s ≡ f → list_of l es u ≡ f
shape_list s l es u f e h = sym (ap tree_of e) ∙ h

pub shape_hole : (s : Shape) (p : ℕ) (f : Fragment) → s ≡ shapes.Hole p → tree_of s ≡ f → hole p ≡ f
shape_hole s p f e h = sym (ap tree_of e) ∙ h

no_list_top : (l : ℕ) (es : List Fragment) (u : Bool) → top_operator (list_of l es u) ≡ None
no_list_top l [] u = refl
no_list_top l (e ∷ es) u = refl

pub list_top : (l : ℕ) (es : List Fragment) (u : Bool) (f : Fragment) (o : ℕ) → list_of l es u ≡ f → top_operator f ≡ Some o → ⊥
list_top l es u f o e top = let d : None ≡ Some o = sym (no_list_top l es u) ∙ ap top_operator e ∙ top in cc

pub hole_top : (p : ℕ) (f : Fragment) (o : ℕ) → hole p ≡ f → top_operator f ≡ Some o → ⊥
hole_top p f o e top = let d : None ≡ Some o = ap top_operator e ∙ top in cc

module _ (def : Definition) where
  pub op_scope : (o : ℕ) (ps : List Part) (f : Fragment) → with_parts (operator o) ps ≡ f → scopes (slice_get def.operators o) ≡ is_scope def f
  op_scope o ps f e = ap (λ (t : Option ℕ). scopes (option_and_then (operator_at def) t)) (sym (top_of (operator o) ps)) ∙ ap (is_scope def) e

  pub hole_scope : (p : ℕ) (f : Fragment) → hole p ≡ f → false ≡ is_scope def f
  hole_scope p f e = ap (is_scope def) e

  pub list_scope : (l : ℕ) (es : List Fragment) (u : Bool) (f : Fragment) → list_of l es u ≡ f → false ≡ is_scope def f
  list_scope l es u f e = sym (no_scope def l es u) ∙ ap (is_scope def) e

  -- the header of an operator's own positions
  pub header_here : (n : ℕ) (ps : List Part) (f : Fragment) (own : List NameCol) (h : Header) → with_parts (operator n) ps ≡ f
      → ((op : Operator) → slice_get def.operators n ≡ Some op → own ≡ positions op.items (names_among ps)) → IsHeader (keys own) (declared_keys own) (λ _. false) h
      → (o : ℕ) (op : Operator) → top_operator f ≡ Some o → slice_get def.operators o ≡ Some op
      → IsHeader (keys (positions op.items (own_names f))) (declared_keys (positions op.items (own_names f))) (λ _. false) h
  header_here n ps f own h e are is o op top found =
      let same : o ≡ n = same_Some o n (sym top ∙ ap top_operator (sym e) ∙ top_of (operator n) ps) in
      let names : own_names f ≡ names_among ps = ap own_names (sym e) ∙ own_names_of (operator n) ps in
      let all : own ≡ positions op.items (own_names f) = are op (ap (slice_get def.operators) (sym same) ∙ found) ∙ ap (positions op.items) (sym names) in
      subst (λ (l : List NameCol). IsHeader (keys l) (declared_keys l) (λ _. false) h) all is

  module _ (f : Fragment) (formed : IsStepNode def f) (top : (o : ℕ) × (top_operator f ≡ Some o)) (path : Path) (c : Option ℕ) where
    pub closes_scope : (n : ℕ) (old new : List Stage) → n ≡ length (children_of f) → is_scope def f ≡ true → AddsClosed path c (sites.Node f) (n + 1) old new → Closes def path c f old new
    closes_scope n old new e scope adds =
        inr (scope, subst (λ m. AddsClosed path c (sites.Node f) m old new) (closed_number def f n (node_parts def f top.0 formed top.1) e) adds)

    pub closes_none : (old : List Stage) → is_scope def f ≡ false → Closes def path c f old old
    closes_none old scope = inl (scope, refl)

    pub operator_comes : (h : Header) (site : Site) → site ≡ sites.Node f
        → ((o : ℕ) (op : Operator) → top_operator f ≡ Some o → slice_get def.operators o ≡ Some op
        → IsHeader (keys (positions op.items (own_names f))) (declared_keys (positions op.items (own_names f))) (λ _. false) h)
        → IsOrdered h → (places : List ℕ) (old first between new : List Stage) → length places ≡ length (children_of f) → AreEnds def old (ends_of (children_of f) places)
        → first ≡ old ++ stage_of path c 0 site (record { header = h; source = sources.Own }) ∷ [] → AddsPairs path c (sites.Node f) 0 first between places → Closes def path c f between new
        → Comes def f old new (making def (length old) path c f (ends_of (children_of f) places))
    operator_comes h site at header ordered places old first between new count ends made pairs closes =
        let parts = node_parts def f top.0 formed top.1 in
        let it = operator_of def f [] parts in
        let content : Content = record { header = h; source = sources.Own } in
        operator_made def path c f formed parts (inr top) it.o it.op it.top it.found content refl (header it.o it.op it.top it.found) ordered places old first between new count ends
        (made ∙ ap (λ s. old ++ stage_of path c 0 s content ∷ []) at) pairs closes

  -- after its children an operator's node comes
  pub operator_whole : (o : ℕ) (ps : List Part) (f : Fragment) (ts : List Fragment) (path : Path) (old between new : List Stage) (places : List ℕ) → with_parts (operator o) ps ≡ f → ts ≡ subtrees ps
      → AddsBelow def path ts old between places → AddsStages def between new (making def (length between) path None f (ends_of (children_of f) places))
      → AddsStages def old new (planned def (length old) path f)
  operator_whole o ps f ts path old between new places e are below steps =
      let spine : IsSpine f = subst IsSpine e (spine_of (operator o) ps tt) in
      let children : children_of f ≡ ts = ap children_of (sym e) ∙ children-with_parts (operator o) ps ∙ sym are in
      let own = λ (n : ℕ) (ds : List Done). making def n path None f ds in
      subst (AddsStages def old new) (sym (operator_planned def f (length old) path spine ∙ ap (λ l. finished def (length old) (planned_all def (length old) path 0 l) own) children))
      (finish def path ts old between new places own below (subst (λ l. AddsStages def between new (making def (length between) path None f (ends_of l places))) children steps))

  pub list_whole : (l : ℕ) (es : List Fragment) (u : Bool) (f : Fragment) (path : Path) (old between new : List Stage) (places : List ℕ) → list_of l es u ≡ f
      → AddsBelow def path es old between places → AddsStages def between new (listing def (length between) path 0 (list_of l es u) (ends_of es places))
      → AddsStages def old new (planned def (length old) path f)
  list_whole l es u f path old between new places e below steps =
      subst (λ g. AddsStages def old new (planned def (length old) path g)) e
      (subst (AddsStages def old new) (sym (list_planned def es (length old) path l u))
      (finish def path es old between new places (λ n ds. listing def n path 0 (list_of l es u) ds) below steps))

  -- what an operator's node takes from the steps of its children
  pub children_ends : (o : ℕ) (ps : List Part) (f : Fragment) (ts : List Fragment) (path : Path) (old between : List Stage) (places : List ℕ) → with_parts (operator o) ps ≡ f → ts ≡ subtrees ps
      → AddsBelow def path ts old between places → AreEnds def between (ends_of (children_of f) places) × (length places ≡ length (children_of f))
  children_ends o ps f ts path old between places e are below =
      let children : ts ≡ children_of f = are ∙ sym (ap children_of (sym e) ∙ children-with_parts (operator o) ps) in
      (subst (λ l. AreEnds def between (ends_of l places)) children below.ends, below.count ∙ ap length children)

  pub op_top : (o : ℕ) (ps : List Part) (f : Fragment) → with_parts (operator o) ps ≡ f → (n : ℕ) × (top_operator f ≡ Some n)
  op_top o ps f e = (o, ap top_operator (sym e) ∙ top_of (operator o) ps)

  -- the trees below are formed, and lower
  pub parts_formed : (o : ℕ) (ps : List Part) (f : Fragment) (ts : List Fragment) → with_parts (operator o) ps ≡ f → ts ≡ subtrees ps → IsStepNode def f
      → AllByRecursion (IsFormed def) ts × (height (list_of 0 ts false) ≤ height f)
  parts_formed o ps f ts e are (kind, (fits, plain)) =
      let children : children_of f ≡ ts = ap children_of (sym e) ∙ children-with_parts (operator o) ps ∙ sym are in (
        subst (AllByRecursion (IsFormed def)) children (formed_below def f [] kind fits plain),
        subst (λ l. height (list_of 0 l false) ≤ height f) children (list_low (children_of f) (height f) (lower f (height f) (omega arith))),
      )

  pub elements_formed : (l : ℕ) (es : List Fragment) (u : Bool) (f : Fragment) → list_of l es u ≡ f → IsStepNode def f
      → AllByRecursion (IsFormed def) es × (height (list_of 0 es false) ≤ height f)
  elements_formed l es u f e (kind, (fits, plain)) =
      let children : children_of f ≡ es = ap children_of (sym e) ∙ children-list l es u in (
        subst (AllByRecursion (IsFormed def)) children (formed_below def f [] kind fits plain),
        subst (λ x. height (list_of 0 x false) ≤ height f) children (list_low (children_of f) (height f) (lower f (height f) (omega arith))),
      )

  pub list_there : (l : ℕ) (es : List Fragment) (u : Bool) → IsStepNode def (list_of l es u) → l < length def.lists
  list_there l [] u (kind, ((a, b, (k, at, z)), plain)) = slice_get_within def.lists l k at
  list_there l (e ∷ es) u (kind, ((a, b, k, at, fe, fr, un), plain)) = slice_get_within def.lists l k at

  pub end_formed : (l : ℕ) (es : List Fragment) (u : Bool) → IsStepNode def (list_of l es u) → IsStepNode def (ending l u)
  end_formed l es u h = subst (λ x. IsStepNode def (list_of l x u)) (drop_all (length es) es (omega arith)) (rest_formed def es (length es) l u h)

  -- the header of a list's end
  pub open_end : (l : ℕ) (u : Bool) (spaces : List ℕ) (h : Header) → u ≡ true → AreSpacesOfList def l spaces → h ≡ no_keys_in spaces → IsHeaderOf def (ending l u) h × IsOrdered h
  open_end l u spaces h e known is = (
    subst (λ b. IsHeaderOf def (ending l b) h) (sym e) (no_header (λ n. is_declaring def n (kinds.List l)) spaces known.ascending known.exact h is),
    subst IsOrdered (sym is) (record { keys_rise = tt; spaces_rise = known.ascending }),
  )

  pub closed_end : (l : ℕ) (u : Bool) (h : Header) → u ≡ false → h ≡ no_keys_in [] → IsHeaderOf def (ending l u) h × IsOrdered h
  closed_end l u h e is = (
    subst (λ b. IsHeaderOf def (ending l b) h) (sym e) (no_header (λ n. false) [] tt (λ n. refl) h is),
    subst IsOrdered (sym is) (record { keys_rise = tt; spaces_rise = tt }),
  )

  pub end_comes : (path : Path) (n l : ℕ) (u : Bool) (h : Header) (old new : List Stage) → IsStepNode def (ending l u) → IsHeaderOf def (ending l u) h → IsOrdered h
      → new ≡ old ++ stage_of path (Some n) 0 (sites.End l u) (record { header = h; source = sources.Own }) ∷ []
      → AddsStages def old new (listing def (length old) path n (ending l u) []) × IsEnd def new (record { tree = ending l u; place = length new - 1 })
  end_comes path n l u h old new formed header ordered made =
      end_made def path n l u (record { header = h; source = sources.Own }) old new formed header.keys_are refl header ordered made

  pub hole_comes : (p : ℕ) (f : Fragment) (path : Path) (h : Header) (site : Site) (old new : List Stage) → hole p ≡ f → h ≡ no_keys_in [] → site ≡ sites.Node f → IsStepNode def f
      → new ≡ old ++ stage_of path None 0 site (record { header = h; source = sources.Own }) ∷ []
      → AddsStages def old new (planned def (length old) path f) × IsEnd def new (record { tree = f; place = length new - 1 })
  hole_comes p f path h site old new e header at formed made =
      let content : Content = record { header = h; source = sources.Own } in
      hole_made def p f path content old new e header refl formed (made ∙ ap (λ s. old ++ stage_of path None 0 s content ∷ []) at)

pub whole_stages : (lang def : Definition) (path : Path) (f : Fragment) (old new : List Stage) (steps : List ℕ) → def ≡ lang → old ≡ [] → steps ≡ path → AddsStages def old new (planned def (length old) steps f)
    → AreStages lang new (planned lang 0 path f)
whole_stages lang def path f old new steps same none are h =
    let (more, added, stages) = subst (λ (l : List Stage). AddsStages def l new (planned def (length l) steps f)) none h in
    let mine : AreStages def new (planned def 0 steps f) = subst (λ (l : List Stage). AreStages def l (planned def 0 steps f)) (sym added) stages in
    subst (λ d. AreStages d new (planned d 0 path f)) same (subst (λ p. AreStages def new (planned def 0 p f)) are mine)
