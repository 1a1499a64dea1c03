-- The steps that the program adds of one node are those of the plan.
use Rattle.std.proofs.Common.{◌≡◌, ◌⊎◌, inl, inr, ℕ, zero, suc, ◌+◌, ◌-◌, ◌<◌, ◌≤◌, ◌&&◌, not, true, false, List, [], ◌∷◌, ◌++◌, drop, get_or, length, length-append, Option, Some, None, slice_get, refl, sym, ap, ◌∙◌, subst, append_assoc, append-nil, arith}
use Rattle.std.specs.List.{AllByRecursion}
use Rattle.std.proofs.lemmas.Option.{same_Some}
use Rattle.psg_terms.proofs.Lists.{drop_item, get_or_fixed, slice_get-end, slice_get-front, slice_get-middle, slice_get_item, slice_get_once}
use Rattle.psg_grammar.specs.declared.types.Operator.{Operator}
use Rattle.psg_grammar.specs.declared.types.Definition.{Definition}
use Rattle.psg_grammar.specs.Fragments.{Fragment, cell, anything, children_of, top_operator}
use Rattle.psg_grammar.specs.Keys.{Key, in_order}
use Rattle.psg_grammar.specs.Lookups.{is_scope}
use Rattle.psg_grammar.specs.Paths.{Path}
use Rattle.psg_grammar.specs.Regions.{declared_in, declared_inside, names_inside, unfinished_inside}
use Rattle.psg_grammar.specs.Steps.{children_count, first_children}
use Rattle.psg_scope.specs.declared.header.Header.{Header}
use Rattle.psg_scope.specs.Headers.{IsHeader, IsOrdered, declared_keys, keys}
use Rattle.psg_eval.specs.Glues.{outer_names}
use Rattle.psg_eval.specs.OwnRows.{positions}
use Rattle.psg_eval.specs.Stages.{IsInsideHeader}
use Rattle.psg_eval.specs.Summaries.{IsHeaderOf}
use Rattle.psg_eval.specs.Trees.{HasParts, own_names}
use Rattle.psg_eval.proofs.FirstStep.{own_header}
use Rattle.psg_eval.proofs.RegionSteps.{IsJoinedHeader, all_children, closed_header, count_is, next_header, open_header, replaced_header, rest_header}
use Rattle.psg_eval.proofs.Replacing.{element}
use Rattle.psg_explain.specs.declared.adding.Content.{Content}
use Rattle.psg_explain.specs.declared.stages.Site.{Site}
use Rattle.psg_explain.specs.declared.stages.Site.TheVariants as sites
use Rattle.psg_explain.specs.declared.stages.Source.{Source}
use Rattle.psg_explain.specs.declared.stages.Source.TheVariants as sources
use Rattle.psg_explain.specs.declared.stages.Stage.{Stage}
use Rattle.psg_explain.specs.Added.{AddsCell, AddsClosed, AddsPair, AddsPairs, HasStage, ends_of, no_keys_in, stage_of}
use Rattle.psg_explain.specs.Given.{keys_at}
use Rattle.psg_explain.specs.Plans.{Done, Step, adding, closing, from_before, from_itself, from_pair, making}
use Rattle.psg_explain.specs.Sources.{AddsStages, AreEnds, AreStages, HasOwnKeys, IsEnd, IsNodeSite, IsSite, IsSource, IsStage, IsStepNode}

-- ---- one step more

pub pushed_last : {X : Type 0} (old new : List X) (x : X) → new ≡ old ++ x ∷ [] → slice_get new (length new - 1) ≡ Some x
pushed_last old new x e =
    let many = length-append old (x ∷ []) in
    let count = ap length e in
    let place : length new - 1 ≡ length old = omega (arith, many, count) in
    ap (slice_get new) place ∙ ap (λ l. slice_get l (length old)) e ∙ slice_get-end old x

pub pushed_length : {X : Type 0} (old new : List X) (x : X) → new ≡ old ++ x ∷ [] → length new ≡ length old + 1
pushed_length old new x e =
    let many = length-append old (x ∷ []) in
    let count = ap length e in
    omega (arith, many, count)

pub there_within : {X : Type 0} (xs : List X) (i : ℕ) (x : X) → slice_get xs i ≡ Some x → i < length xs
there_within [] i x h = absurd (cc)
there_within (y ∷ xs) zero x h = omega arith
there_within (y ∷ xs) (suc i) x h = let k = there_within xs i x h in omega (arith, k)

pub has_stays : (old new more : List Stage) (n : ℕ) → new ≡ old ++ more → HasStage old n → HasStage new n
has_stays old new more n e (stage, there, ordered) = (stage, ap (λ (l : List Stage). slice_get l n) e ∙ slice_get-front old more n stage there, ordered)

pub all_stay : (old new more : List Stage) (ns : List ℕ) → new ≡ old ++ more → AllByRecursion (HasStage old) ns → AllByRecursion (HasStage new) ns
all_stay old new more [] e h = tt
all_stay old new more (n ∷ ns) e (h, k) = (has_stays old new more n e h, all_stay old new more ns e k)

pub has_last : (old new : List Stage) (stage : Stage) → new ≡ old ++ stage ∷ [] → IsOrdered stage.header → HasStage new (length new - 1)
has_last old new stage e ordered = (stage, pushed_last old new stage e, ordered)

pub pair_last : (path : Path) (c : Option ℕ) (site : Site) (step : ℕ) (old new : List Stage) (child : ℕ) → AddsPair path c site step old new child → HasStage new (length new - 1)
pair_last path c site step old new child (content, is, made) = has_last old new (stage_of path c step site content) made is.ordered

-- the pairs that are still to be added
pub pairs_more : (path : Path) (c : Option ℕ) (site : Site) (n : ℕ) (now new fin : List Stage) (child : ℕ) (children rest : List ℕ) → children ≡ child ∷ rest
    → AddsPair path c site (n + 1) now new child → AddsPairs path c site (n + 1) new fin rest → AddsPairs path c site n now fin children
pairs_more path c site n now new fin child children rest e pair h = subst (AddsPairs path c site n now fin) (sym e) (new, pair, h)

module _ (def : Definition) where
  pub stages_append : (xs ys : List Stage) (ss ts : List Step) → AreStages def xs ss → AreStages def ys ts → AreStages def (xs ++ ys) (ss ++ ts)
  stages_append [] ys ss ts h k = subst (λ (l : List Step). AreStages def ys (l ++ ts)) (sym h) k
  stages_append (x ∷ xs) ys [] ts h k = absurd h
  stages_append (x ∷ xs) ys (s ∷ ss) ts (h, hs) k = (h, stages_append xs ys ss ts hs k)

  pub stages_length : (xs : List Stage) (ss : List Step) → AreStages def xs ss → length xs ≡ length ss
  stages_length [] ss h = sym (ap length h)
  stages_length (x ∷ xs) [] h = absurd h
  stages_length (x ∷ xs) (s ∷ ss) (h, hs) = let e = stages_length xs ss hs in omega (arith, e)

  pub end_stays : (old new more : List Stage) (d : Done) → new ≡ old ++ more → IsEnd def old d → IsEnd def new d
  end_stays old new more d e h = record {
    stage = h.stage;
    there = ap (λ (l : List Stage). slice_get l d.place) e ∙ slice_get-front old more d.place h.stage h.there;
    header = h.header;
    ordered = h.ordered;
  }

  pub ends_stay : (old new more : List Stage) (ds : List Done) → new ≡ old ++ more → AreEnds def old ds → AreEnds def new ds
  ends_stay old new more [] e h = tt
  ends_stay old new more (d ∷ ds) e (h, k) = (end_stays old new more d e h, ends_stay old new more ds e k)

  pub end_there : (stages : List Stage) (d : Done) → IsEnd def stages d → HasStage stages d.place
  end_there stages d h = (h.stage, h.there, h.ordered)

  pub ends_there : (stages : List Stage) (ts : List Fragment) (places : List ℕ) → length places ≡ length ts → AreEnds def stages (ends_of ts places) → AllByRecursion (HasStage stages) places
  ends_there stages ts [] e h = tt
  ends_there stages [] (p ∷ places) e h = absurd (omega (arith, e))
  ends_there stages (t ∷ ts) (p ∷ places) e (h, k) = (end_there stages (record { tree = t; place = p }) h, ends_there stages ts places (omega (arith, e)) k)

  -- ---- the steps of a node

  -- the last step is that of the node with its first n children
  pub record IsUpTo (stages : List Stage) (f : Fragment) (n : ℕ) : Type 0 where
    pub stage : Stage
    pub there : slice_get stages (length stages - 1) ≡ Some stage
    pub header : IsInsideHeader def (first_children n f) stage.header
    pub ordered : IsOrdered stage.header

  -- the step of the node itself
  pub own_step : (path : Path) (c : Option ℕ) (f : Fragment) (site : Site) (content : Content) → IsSite site f → IsStepNode def f → keys content.header.names ≡ keys_at def f 0
      → HasOwnKeys def f (keys content.header.names) → content.source ≡ sources.Own
      → IsStage def (stage_of path c 0 site content) (record { path = path; cell = c; part = f; number = 0; origin = from_itself })
  own_step path c f site content at formed ks own e = record {
    path = refl;
    cell = refl;
    number = refl;
    site = at;
    source = subst (λ (s : Source). IsSource def f s (keys content.header.names) from_itself) (sym e) (ks, own);
    numbered = refl;
    formed = formed;
  }

  -- one child more
  module _ (path : Path) (c : Option ℕ) (f t : Fragment) (site : Site) (n before child : ℕ) (at : IsSite site f) (formed : IsStepNode def f) (few : n + 1 ≤ children_count f)
      (joins : (h : Header) → IsJoinedHeader def (first_children n f) t h → IsInsideHeader def (first_children (n + 1) f) h) where
    abbrev pair_step : Step
    pair_step = record { path = path; cell = c; part = f; number = n + 1; origin = from_pair n before child t }

    pub record OneMore (old new : List Stage) : Type 0 where
      pub stage : Stage
      pub made : new ≡ old ++ stage ∷ []
      pub is : IsStage def stage pair_step
      pub now : IsUpTo new f (n + 1)

    pub pair_next : (old new : List Stage) → length old - 1 ≡ before → IsUpTo old f n → IsEnd def old (record { tree = t; place = child }) → AddsPair path c site (n + 1) old new child → OneMore old new
    pair_next old new place now end (content, is, made) =
        let mine : is.left ≡ now.stage = slice_get_once old (length old - 1) is.left now.stage is.last now.there in
        let other : is.right ≡ end.stage = slice_get_once old child is.right end.stage is.there end.there in
        let left : IsInsideHeader def (first_children n f) is.left.header = subst (λ (s : Stage). IsInsideHeader def (first_children n f) s.header) (sym mine) now.header in
        let right : IsHeaderOf def t is.right.header = subst (λ (s : Stage). IsHeaderOf def t s.header) (sym other) end.header in
        let joint : IsInsideHeader def (first_children (n + 1) f) content.header =
        joins content.header
        (is.region (names_inside def (first_children n f)) (outer_names def t) (declared_inside def (first_children n f)) (declared_in def t)
        (λ s. unfinished_inside def s (first_children n f)) (λ s. not (is_scope def t) && unfinished_inside def s t) left right) in
        record {
          stage = stage_of path c (n + 1) site content;
          made = made;
          is = record {
            path = refl;
            cell = refl;
            number = refl;
            site = at;
            source = subst (λ (s : Source). IsSource def f s (keys content.header.names) (from_pair n before child t)) (sym is.source)
                (place, refl, left.keys_are, right.keys_are, joint.keys_are);
            numbered = (refl, few);
            formed = formed;
          };
          now = record { stage = stage_of path c (n + 1) site content; there = pushed_last old new (stage_of path c (n + 1) site content) made; header = joint; ordered = is.ordered };
        }

  -- ---- an operator's node

  -- the region of a scope operator is closed; of another operator's node all is there
  abbrev pub Closes : Path → Option ℕ → Fragment → List Stage → List Stage → Type 0
  Closes path c f old new =
      ((is_scope def f ≡ false) × (new ≡ old)) ⊎ ((is_scope def f ≡ true) × AddsClosed path c (sites.Node f) (children_count f + 1) old new)

  abbrev pub Comes : Fragment → List Stage → List Stage → List Step → Type 0
  Comes f old new steps = AddsStages def old new steps × IsEnd def new (record { tree = f; place = length new - 1 })

  module _ (path : Path) (c : Option ℕ) (f : Fragment) (formed : IsStepNode def f) (parts : HasParts def f []) (node : IsNodeSite f) where
    all_in : (n : ℕ) → n ≡ length (children_of f) → n ≡ children_count f
    all_in n e = e ∙ sym (count_is def f [] parts)

    inside_of : (n : ℕ) (h : Header) → n ≡ children_count f → IsInsideHeader def (first_children n f) h → IsInsideHeader def f h
    inside_of n h e is = subst (λ g. IsInsideHeader def g h) (ap (λ m. first_children m f) e ∙ all_children def f parts) is

    close : (n before : ℕ) (old new : List Stage) → n ≡ children_count f → length old - 1 ≡ before → IsUpTo old f n → Closes path c f old new → Comes f old new (closing def (is_scope def f) path c f n before)
    close n before old new all place now (inl (scope, same)) =
        let inside = inside_of n now.stage.header all now.header in (
          subst (λ b. AddsStages def old new (closing def b path c f n before)) (sym scope) ([], same ∙ sym (append-nil old), refl),
          subst (λ (l : List Stage). IsEnd def l (record { tree = f; place = length l - 1 })) (sym same)
              (record { stage = now.stage; there = now.there; header = open_header def f now.stage.header scope inside; ordered = now.ordered }),
        )
    close n before old new all place now (inr (scope, (content, is, made))) =
        let mine : is.inside ≡ now.stage = slice_get_once old (length old - 1) is.inside now.stage is.last now.there in
        let inside : IsInsideHeader def f is.inside.header = subst (λ (s : Stage). IsInsideHeader def f s.header) (sym mine) (inside_of n now.stage.header all now.header) in
        let header : IsHeaderOf def f content.header =
        closed_header def f content.header scope (is.region (names_inside def f) (declared_inside def f) (λ s. unfinished_inside def s f) inside) in
        let stage : Stage = stage_of path c (children_count f + 1) (sites.Node f) content in
        let number : children_count f + 1 ≡ n + 1 = omega (arith, all) in
        let step : IsStage def stage (record { path = path; cell = c; part = f; number = n + 1; origin = from_before before }) =
        record {
          path = refl;
          cell = refl;
          number = number;
          site = (refl, node);
          source = subst (λ (s : Source). IsSource def f s (keys content.header.names) (from_before before)) (sym is.source) (place, inside.keys_are, header.keys_are);
          numbered = sym number;
          formed = formed;
        } in (
          subst (λ b. AddsStages def old new (closing def b path c f n before)) (sym scope) (stage ∷ [], made, (step, refl)),
          record { stage = stage; there = pushed_last old new stage made; header = header; ordered = is.ordered },
        )

    -- the steps of the children, one after the other
    pub operator_next : (front ts : List Fragment) (places : List ℕ) (n before : ℕ) (old between new : List Stage) → children_of f ≡ front ++ ts → length front ≡ n → length places ≡ length ts
        → length old - 1 ≡ before → IsUpTo old f n → AreEnds def old (ends_of ts places) → AddsPairs path c (sites.Node f) n old between places → Closes path c f between new
        → Comes f old new (adding def path c f n before (ends_of ts places))
    operator_next front [] [] n before old between new are many count place now ends pairs closes =
        let e : n ≡ length (children_of f) = sym many ∙ ap length (sym (are ∙ append-nil front)) in
        close n before old new (all_in n e) place now (subst (λ (l : List Stage). Closes path c f l new) pairs closes)
    operator_next front [] (p ∷ places) n before old between new are many count place now ends pairs closes = absurd (omega (arith, count))
    operator_next front (t ∷ ts) [] n before old between new are many count place now ends pairs closes = absurd (omega (arith, count))
    operator_next front (t ∷ ts) (p ∷ places) n before old between new are many count place now (end, ends) (next, pair, pairs) closes =
        let at : slice_get (children_of f) n ≡ Some t = ap (λ l. slice_get l n) are ∙ ap (slice_get (front ++ t ∷ ts)) (sym many) ∙ slice_get-middle front t ts in
        let few : n + 1 ≤ children_count f = let k = there_within (children_of f) n t at in let e = count_is def f [] parts in omega (arith, k, e) in
        let one = pair_next path c f t (sites.Node f) n before p (refl, node) formed few (λ h is. next_header def f t n h parts at is) old next place now end pair in
        let longer : length next ≡ length old + 1 = pushed_length old next one.stage one.made in
        let some = there_within old (length old - 1) now.stage now.there in
        let later : length next - 1 ≡ before + 1 = omega (arith, longer, place, some) in
        let pushed = length-append front (t ∷ []) in
        let ((more, added, steps), last) =
        operator_next (front ++ t ∷ []) ts places (n + 1) (before + 1) next between new (are ∙ sym (append_assoc front (t ∷ []) ts)) (omega (arith, pushed, many)) (omega (arith, count)) later one.now
        (ends_stay old next (one.stage ∷ []) (ends_of ts places) one.made ends) pairs closes in (
          (one.stage ∷ more, added ∙ ap (λ l. l ++ more) one.made ∙ append_assoc old (one.stage ∷ []) more, (one.is, steps)),
          last,
        )

    -- all steps of the node
    pub operator_made : (o : ℕ) (op : Operator) → top_operator f ≡ Some o → slice_get def.operators o ≡ Some op → (content : Content) → content.source ≡ sources.Own
        → IsHeader (keys (positions op.items (own_names f))) (declared_keys (positions op.items (own_names f))) (λ _. false) content.header → IsOrdered content.header
        → (places : List ℕ) (old first between new : List Stage) → length places ≡ length (children_of f) → AreEnds def old (ends_of (children_of f) places)
        → first ≡ old ++ stage_of path c 0 (sites.Node f) content ∷ [] → AddsPairs path c (sites.Node f) 0 first between places → Closes path c f between new
        → Comes f old new (making def (length old) path c f (ends_of (children_of f) places))
    operator_made o op top found content source header ordered places old first between new count ends made pairs closes =
        let stage : Stage = stage_of path c 0 (sites.Node f) content in
        let inside : IsInsideHeader def (first_children 0 f) content.header = own_header def o op found (own_names f) f (record { top = top; parts = parts; own = refl }) content.header header in
        let own : HasOwnKeys def f (keys content.header.names) = λ p other top_is at.
        (let e : o ≡ p = same_Some o p (sym top ∙ top_is) in
        let d : op ≡ other = same_Some op other (sym found ∙ ap (slice_get def.operators) e ∙ at) in
        header.keys_are ∙ ap (λ (x : Operator). in_order (keys (positions x.items (own_names f)))) d) in
        let step = own_step path c f (sites.Node f) content (refl, node) formed inside.keys_are own source in
        let longer : length first ≡ length old + 1 = pushed_length old first stage made in
        let later : length first - 1 ≡ length old = omega (arith, longer) in
        let ((more, added, steps), last) =
        operator_next [] (children_of f) places 0 (length old) first between new refl refl count later
        (record { stage = stage; there = pushed_last old first stage made; header = inside; ordered = ordered }) (ends_stay old first (stage ∷ []) (ends_of (children_of f) places) made ends) pairs closes in (
          (stage ∷ more, added ∙ ap (λ l. l ++ more) made ∙ append_assoc old (stage ∷ []) more, (step, steps)),
          last,
        )

  -- ---- a cell of a list

  no_own_keys : (f : Fragment) (ks : List Key) → top_operator f ≡ None → HasOwnKeys def f ks
  no_own_keys f ks none o op top at = let d : None ≡ Some o = sym none ∙ top in absurd (cc)

  -- the header of a region without keys
  pub empty_header : IsHeader [] [] (λ _. false) (no_keys_in [])
  empty_header = record { whole = tt; keys_are = refl; declares = λ k. refl; spaces = λ s. refl; ascending = tt; repeats = refl }

  pub cell_made : (path : Path) (c : Option ℕ) (l : ℕ) (e r : Fragment) (p : ℕ) (old new : List Stage) → IsStepNode def (cell l e r) → is_scope def r ≡ false
      → IsEnd def old (record { tree = e; place = p }) → IsEnd def old (record { tree = r; place = length old - 1 }) → AddsCell path c l old new p
      → Comes (cell l e r) old new (making def (length old) path c (cell l e r) (record { tree = e; place = p } ∷ record { tree = r; place = length old - 1 } ∷ []))
  cell_made path c l e r p old new formed scope element_end rest_end adds =
      let f : Fragment = cell l e r in
      let content : Content = record { header = no_keys_in []; source = sources.Own } in
      let stage : Stage = stage_of path c 0 (sites.Cell l) content in
      let step : IsStage def stage (record { path = path; cell = c; part = f; number = 0; origin = from_itself }) =
      own_step path c f (sites.Cell l) content (e, r, refl) formed refl (no_own_keys f [] refl) refl in
      let one_longer : length adds.one ≡ length old + 1 = pushed_length old adds.one stage adds.own in
      let one_place : length adds.one - 1 ≡ length old = omega (arith, one_longer) in
      let few : 1 ≤ 2 = omega arith in
      let all : 2 ≤ 2 = omega arith in
      let one = pair_next path c f e (sites.Cell l) 0 (length old) p (e, r, refl) formed few
      (λ h is. replaced_header def e (cell l anything anything) (cell l e anything) h element is) adds.one adds.two one_place
      (record { stage = stage; there = pushed_last old adds.one stage adds.own; header = empty_header; ordered = record { keys_rise = tt; spaces_rise = tt } })
      (end_stays old adds.one (stage ∷ []) (record { tree = e; place = p }) adds.own element_end) adds.first in
      let two_longer : length adds.two ≡ length adds.one + 1 = pushed_length adds.one adds.two one.stage one.made in
      let two_place : length adds.two - 1 ≡ length old + 1 = omega (arith, two_longer, one_longer) in
      let two = pair_next path c f r (sites.Cell l) 1 (length old + 1) (length old - 1) (e, r, refl) formed all
      (λ h is. rest_header def l e r h scope is) adds.two new two_place one.now
      (end_stays adds.one adds.two (one.stage ∷ []) (record { tree = r; place = length old - 1 }) one.made
      (end_stays old adds.one (stage ∷ []) (record { tree = r; place = length old - 1 }) adds.own rest_end)) adds.second in (
        (
          stage ∷ one.stage ∷ two.stage ∷ [],
          two.made ∙ ap (λ z. z ++ two.stage ∷ []) (one.made ∙ ap (λ z. z ++ one.stage ∷ []) adds.own ∙ append_assoc old (stage ∷ []) (one.stage ∷ []))
              ∙ append_assoc old (stage ∷ one.stage ∷ []) (two.stage ∷ []),
          (step, (one.is, (two.is, refl))),
        ),
        record { stage = two.now.stage; there = two.now.there; header = open_header def f two.now.stage.header refl two.now.header; ordered = two.now.ordered },
      )

-- ---- a step that is read

pub stage_there : (stages : List Stage) (n : ℕ) (stage : Stage) → HasStage stages n → stage ≡ get_or stages n stage → slice_get stages n ≡ Some stage
stage_there stages n stage (x, there, ordered) at = slice_get_item stages n stage (there_within stages n x there) at

pub stage_ordered : (stages : List Stage) (n : ℕ) (stage : Stage) → HasStage stages n → stage ≡ get_or stages n stage → IsOrdered stage.header
stage_ordered stages n stage (x, there, ordered) at =
    let same : x ≡ stage = slice_get_once stages n x stage there (stage_there stages n stage (x, there, ordered) at) in
    subst (λ (s : Stage). IsOrdered s.header) same ordered

pub stage_within : (stages : List Stage) (n : ℕ) → HasStage stages n → n < length stages
stage_within stages n (x, there, ordered) = there_within stages n x there

pub some_stages : (stages : List Stage) → HasStage stages (length stages - 1) → 1 ≤ length stages
some_stages stages h = let k = stage_within stages (length stages - 1) h in omega (arith, k)

-- of places that all have a step the place of this number
pub child_there : (stages : List Stage) (ns : List ℕ) (i : ℕ) → i < length ns → AllByRecursion (HasStage stages) ns → HasStage stages (get_or ns i 0)
child_there stages [] i lt h = absurd (omega (arith, lt))
child_there stages (n ∷ ns) zero lt (h, hs) = h
child_there stages (n ∷ ns) (suc i) lt (h, hs) = child_there stages ns i (omega (arith, lt)) hs

pub child_next : (ns : List ℕ) (i : ℕ) → i < length ns → drop i ns ≡ get_or ns i 0 ∷ drop (i + 1) ns
child_next ns i lt = drop_item ns i (get_or ns i 0) lt (get_or_fixed ns i 0 lt)

-- ---- the steps of a cell

pub cell_last : (old new : List Stage) (path : Path) (c : Option ℕ) (l : ℕ) (h : Header) → h ≡ no_keys_in []
    → new ≡ old ++ stage_of path c 0 (sites.Cell l) (record { header = h; source = sources.Own }) ∷ [] → HasStage new (length new - 1)
cell_last old new path c l h e made =
    has_last old new (stage_of path c 0 (sites.Cell l) (record { header = h; source = sources.Own })) made (subst IsOrdered (sym e) (record { keys_rise = tt; spaces_rise = tt }))

pub pair_kept : (path : Path) (c : Option ℕ) (site : Site) (step : ℕ) (old new : List Stage) (child n : ℕ) → AddsPair path c site step old new child → HasStage old n → HasStage new n
pair_kept path c site step old new child n (content, is, made) h = has_stays old new (stage_of path c step site content ∷ []) n made h
