-- Each step of a node has a relation, whether or not it is within the limit.
use Rattle.std.proofs.Common.{◌≡◌, ◌⊎◌, inl, inr, ℕ, zero, suc, ◌+◌, ◌<◌, ◌≤◌, ◌==◌, Bool, true, false, cond, List, [], ◌∷◌, ◌++◌, map, length, Some, slice_get, option_and_then, refl, sym, ◌∙◌, ap, subst, append-nil, arith}
use Rattle.std.specs.List.{AllByRecursion}
use Rattle.std.proofs.lemmas.Bool.{cases_lt}
use Rattle.std.proofs.lemmas.List.{length-map}
use Rattle.std.proofs.lemmas.Option.{none-some, same_Some}
use Rattle.psg_terms.specs.Terms.{Term}
use Rattle.psg_terms.specs.Relations.{first, IsIn, later}
use Rattle.psg_terms.proofs.Lists.{in_either}
use Rattle.psg_grammar.specs.declared.types.Kind.{Kind}
use Rattle.psg_grammar.specs.declared.types.Kind.TheVariants as kinds
use Rattle.psg_grammar.specs.declared.types.Item.{Item}
use Rattle.psg_grammar.specs.declared.types.Item.TheVariants as items
use Rattle.psg_grammar.specs.declared.types.ListKind.{ListKind}
use Rattle.psg_grammar.specs.declared.types.Definition.{Definition}
use Rattle.psg_grammar.specs.Fragments.{anything, cell, children_of, ending, Fragment, hole, observed, operator, with_child, with_name, with_number, with_text}
use Rattle.psg_grammar.specs.Lookups.{is_scope, part_items}
use Rattle.psg_grammar.specs.Paths.{change_at, change_child, node_at, observe, Path}
use Rattle.psg_grammar.specs.Relations.{IsInsideRelationOf, IsRelationOf}
use Rattle.psg_grammar.specs.Sound.{IsSound}
use Rattle.psg_grammar.specs.Steps.{adding, children_count, closing, first_children, IsStepRelation, last_step, list_steps, own_steps, Place, steps_above, steps_at, steps_below, steps_of, steps_of_some, steps_up_to}
use Rattle.psg_grammar.specs.WellFormed.{Fits, IsPlain, IsUnobserved}
use Rattle.psg_grammar.proofs.PathLaws.{change-above, step}
use Rattle.psg_grammar.proofs.SoundParts.{operator_sound}
use Rattle.psg_relation.proofs.Existing.{relation_exists}
use Rattle.psg_scope.specs.declared.header.Header.{Header}
use Rattle.psg_eval.specs.declared.summary.SummaryParts.{SummaryParts}
use Rattle.psg_eval.specs.OwnRows.{whole_row}
use Rattle.psg_eval.specs.Partials.{IsAdded, IsPartial}
use Rattle.psg_eval.specs.Stages.{IsStep, kinds_of}
use Rattle.psg_eval.specs.Summaries.{are_names, IsSummary, IsSummaryOf, slot_kinds}
use Rattle.psg_eval.specs.Trees.{HasParts, IsNode, own_names}
use Rattle.psg_eval.proofs.CellRows.{cell_partial, cell_sorted, cell_sorts}
use Rattle.psg_eval.proofs.CellSteps.{added_inside, cell_one, cell_start, cell_two}
use Rattle.psg_eval.proofs.Cells.{cell_first, list_no_scope}
use Rattle.psg_eval.proofs.Closing.{inside_relation}
use Rattle.psg_eval.proofs.LeafAnswers.{no_header}
use Rattle.psg_eval.proofs.NextChild.{adds, get_push}
use Rattle.psg_eval.proofs.Nodes.{as_many, child_at}
use Rattle.psg_eval.proofs.RegionSteps.{count_is}
use Rattle.psg_eval.proofs.Stepping.{first_ok, first_twice}
use Rattle.psg_grammar.specs.Kinds.{IsOfKind}
use Rattle.psg_session.specs.Told.{HasAskedRelations, HasStepRelations}
use Rattle.psg_session.proofs.AllTold.{IsSimple, IsSpine, plain_simple, Spine, spine_of, tree_told, whole_spine}
use Rattle.psg_session.proofs.Parts.{Partial}
use Rattle.psg_session.proofs.ShownTold.{watched}
use Rattle.psg_session.proofs.SlotItems.{names-parts, slots-parts}
use Rattle.psg_session.proofs.StepsMade.{Begun, some_added, some_begun}
use Rattle.psg_session.proofs.TreesTold.{Told}

module _ (def : Definition) (sound : IsSound def) where
  abbrev HasRows : Fragment → ℕ → Type 0
  HasRows f n = (rows : List (List Term)) × IsStepRelation def f n rows

  -- a step up to the last child, as it is made
  record Made (f : Fragment) (n : ℕ) : Type 0 where
    header : Header
    rows : List (List Term)
    made : IsStep def f n header rows

  made_rows : (f : Fragment) (n : ℕ) → n ≤ children_count f → Made f n → HasRows f n
  made_rows f n le m = (m.rows, adding n m.rows le (m.made.sorts, m.made.relation))

  -- ---- nodes without children

  leaf_rows : (f : Fragment) → is_scope def f ≡ false → children_count f ≡ 0 → first_children 0 f ≡ f
      → (rows : List (List Term)) → IsRelationOf def f rows → (n : ℕ) → n ≤ last_step def f → HasRows f n
  leaf_rows f flat none same rows (ss, rel) n le =
      let last : last_step def f ≡ 0 =
      ap (λ b. cond b (children_count f + 1) (children_count f)) flat ∙ none in
      let zero : n ≡ 0 = omega (arith, le, last) in
      subst (HasRows f) (sym zero) (
        rows,
        adding 0 rows (omega arith)
            (subst (λ x. IsInsideRelationOf def x rows) (sym same) (ss, inside_relation def f ss rows flat rel)),
      )

  -- ---- cells

  record CellMade (l : ℕ) (e r : Fragment) : Type 0 where
    start : Made (cell l e r) 0
    one : Made (cell l e r) 1
    two : Made (cell l e r) 2

  cell_made : (l : ℕ) (e r : Fragment) (list : ListKind) → slice_get def.lists l ≡ Some list
      → Told def sound e (kinds.Phylum list.element) → Told def sound r (kinds.List l) → CellMade l e r
  cell_made l e r list found one two =
      let ss = cell_sorts def sound l list found in
      let (rel, made) = relation_exists def.signature sound.signature (map whole_row list.cell_rows) ss
      (cell_sorted def sound l list found) in
      let h : Header = record { names = []; unfinished = []; twice = false } in
      let begin : Partial def = record { header = h; seen = 0; wanted = 2; rel = rel } in
      let part : IsPartial def (kinds.List l) (kinds.Phylum list.element ∷ kinds.List l ∷ []) begin =
      cell_partial def sound l list found h rel refl (λ row i. (made.shapes row i).sorted) in
      let step0 = cell_start def l e r h ss rel (no_header (λ n. false) [] tt (λ n. refl) h refl)
      (cell_first def l e r ss list rel sound found made) in
      let part1 = subst (λ k. IsPartial def (kinds.List l) (k ∷ kinds.List l ∷ []) begin) (sym one.kind_is) part in
      let a = some_added def sound (kinds.List l) (kinds.List l ∷ []) begin one.known part1 one.usual in
      let step1 = cell_one def l e r (kinds.List l) begin one.known (kinds.List l) part1 one.of step0 a.next.header
      a.next.rel a.added in
      let part2 = subst (λ k. IsPartial def (kinds.List l) (k ∷ []) a.next) (sym two.kind_is) a.partial in
      let b = some_added def sound (kinds.List l) [] a.next two.known part2 two.usual in
      let flat = list_no_scope def l r (subst (IsOfKind def r) two.kind_is two.of.kind) in
      let step2 = cell_two def l e r (kinds.List l) a.next two.known flat part2 two.of step1 b.next.header b.next.rel
      b.added in
      record {
        start = record { header = h; rows = rel; made = step0 };
        one = record { header = a.next.header; rows = a.next.rel; made = step1 };
        two = record { header = b.next.header; rows = b.next.rel; made = step2 };
      }

  cell_rows : (l : ℕ) (e r : Fragment) → CellMade l e r → (n : ℕ) → n ≤ 2 → HasRows (cell l e r) n
  cell_rows l e r m zero le = made_rows (cell l e r) 0 le m.start
  cell_rows l e r m (suc zero) le = made_rows (cell l e r) 1 le m.one
  cell_rows l e r m (suc (suc zero)) le = made_rows (cell l e r) 2 le m.two
  cell_rows l e r m (suc (suc (suc n))) le = absurd (omega (arith, le))

  -- ---- operators

  module _ (f : Fragment) (parts : HasParts def f []) (kind : Kind) where
    -- one child more
    next_made : (n : ℕ) (t : Fragment) (more : List Kind) (p : Partial def) (s : SummaryParts)
        → slice_get (children_of f) n ≡ Some t → length more + suc n ≡ length (children_of f)
        → IsPartial def kind (s.kind ∷ more) p → IsSummaryOf def t s → IsStep def f n p.header p.rel
        → (h : Header) (rows : List (List Term)) → IsAdded def p s h rows → IsStep def f (suc n) h rows
    next_made n t more p s at many part summary made h rows added =
        let (r, count) = adds def t f [] n parts at in
        added_inside def t (first_children n f) (first_children (suc n) f) r kind more p s (omega (arith, many, count))
        part summary made h rows added

    grown : (rest : List SummaryParts) (n : ℕ) (p : Partial def) → n + length rest ≡ length (children_of f)
        → ((j : ℕ) (s : SummaryParts) → slice_get rest j ≡ Some s
        → (t : Fragment) × (slice_get (children_of f) (n + j) ≡ Some t) × IsSummaryOf def t s)
        → AllByRecursion (IsSummary def) rest → IsPartial def kind (kinds_of rest) p → IsStep def f n p.header p.rel
        → (k : ℕ) → n ≤ k → k ≤ length (children_of f) → Made f k
    grown [] n p total at usual part made k low high =
        let same : n ≡ k = omega (arith, total, low, high) in
        record { header = p.header; rows = p.rel; made = subst (λ m. IsStep def f m p.header p.rel) same made }
    grown (s ∷ rest) n p total at usual part made k low high = elim (cases_lt n k) [
      | inr le ↦
          let same : n ≡ k = omega (arith, low, le) in
          record { header = p.header; rows = p.rel; made = subst (λ m. IsStep def f m p.header p.rel) same made }
      | inl less ↦
          let (t, there, summary) = at 0 s refl in
          let here : slice_get (children_of f) n ≡ Some t =
          let e : n ≡ n + 0 = omega arith in ap (slice_get (children_of f)) e ∙ there in
          let size = length-map rest (λ (x : SummaryParts). x.kind) in
          let many : length (kinds_of rest) + suc n ≡ length (children_of f) = omega (arith, total, size) in
          let a = some_added def sound kind (kinds_of rest) p s part usual.0 in
          let next = next_made n t (kinds_of rest) p s here many part summary made a.next.header a.next.rel a.added in
          grown rest (suc n) a.next (omega (arith, total))
          (λ j x e. let (u, d, is) = at (suc j) x e in
          let q : suc n + j ≡ n + suc j = omega arith in (u, ap (slice_get (children_of f)) q ∙ d, is))
          usual.1 a.partial next k (omega (arith, less)) high
    ]

  operator_made : (f : Fragment) (kind : Kind) → Spine def f [] kind → (k : ℕ) → k ≤ length (children_of f) → Made f k
  operator_made f kind h k le =
      grown f h.parts (kinds.Phylum h.op.phylum) h.summaries 0 begun.next
      (let z = as_many def (children_of f) h.summaries h.are in omega (arith, z))
      (λ j s e. let (t, at, is) = child_at def (children_of f) h.summaries h.are j s e in
      let q : 0 + j ≡ j = omega arith in (t, ap (slice_get (children_of f)) q ∙ at, is))
      h.usual (subst (λ ks. IsPartial def (kinds.Phylum h.op.phylum) ks begun.next) (sym slots) begun.partial) first_step
      k (omega arith) le
    where
      whole : part_items h.op.items ≡ h.done
      whole = h.all ∙ append-nil h.done

      slots : kinds_of h.summaries ≡ slot_kinds def h.op.items
      slots = h.slots ∙ sym (ap (slot_kinds def) whole) ∙ slots-parts def h.op.items

      node : IsNode def h.number (own_names f) f
      node = record { top = h.top; parts = h.parts; own = refl }

      fits : length (are_names def h.op.items) ≡ length (own_names f)
      fits = ap length (sym (names-parts def h.op.items) ∙ ap (are_names def) whole) ∙ h.names

      begun : Begun def sound h.op (own_names f)
      begun = some_begun def sound h.op (own_names f) (operator_sound def sound h.number h.op h.found) fits

      first_step : IsStep def f 0 begun.next.header begun.next.rel
      first_step = by (begun.next.header.twice) refl where
        by : (b : Bool) → begun.next.header.twice ≡ b → IsStep def f 0 begun.next.header begun.next.rel
        by true e = subst (IsStep def f 0 begun.next.header) (sym (begun.own.none e))
            (first_twice def f h.number h.op h.found (own_names f) node begun.next.header begun.own.region e)
        by false e = let (rs, rel) = begun.own.made e in first_ok def f h.number h.op h.found (own_names f) node
            begun.next.header begun.own.region rs begun.next.rel sound e rel

  module _ (f : Fragment) (kind : Kind) (h : Spine def f [] kind) (told : Told def sound f kind) where
    last_rows : (n : ℕ) → n ≤ last_step def f → children_count f < n → (b : Bool) → is_scope def f ≡ b → HasRows f n
    last_rows n le high true scope =
        let last : last_step def f ≡ children_count f + 1 =
        ap (λ b. cond b (children_count f + 1) (children_count f)) scope in
        (told.known.rel, closing n told.known.rel (omega (arith, le, last, high)) scope told.of.rows)
    last_rows n le high false flat =
        let last : last_step def f ≡ children_count f =
        ap (λ b. cond b (children_count f + 1) (children_count f)) flat in
        absurd (omega (arith, le, last, high))

    operator_rows : (n : ℕ) → n ≤ last_step def f → HasRows f n
    operator_rows n le = elim (cases_lt (children_count f) n) [
      | inl high ↦ last_rows n le high (is_scope def f) refl
      | inr low ↦
          let c = count_is def f [] h.parts in
          made_rows f n low (operator_made f kind h n (omega (arith, low, c)))
    ]

  -- ---- all nodes

  spine_rows : (f : Fragment) (kind : Kind) → IsSpine f → Fits def f [] kind → IsSimple f → (n : ℕ)
      → n ≤ last_step def f → HasRows f n
  spine_rows f kind is h simple n le =
      operator_rows f kind (whole_spine def sound f kind is simple h) (tree_told def sound f kind h simple) n le

  own_rows : (f : Fragment) (kind : Kind) → Fits def f [] kind → IsSimple f → IsUnobserved f → (n : ℕ)
      → n ≤ last_step def f → HasRows f n
  own_rows (hole p) kind h simple plain n le =
      let t = tree_told def sound (hole p) kind h simple in leaf_rows (hole p) refl refl refl t.known.rel t.of.rows n le
  own_rows (ending l u) kind h simple plain n le =
      let t = tree_told def sound (ending l u) kind h simple in
      leaf_rows (ending l u) refl refl refl t.known.rel t.of.rows n le
  own_rows (cell l e r) kind (none, is, list, found, he, hr, u) simple plain n le =
      cell_rows l e r (cell_made l e r list found (tree_told def sound e (kinds.Phylum list.element) he simple.0)
      (tree_told def sound r (kinds.List l) hr simple.1)) n le
  own_rows (operator o) kind h simple plain n le = spine_rows (operator o) kind tt h simple n le
  own_rows (with_child f t) kind (k, hf, ht) simple plain n le =
      spine_rows (with_child f t) kind (spine_of def sound f (items.Slot k) [] kind hf) (k, hf, ht) simple n le
  own_rows (with_name f m) kind (inl (s, hf), name) simple plain n le =
      spine_rows (with_name f m) kind (spine_of def sound f (items.Refers s) [] kind hf) (inl (s, hf), name) simple n le
  own_rows (with_name f m) kind (inr (s, hf), name) simple plain n le =
      spine_rows (with_name f m) kind (spine_of def sound f (items.Declares s) [] kind hf) (inr (s, hf), name) simple n le
  own_rows (with_number f m) kind (hf, small) simple plain n le =
      spine_rows (with_number f m) kind (spine_of def sound f items.Number [] kind hf) (hf, small) simple n le
  own_rows (with_text f m) kind (hf, text) simple plain n le =
      spine_rows (with_text f m) kind (spine_of def sound f items.Text [] kind hf) (hf, text) simple n le
  own_rows anything kind h simple plain n le = absurd h
  own_rows (observed f) kind h simple plain n le = absurd plain

  -- ---- lists of steps

  abbrev Each : List Place → Type 0
  Each places = (place : Place) → IsIn place places → HasRows place.part place.step

  each_none : Each []
  each_none place i = elim i [ ]

  each_one : (place : Place) → HasRows place.part place.step → Each (place ∷ [])
  each_one place h other first = h
  each_one place h other (later i) = elim i [ ]

  each_both : (xs ys : List Place) → Each xs → Each ys → Each (xs ++ ys)
  each_both xs ys a b place i = elim (in_either place xs ys i) [ inl x ↦ a place x | inr y ↦ b place y ]

  up_to : (path : Path) (f : Fragment) (n : ℕ) → ((k : ℕ) → k ≤ n → HasRows f k) → Each (steps_up_to path f n)
  up_to path f zero all = each_one (record { path = path; part = f; step = 0 }) (all 0 (omega arith))
  up_to path f (suc n) all =
      each_both (steps_up_to path f n) (record { path = path; part = f; step = suc n } ∷ [])
      (up_to path f n (λ k le. all k (omega (arith, le))))
      (each_one (record { path = path; part = f; step = suc n }) (all (suc n) (omega arith)))

  own_each : (path : Path) (f : Fragment) (kind : Kind) → Fits def f [] kind → IsSimple f → IsUnobserved f
      → Each (own_steps def path f)
  own_each path f kind h simple plain =
      up_to path f (last_step def f) (λ k le. own_rows f kind h simple plain k le)

  -- ---- all steps of a tree

  record Walked (f : Fragment) : Type 0 where
    all : (kind : Kind) → Fits def f [] kind → (path : Path) → Each (steps_of def path f)
    below : (more : List Item) (kind : Kind) → Fits def f more kind → (path : Path) (n : ℕ)
        → Each (steps_below def path n f)
    cells : (kind : Kind) → Fits def f [] kind → (path : Path) → Each (list_steps def path f)

  module _ (l : ℕ) (e r : Fragment) (one : Walked e) (two : Walked r) (simple : IsSimple (cell l e r)) where
    cell_cells : (kind : Kind) → Fits def (cell l e r) [] kind → (path : Path)
        → Each (list_steps def path (cell l e r))
    cell_cells kind (none, is, list, found, he, hr, u) path =
        each_both (list_steps def path r) (own_steps def path (cell l e r)) (two.cells (kinds.List l) hr path)
        (own_each path (cell l e r) kind (none, is, list, found, he, hr, u) simple tt)

    cell_below : (more : List Item) (kind : Kind) → Fits def (cell l e r) more kind → (path : Path) (n : ℕ)
        → Each (steps_below def path n (cell l e r))
    cell_below more kind (none, is, list, found, he, hr, u) path n =
        each_both (steps_of def (path ++ n ∷ []) e) (steps_below def path (n + 1) r)
        (one.all (kinds.Phylum list.element) he (path ++ n ∷ [])) (two.below [] (kinds.List l) hr path (n + 1))

    cell_all : (kind : Kind) → Fits def (cell l e r) [] kind → (path : Path) → Each (steps_of def path (cell l e r))
    cell_all kind (none, is, list, found, he, hr, u) path =
        each_both (steps_of def (path ++ 0 ∷ []) e ++ steps_below def path 1 r) (list_steps def path (cell l e r))
        (each_both (steps_of def (path ++ 0 ∷ []) e) (steps_below def path 1 r)
        (one.all (kinds.Phylum list.element) he (path ++ 0 ∷ [])) (two.below [] (kinds.List l) hr path 1))
        (cell_cells kind (none, is, list, found, he, hr, u) path)

  module _ (f t : Fragment) (one : Walked f) (two : Walked t) (simple : IsSimple (with_child f t)) where
    child_below : (more : List Item) (kind : Kind) → Fits def (with_child f t) more kind → (path : Path) (n : ℕ)
        → Each (steps_below def path n (with_child f t))
    child_below more kind (k, hf, ht) path n =
        each_both (steps_below def path n f) (steps_of def (path ++ length (children_of f) ∷ []) t)
        (one.below (items.Slot k ∷ more) kind hf path n) (two.all k ht (path ++ length (children_of f) ∷ []))

    child_all : (kind : Kind) → Fits def (with_child f t) [] kind → (path : Path)
        → Each (steps_of def path (with_child f t))
    child_all kind (k, hf, ht) path =
        each_both (steps_below def path 0 f ++ steps_of def (path ++ length (children_of f) ∷ []) t)
        (own_steps def path (with_child f t))
        (each_both (steps_below def path 0 f) (steps_of def (path ++ length (children_of f) ∷ []) t)
        (one.below (items.Slot k ∷ []) kind hf path 0) (two.all k ht (path ++ length (children_of f) ∷ [])))
        (own_each path (with_child f t) kind (k, hf, ht) simple tt)

  name_below : (f : Fragment) (m : List ℕ) → Walked f → (more : List Item) (kind : Kind)
      → Fits def (with_name f m) more kind → (path : Path) (n : ℕ) → Each (steps_below def path n f)
  name_below f m one more kind (inl (s, hf), name) path n = one.below (items.Refers s ∷ more) kind hf path n
  name_below f m one more kind (inr (s, hf), name) path n = one.below (items.Declares s ∷ more) kind hf path n

  -- a node that has no child and is no cell
  alone : (f : Fragment) → ((path : Path) → steps_of def path f ≡ own_steps def path f)
      → ((path : Path) (n : ℕ) → steps_below def path n f ≡ [])
      → ((path : Path) → (list_steps def path f ≡ []) ⊎ (list_steps def path f ≡ own_steps def path f))
      → IsSimple f → IsUnobserved f → Walked f
  alone f steps none cells simple plain = record {
    all = λ kind h path. subst Each (sym (steps path)) (own_each path f kind h simple plain);
    below = λ more kind h path n. subst Each (sym (none path n)) each_none;
    cells = λ kind h path. elim (cells path) [
      | inl e ↦ subst Each (sym e) each_none
      | inr e ↦ subst Each (sym e) (own_each path f kind h simple plain)
    ];
  }

  walked : (f : Fragment) → IsPlain f → Walked f
  walked (hole p) plain = alone (hole p) (λ path. refl) (λ path n. refl) (λ path. inl refl) tt tt
  walked (ending l u) plain = alone (ending l u) (λ path. refl) (λ path n. refl) (λ path. inr refl) tt tt
  walked (operator o) plain = alone (operator o) (λ path. refl) (λ path n. refl) (λ path. inl refl) tt tt
  walked (cell l e r) plain =
      let one = walked e plain.0 in
      let two = walked r plain.1 in
      let simple = plain_simple (cell l e r) plain in
      record {
        all = cell_all l e r one two simple;
        below = cell_below l e r one two simple;
        cells = cell_cells l e r one two simple;
      }
  walked (with_child f t) plain =
      let one = walked f plain.0 in
      let two = walked t plain.1 in
      let simple = plain_simple (with_child f t) plain in
      record {
        all = child_all f t one two simple;
        below = child_below f t one two simple;
        cells = λ kind h path. each_none;
      }
  walked (with_name f m) plain =
      let one = walked f plain in
      record {
        all = λ kind h path.
            each_both (steps_below def path 0 f) (own_steps def path (with_name f m))
            (name_below f m one [] kind h path 0)
            (own_each path (with_name f m) kind h (plain_simple (with_name f m) plain) tt);
        below = λ more kind h path n. name_below f m one more kind h path n;
        cells = λ kind h path. each_none;
      }
  walked (with_number f m) plain =
      let one = walked f plain in
      record {
        all = λ kind h path.
            each_both (steps_below def path 0 f) (own_steps def path (with_number f m))
            (one.below (items.Number ∷ []) kind h.0 path 0)
            (own_each path (with_number f m) kind h (plain_simple (with_number f m) plain) tt);
        below = λ more kind h path n. one.below (items.Number ∷ more) kind h.0 path n;
        cells = λ kind h path. each_none;
      }
  walked (with_text f m) plain =
      let one = walked f plain in
      record {
        all = λ kind h path.
            each_both (steps_below def path 0 f) (own_steps def path (with_text f m))
            (one.below (items.Text ∷ []) kind h.0 path 0)
            (own_each path (with_text f m) kind h (plain_simple (with_text f m) plain) tt);
        below = λ more kind h path n. one.below (items.Text ∷ more) kind h.0 path n;
        cells = λ kind h path. each_none;
      }
  walked anything plain = record {
    all = λ kind h path. absurd h;
    below = λ more kind h path n. each_none;
    cells = λ kind h path. each_none;
  }
  walked (observed f) plain = absurd plain

  pub step_relations : HasStepRelations def
  step_relations f kind place (h, plain) i = let w = walked f plain in w.all kind h [] place i

  -- ---- steps above a node whose value is asked for

  child_fits : (f : Fragment) (more : List Item) (kind : Kind) → Fits def f more kind → IsPlain f → (k : ℕ)
      → (c : Fragment) → slice_get (children_of f) k ≡ Some c → (K : Kind) × Fits def c [] K × IsPlain c
  child_fits (cell l e r) more kind (none, is, list, found, he, hr, u) plain zero c at =
      subst (λ x. (K : Kind) × Fits def x [] K × IsPlain x) (same_Some e c at)
      (kinds.Phylum list.element, he, plain.0)
  child_fits (cell l e r) more kind (none, is, list, found, he, hr, u) plain (suc k) c at =
      child_fits r [] (kinds.List l) hr plain.1 k c at
  child_fits (with_child f t) more kind (K, hf, ht) plain k c at = elim (get_push (children_of f) t k c at) [
    | inl there ↦ child_fits f (items.Slot K ∷ more) kind hf plain.0 k c there
    | inr last ↦ subst (λ x. (K : Kind) × Fits def x [] K × IsPlain x) last.1 (K, ht, plain.1)
  ]
  child_fits (with_name f m) more kind (inl (s, hf), name) plain k c at =
      child_fits f (items.Refers s ∷ more) kind hf plain k c at
  child_fits (with_name f m) more kind (inr (s, hf), name) plain k c at =
      child_fits f (items.Declares s ∷ more) kind hf plain k c at
  child_fits (with_number f m) more kind (hf, small) plain k c at =
      child_fits f (items.Number ∷ more) kind hf plain k c at
  child_fits (with_text f m) more kind (hf, text) plain k c at =
      child_fits f (items.Text ∷ more) kind hf plain k c at
  child_fits (hole p) more kind h plain k c at = absurd (none-some c at)
  child_fits (ending l u) more kind h plain k c at = absurd (none-some c at)
  child_fits (operator o) more kind h plain k c at = absurd (none-some c at)
  child_fits anything more kind h plain k c at = absurd h
  child_fits (observed f) more kind h plain k c at = absurd plain

  node_fits : (path : Path) (f : Fragment) (kind : Kind) (node : Fragment) → Fits def f [] kind → IsPlain f
      → node_at f path ≡ Some node → (K : Kind) × Fits def node [] K × IsPlain node
  node_fits [] f kind node h plain at =
      subst (λ x. (K : Kind) × Fits def x [] K × IsPlain x) (same_Some f node at) (kind, h, plain)
  node_fits (k ∷ path) f kind node h plain at =
      let (c, there, below) = step (slice_get (children_of f) k) path node at in
      let (K, hc, pc) = child_fits f [] kind h plain k c there in
      node_fits path c K node hc pc below

  -- a node above the observed one is not observed itself
  not_observed : (g : Fragment → Fragment) (k : ℕ) (f : Fragment) → IsPlain f → IsUnobserved (change_child g k f)
  not_observed g zero (cell l e r) plain = tt
  not_observed g (suc k) (cell l e r) plain = tt
  not_observed g k (with_child f t) plain = elim (length (children_of f) == k) as
      (λ b. IsUnobserved (cond b (with_child f (g t)) (with_child (change_child g k f) t))) [ true ↦ tt | false ↦ tt ]
  not_observed g k (with_name f m) plain = tt
  not_observed g k (with_number f m) plain = tt
  not_observed g k (with_text f m) plain = tt
  not_observed g k (hole p) plain = tt
  not_observed g k (ending l u) plain = tt
  not_observed g k (operator o) plain = tt
  not_observed g k anything plain = tt
  not_observed g k (observed f) plain = absurd plain

  at_each : (k : ℕ) (f : Fragment) (kind : Kind) (up : Path) → Fits def f [] kind → IsSimple f → IsUnobserved f
      → Each (steps_at def up k f)
  at_each zero (cell l e r) kind up h simple plain = own_each up (cell l e r) kind h simple plain
  at_each (suc k) (cell l e r) kind up (none, is, list, found, he, hr, u) simple plain =
      each_both (steps_at def up k r) (own_steps def up (cell l e r)) (at_each k r (kinds.List l) up hr simple.1 u)
      (own_each up (cell l e r) kind (none, is, list, found, he, hr, u) simple plain)
  at_each k f kind up h simple plain = own_each up f kind h simple plain

  above_each : (path : Path) (f : Fragment) (kind : Kind) (node : Fragment) (up : Path) → Fits def f [] kind
      → IsPlain f → node_at f path ≡ Some node → Each (steps_above def up path (observe path f))
  above_each [] f kind node up h plain at = each_none
  above_each (k ∷ path) f kind node up h plain at =
      let (c, there, below) = step (slice_get (children_of f) k) path node at in
      let (K, hc, pc) = child_fits f [] kind h plain k c there in
      let w = watched def (k ∷ path) f kind node h plain at in
      let g : Fragment = observe (k ∷ path) f in
      let (d, got, same) = step (slice_get (children_of g) k) [] (observe path c)
      (change-above observed (k ∷ []) path f c (ap (option_and_then (λ t. node_at t [])) there)) in
      let child : slice_get (children_of g) k ≡ Some (observe path c) = got ∙ same in
      each_both (steps_of_some (λ t. steps_above def (up ++ k ∷ []) path t) (slice_get (children_of g) k))
      (steps_at def up k g)
      (subst (λ o. Each (steps_of_some (λ t. steps_above def (up ++ k ∷ []) path t) o)) (sym child)
      (above_each path c K node (up ++ k ∷ []) hc pc below))
      (at_each k g kind up w.fits w.simple (not_observed (change_at observed path) k f plain))

  pub asked_relations : HasAskedRelations def
  asked_relations f kind path node (h, plain) at =
      let (K, hn, pn) = node_fits path f kind node h plain at in
      let t = tree_told def sound (observed node) K (refl, hn) (pn, plain_simple node pn) in
      record { own = (t.known.rel, t.of.rows); above = above_each path f kind node [] h plain at }
