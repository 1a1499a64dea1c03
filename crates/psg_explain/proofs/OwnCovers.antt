-- Step 0 of an operator: where the equations of a row have a solution, it makes what is possible for the node itself.
use Rattle.std.proofs.Common.{◌≡◌, inl, inr, ℕ, suc, ◌+◌, Bool, true, false, cond, List, [], ◌∷◌, ◌++◌, map, length, length-append, Option, Some, None, refl, sym, ap, ap₂, ◌∙◌, subst, append-nil, append_assoc, arith}
use Rattle.std.specs.Prelude.{bytes_eq, option_and_then, option_map}
use Rattle.std.specs.Option.{option_or, unwrap_or}
use Rattle.std.specs.List.{slice_get, AllByRecursion}
use Rattle.std.proofs.lemmas.Bool.{cases_Bool}
use Rattle.std.proofs.lemmas.List.{map-append}
use Rattle.std.proofs.lemmas.Option.{none-some}
use Rattle.psg_terms.specs.Terms.{Term, symbol}
use Rattle.psg_terms.specs.Names.{Name, is_among, has_twice}
use Rattle.psg_terms.specs.Signature.{Signature, HasSort, HaveSorts}
use Rattle.psg_terms.specs.Instances.{Substitution, substitute, IsGrounding, IsGround}
use Rattle.psg_terms.proofs.DeclareLaws.{bytes_eq-refl}
use Rattle.psg_terms.proofs.InstanceLaws.{ground-substitute}
use Rattle.psg_terms.proofs.Lists.{each_at}
use Rattle.psg_terms.proofs.Renumbering.{HaveSorts-substitute}
use Rattle.psg_grammar.specs.declared.types.Item.{Item}
use Rattle.psg_grammar.specs.declared.types.Item.TheVariants as items
use Rattle.psg_grammar.specs.declared.types.Row.{Row}
use Rattle.psg_grammar.specs.declared.types.Operator.{Operator}
use Rattle.psg_grammar.specs.declared.types.Definition.{Definition}
use Rattle.psg_grammar.specs.Fragments.{Fragment, hole, ending, cell, operator, with_child, with_name, with_number, with_text, anything, observed, top_operator}
use Rattle.psg_grammar.specs.Keys.{Key, in_order}
use Rattle.psg_grammar.specs.Legal.{Entities, AreEntities}
use Rattle.psg_grammar.specs.Lookups.{items_of, operator_at, part_items}
use Rattle.psg_grammar.specs.Open.{IsOfOperatorRow}
use Rattle.psg_grammar.specs.Regions.{declared_inside, names_inside}
use Rattle.psg_grammar.specs.Relations.{IsPossibleInside}
use Rattle.psg_grammar.specs.Sound.{AreColumns, IsSound, IsRow}
use Rattle.psg_grammar.proofs.MixedEntities.{mixed}
use Rattle.psg_grammar.proofs.SoundParts.{operator_sound}
use Rattle.psg_relation.specs.Choices.{pick}
use Rattle.psg_scope.specs.Headers.{keys, IsKey}
use Rattle.psg_scope.proofs.HeaderLaws.{keys-whole}
use Rattle.psg_scope.proofs.KeyLists.{in_order-among}
use Rattle.psg_eval.specs.Summaries.{are_names}
use Rattle.psg_eval.specs.Trees.{HasParts, IsNode, own_names}
use Rattle.psg_eval.specs.OwnRows.{positions, slot_terms, name_terms, OwnRow}
use Rattle.psg_eval.proofs.Columns.{map_same}
use Rattle.psg_eval.proofs.Spines.{bare, choice_of, bare_below, bare_names}
use Rattle.psg_eval.proofs.Usual.{usual, usual_entities}
use Rattle.psg_eval.proofs.Weaving.{weave_holds, weave_told, IsEntity, entity_among, split_of}
use Rattle.psg_explain.specs.Equations.{Equation}
use Rattle.psg_explain.specs.Given.{beside, key_terms, own_case, own_equations}
use Rattle.psg_explain.proofs.FirstRows.{names_map, slots_map}
use Rattle.psg_explain.proofs.LastRows.{some_entities}
use Rattle.psg_explain.proofs.Rewriting.{SolvesAll}

slots_parts : (xs : List Item) (terms : List Term) → slot_terms (part_items xs) terms ≡ slot_terms xs terms
slots_parts [] terms = refl
slots_parts (items.Slot k ∷ xs) [] = refl
slots_parts (items.Slot k ∷ xs) (t ∷ terms) = ap (λ l. t ∷ l) (slots_parts xs terms)
slots_parts (items.Refers s ∷ xs) [] = refl
slots_parts (items.Refers s ∷ xs) (t ∷ terms) = slots_parts xs terms
slots_parts (items.Declares s ∷ xs) [] = refl
slots_parts (items.Declares s ∷ xs) (t ∷ terms) = slots_parts xs terms
slots_parts (_ ∷ xs) terms = slots_parts xs terms

names_parts : (xs : List Item) (terms : List Term) → name_terms (part_items xs) terms ≡ name_terms xs terms
names_parts [] terms = refl
names_parts (items.Slot k ∷ xs) [] = refl
names_parts (items.Slot k ∷ xs) (t ∷ terms) = names_parts xs terms
names_parts (items.Refers s ∷ xs) [] = refl
names_parts (items.Refers s ∷ xs) (t ∷ terms) = ap (λ l. t ∷ l) (names_parts xs terms)
names_parts (items.Declares s ∷ xs) [] = refl
names_parts (items.Declares s ∷ xs) (t ∷ terms) = ap (λ l. t ∷ l) (names_parts xs terms)
names_parts (_ ∷ xs) terms = names_parts xs terms

all_ground : (sig : Signature) (f : Substitution) → IsGrounding sig f → (row : List Term) (sorts : List ℕ) → HaveSorts sig row sorts → AllByRecursion IsGround (map (substitute f) row)
all_ground sig f k [] sorts h = tt
all_ground sig f k (t ∷ row) [] h = absurd h
all_ground sig f k (t ∷ row) (s ∷ sorts) (h, hs) = (ground-substitute sig f k t [] s h, all_ground sig f k row sorts hs)

no_terms : (sig : Signature) (columns : List Term) (sorts : List ℕ) → sorts ≡ [] → HaveSorts sig columns sorts → columns ≡ []
no_terms sig [] sorts e h = refl
no_terms sig (t ∷ columns) sorts e h = absurd (subst (HaveSorts sig (t ∷ columns)) e h)

-- ---- positions with one key have one term under a solution

module _ (h : Substitution) where
  -- the term of the first place of the key in both lists, one after the other
  beside_more : (ns ks : List Key) (us ts : List Term) (k : Key) → length ns ≡ length us → beside (ns ++ ks) (us ++ ts) k ≡ option_or (beside ns us k) (beside ks ts k)
  beside_more [] ks [] ts k e = refl
  beside_more [] ks (u ∷ us) ts k e = absurd (omega (arith, e))
  beside_more (n ∷ ns) ks [] ts k e = absurd (omega (arith, e))
  beside_more (n ∷ ns) ks (u ∷ us) ts k e = by (bytes_eq n k) (beside_more ns ks us ts k (omega (arith, e)))
    where
      by : (b : Bool) → beside (ns ++ ks) (us ++ ts) k ≡ option_or (beside ns us k) (beside ks ts k) → cond b (Some u) (beside (ns ++ ks) (us ++ ts) k) ≡ option_or (cond b (Some u) (beside ns us k)) (beside ks ts k)
      by true d = refl
      by false d = d

  -- the key's first term is the entity
  abbrev entity_in : List Key → List Term → Key → Term
  entity_in ns us k = substitute h (unwrap_or (beside ns us k) (symbol 0))

  split_own : (o : Option Term) (t : Term) (es : List Equation) → SolvesAll h (pick (option_map (λ (u : Term). (u, t)) o) es) → ((u : Term) → o ≡ Some u → substitute h u ≡ substitute h t) × SolvesAll h es
  split_own None t es solved = ((λ u e. absurd (none-some u e)), solved)
  split_own (Some v) t es (one, more) = ((λ u e. let d : v ≡ u = cc in sym (ap (substitute h) d) ∙ one), more)

  itself_first : (ns : List Key) (us : List Term) (k : Key) (t : Term) (ks : List Key) (ts : List Term) → length ns ≡ length us → ((u : Term) → beside ns us k ≡ Some u → substitute h u ≡ substitute h t)
      → entity_in (ns ++ k ∷ ks) (us ++ t ∷ ts) k ≡ substitute h t
  itself_first ns us k t ks ts e same =
      ap (λ (o : Option Term). substitute h (unwrap_or o (symbol 0))) (beside_more ns (k ∷ ks) us (t ∷ ts) k e ∙ ap (λ (b : Bool). option_or (beside ns us k) (cond b (Some t) (beside ks ts k))) (bytes_eq-refl k))
      ∙ by (beside ns us k) same
    where
      by : (o : Option Term) → ((u : Term) → o ≡ Some u → substitute h u ≡ substitute h t) → substitute h (unwrap_or (option_or o (Some t)) (symbol 0)) ≡ substitute h t
      by None g = refl
      by (Some u) g = g u refl

  own_agrees : (ns : List Key) (us : List Term) (ks : List Key) (ts : List Term) → length ns ≡ length us → length ks ≡ length ts → SolvesAll h (own_equations ns us ks ts) → map (entity_in (ns ++ ks) (us ++ ts)) ks ≡ map (substitute h) ts
  own_agrees ns us [] [] e d solved = refl
  own_agrees ns us [] (t ∷ ts) e d solved = absurd (omega (arith, d))
  own_agrees ns us (k ∷ ks) [] e d solved = absurd (omega (arith, d))
  own_agrees ns us (k ∷ ks) (t ∷ ts) e d solved =
      let (one, more) = split_own (beside ns us k) t (own_equations (ns ++ k ∷ []) (us ++ t ∷ []) ks ts) solved in
      let a = length-append ns (k ∷ []) in
      let b = length-append us (t ∷ []) in
      let rest = own_agrees (ns ++ k ∷ []) (us ++ t ∷ []) ks ts (omega (arith, a, b, e)) (omega (arith, d)) more in
      let moved : map (entity_in (ns ++ k ∷ ks) (us ++ t ∷ ts)) ks ≡ map (entity_in ((ns ++ k ∷ []) ++ ks) ((us ++ t ∷ []) ++ ts)) ks =
      ap₂ (λ (l : List Key) (m : List Term). map (entity_in l m) ks) (sym (append_assoc ns (k ∷ []) ks)) (sym (append_assoc us (t ∷ []) ts)) in
      ap₂ (λ (x : Term) (l : List Term). x ∷ l) (itself_first ns us k t ks ts e one) (moved ∙ rest)

-- ---- there is a name for each position, and a term

module _ (def : Definition) where
  parts_names : (xs : List Item) → are_names def (part_items xs) ≡ are_names def xs
  parts_names [] = refl
  parts_names (items.Slot k ∷ xs) = parts_names xs
  parts_names (items.Word w ∷ xs) = parts_names xs
  parts_names (items.Refers s ∷ xs) = ap (λ (l : List Item). items.Refers s ∷ l) (parts_names xs)
  parts_names (items.Declares s ∷ xs) = ap (λ (l : List Item). items.Declares s ∷ l) (parts_names xs)
  parts_names (items.Number ∷ xs) = parts_names xs
  parts_names (items.Text ∷ xs) = parts_names xs
  parts_names (items.Space ∷ xs) = parts_names xs
  parts_names (items.Tight ∷ xs) = parts_names xs
  parts_names (items.Line ∷ xs) = parts_names xs
  parts_names (items.In ∷ xs) = parts_names xs
  parts_names (items.Out ∷ xs) = parts_names xs

  abbrev names_at_top : Fragment → List Item
  names_at_top f = are_names def (items_of (option_and_then (operator_at def) (top_operator f)))

  names_left : (f : Fragment) (more : List Item) → HasParts def f more → length (own_names f) + length (are_names def more) ≡ length (names_at_top f)
  names_left (operator n) more (q, found, e) =
      let a : length (are_names def more) ≡ length (are_names def (part_items q.items)) = ap (λ (l : List Item). length (are_names def l)) e in
      let b : length (names_at_top (operator n)) ≡ length (are_names def (part_items q.items)) = ap (λ (x : Option Operator). length (are_names def (items_of x))) found in
      omega (arith, a, b)
  names_left (with_child f t) more (k, h) = names_left f (items.Slot k ∷ more) h
  names_left (with_name f n) more (inl (s, h)) =
      let i = names_left f (items.Refers s ∷ more) h in
      let j = length-append (own_names f) (n ∷ []) in
      omega (arith, i, j)
  names_left (with_name f n) more (inr (s, h)) =
      let i = names_left f (items.Declares s ∷ more) h in
      let j = length-append (own_names f) (n ∷ []) in
      omega (arith, i, j)
  names_left (with_number f n) more h = names_left f (items.Number ∷ more) h
  names_left (with_text f n) more h = names_left f (items.Text ∷ more) h
  names_left (hole p) more h = absurd h
  names_left (ending l u) more h = absurd h
  names_left (cell l e r) more h = absurd h
  names_left anything more h = absurd h
  names_left (observed f) more h = absurd h

  positions_many : (xs : List Item) (names : List Name) (ts : List Term) (ss : List ℕ) → AreColumns def (part_items xs) ss → HaveSorts def.signature ts ss → length names ≡ length (are_names def xs)
      → length (keys (positions xs names)) ≡ length (name_terms xs ts)
  positions_many [] names ts ss a h e = refl
  positions_many (items.Slot k ∷ xs) names [] ss (s, more, d, is, a) h e = absurd (subst (HaveSorts def.signature []) d h)
  positions_many (items.Slot k ∷ xs) names (t ∷ ts) ss (s, more, d, is, a) h e = positions_many xs names ts more a (subst (HaveSorts def.signature (t ∷ ts)) d h).1 e
  positions_many (items.Refers n ∷ xs) [] ts ss a h e = absurd (omega (arith, e))
  positions_many (items.Refers n ∷ xs) (w ∷ names) [] ss (s, more, d, is, a) h e = absurd (subst (HaveSorts def.signature []) d h)
  positions_many (items.Refers n ∷ xs) (w ∷ names) (t ∷ ts) ss (s, more, d, is, a) h e = ap suc (positions_many xs names ts more a (subst (HaveSorts def.signature (t ∷ ts)) d h).1 (omega (arith, e)))
  positions_many (items.Declares n ∷ xs) [] ts ss a h e = absurd (omega (arith, e))
  positions_many (items.Declares n ∷ xs) (w ∷ names) [] ss (s, more, d, is, a) h e = absurd (subst (HaveSorts def.signature []) d h)
  positions_many (items.Declares n ∷ xs) (w ∷ names) (t ∷ ts) ss (s, more, d, is, a) h e = ap suc (positions_many xs names ts more a (subst (HaveSorts def.signature (t ∷ ts)) d h).1 (omega (arith, e)))
  positions_many (items.Number ∷ xs) names ts ss a h e = positions_many xs names ts ss a h e
  positions_many (items.Text ∷ xs) names ts ss a h e = positions_many xs names ts ss a h e
  positions_many (items.Word w ∷ xs) names ts ss a h e = positions_many xs names ts ss a h e
  positions_many (items.Space ∷ xs) names ts ss a h e = positions_many xs names ts ss a h e
  positions_many (items.Tight ∷ xs) names ts ss a h e = positions_many xs names ts ss a h e
  positions_many (items.Line ∷ xs) names ts ss a h e = positions_many xs names ts ss a h e
  positions_many (items.In ∷ xs) names ts ss a h e = positions_many xs names ts ss a h e
  positions_many (items.Out ∷ xs) names ts ss a h e = positions_many xs names ts ss a h e

module _ (def : Definition) (o : ℕ) (op : Operator) (found : slice_get def.operators o ≡ Some op) (names : List Name) (f : Fragment) (node : IsNode def o names f) where
  abbrev own_keys : List Key
  own_keys = keys (positions op.items names)

  bare_keys : names_inside def (bare f) ≡ own_keys
  bare_keys = bare_names def o op found f node.top node.parts ∙ ap (λ l. keys (positions op.items l)) node.own

  module _ (sound : IsSound def) (once : has_twice (declared_inside def (bare f)) ≡ false) where
    possible_of : (r : ℕ) (x : List Term) → OwnRow def.signature op names r x → IsPossibleInside def (bare f) (choice_of f r) x
    possible_of r x it =
        let shape = operator_sound def sound o op found in
        let rows = each_at (IsRow def shape.sort shape.columns) op.rows shape.each_row r it.row it.chosen in
        let full : List Term = map (substitute it.terms) it.row.columns in
        let w = split_of def o op found f [] node.top node.parts full shape.columns shape.are_columns
        (HaveSorts-substitute def.signature it.terms it.grounding.sorted it.row.columns shape.columns rows.of_columns)
        (all_ground def.signature it.terms it.grounding it.row.columns shape.columns rows.of_columns) in
        let full_is : full ≡ w.own ++ [] = w.full_is ∙ ap (λ l. w.own ++ l) (no_terms def.signature w.columns w.sorts w.are_columns w.sorted) in
        let told = weave_told def o op found f [] node.top node.parts w.own w.values w.terms w.weaves [] in
        let slots : slot_terms op.items full ≡ w.values ++ [] = sym (slots_parts op.items full) ∙ ap (slot_terms (part_items op.items)) full_is ∙ told.slots in
        let terms : name_terms op.items full ≡ w.terms = sym (names_parts op.items full) ∙ ap (name_terms (part_items op.items)) full_is ∙ told.names ∙ append-nil w.terms in
        let ks : List Key = names_inside def (bare f) in
        let whole : AllByRecursion IsKey ks = subst (AllByRecursion IsKey) (sym bare_keys) (keys-whole (positions op.items names)) in
        let kept : map it.entity ks ≡ w.terms = ap (map it.entity) bare_keys ∙ it.agree ∙ terms in
        let g : Entities = mixed ks it.entity (usual def sound) in
        let on : (n : Key) → is_among ks n ≡ true → it.entity n ≡ g n = λ n i. sym (ap (λ b. cond b (it.entity n) (usual def sound n)) i) in
        let own : (n : Key) → is_among ks n ≡ true → IsEntity def o op found n (it.entity n) = entity_among def o op found ks w.terms it.entity w.entities kept in
        let others = usual_entities def sound in
        let eg : AreEntities def g = record {
          ground = λ n. elim (cases_Bool (is_among ks n)) [
            | inl i ↦ subst (λ b. IsGround (cond b (it.entity n) (usual def sound n))) (sym i) (own n i).ground
            | inr i ↦ subst (λ b. IsGround (cond b (it.entity n) (usual def sound n))) (sym i) (others.ground n)
          ];
          sorted = λ n e at. elim (cases_Bool (is_among ks n)) [
            | inl i ↦ subst (λ b. HasSort def.signature (cond b (it.entity n) (usual def sound n)) e.sort.0) (sym i) ((own n i).sorted e at)
            | inr i ↦ subst (λ b. HasSort def.signature (cond b (it.entity n) (usual def sound n)) e.sort.0) (sym i) (others.sorted n e at)
          ];
        } in
        let v : Term = substitute it.terms it.row.head in
        let row : IsOfOperatorRow def o r v (w.own ++ []) = record {
          op = op;
          found = found;
          row = it.row;
          chosen = it.chosen;
          value = record { terms = it.terms; grounding = it.grounding; head = refl; rest = sym full_is };
        } in
        record {
          distinct = (once, bare_below def f);
          inside = g;
          entities = eg;
          value = v;
          seen = w.values ++ [];
          holds = weave_holds def o op found f node.top w.own w.values w.terms w.weaves g eg (sym kept ∙ map_same it.entity g ks on) r [] v [] row;
          columns_are = it.row_is ∙ ap₂ (λ l k. (v ∷ l) ++ k) slots
              (ap (λ l. map it.entity (in_order l)) (sym bare_keys) ∙ map_same it.entity g (in_order ks) (λ n i. on n (sym (in_order-among ks n whole) ∙ i)));
        }

    -- a solution of the row's equations makes what is possible for the node itself
    pub own_possible : (r : ℕ) (row : Row) → slice_get op.rows r ≡ Some row → (i : ℕ) (h : Substitution) → IsGrounding def.signature h → SolvesAll h (own_case op names i row).given
        → IsPossibleInside def (bare f) (choice_of f r) (map (substitute h) (own_case op names i row).columns)
    own_possible r row chosen i h ground solved =
        let entities : List Term = name_terms op.items row.columns in
        let shape = operator_sound def sound o op found in
        let is = each_at (IsRow def shape.sort shape.columns) op.rows shape.each_row r row chosen in
        let left = names_left def f [] node.parts in
        let top : length (names_at_top def f) ≡ length (are_names def op.items) = ap (λ (x : Option ℕ). length (are_names def (items_of (option_and_then (operator_at def) x)))) node.top ∙ ap (λ (x : Option Operator). length (are_names def (items_of x))) found ∙ ap length (parts_names def op.items) in
        let own : length (own_names f) ≡ length names = ap length node.own in
        let many : length own_keys ≡ length entities = positions_many def op.items names row.columns shape.columns shape.are_columns is.of_columns (omega (arith, left, top, own)) in
        let entity : Entities = entity_in h own_keys entities in
        let agree : map entity own_keys ≡ map (substitute h) entities = own_agrees h [] [] own_keys entities refl many solved in
        possible_of r (map (substitute h) (own_case op names i row).columns) (record {
          row = row;
          chosen = chosen;
          terms = h;
          grounding = ground;
          entity = entity;
          agree = agree ∙ sym (names_map (substitute h) op.items row.columns);
          row_is = map-append (substitute h) (row.head ∷ slot_terms op.items row.columns) (key_terms (beside own_keys entities) (in_order own_keys))
              ∙ ap₂ (λ (l m : List Term). (substitute h row.head ∷ l) ++ m) (sym (slots_map (substitute h) op.items row.columns))
              (some_entities h entity own_keys (in_order own_keys) entities (sym agree) (λ k j. sym (in_order-among own_keys k (keys-whole (positions op.items names))) ∙ j));
        })
