-- The first step of an operator: its own rows and keys.
use Rattle.std.proofs.Common.{◌≡◌, inl, inr, ℕ, true, false, cond, List, [], ◌∷◌, ◌++◌, map, Some, refl, sym, ap, ap₂, ◌∙◌, subst, append-nil}
use Rattle.std.proofs.lemmas.Bool.{cases_Bool}
use Rattle.psg_terms.proofs.Lists.{each_at}
use Rattle.std.specs.List.{slice_get, AllByRecursion}
use Rattle.psg_terms.specs.Terms.{Term}
use Rattle.psg_terms.specs.Names.{Name, is_among, has_twice}
use Rattle.psg_terms.specs.Signature.{Signature, HasSort, HaveSorts}
use Rattle.psg_terms.specs.Instances.{Substitution, substitute, IsGrounding, IsGround}
use Rattle.psg_terms.specs.Relations.{IsRelation}
use Rattle.psg_terms.proofs.InstanceLaws.{ground-substitute}
use Rattle.psg_terms.proofs.Renumbering.{HaveSorts-substitute}
use Rattle.psg_grammar.specs.declared.types.Item.{Item}
use Rattle.psg_grammar.specs.declared.types.Item.TheVariants as items
use Rattle.psg_grammar.specs.declared.types.Operator.{Operator}
use Rattle.psg_grammar.specs.declared.types.Definition.{Definition}
use Rattle.psg_grammar.specs.Fragments.{Fragment}
use Rattle.psg_grammar.specs.Keys.{Key, in_order}
use Rattle.psg_grammar.specs.Legal.{Entities, AreEntities}
use Rattle.psg_grammar.specs.Lookups.{part_items}
use Rattle.psg_grammar.specs.Open.{IsOfOperatorRow}
use Rattle.psg_grammar.specs.Regions.{declared_inside, names_inside, unfinished_inside}
use Rattle.psg_grammar.specs.Relations.{IsPossibleInside}
use Rattle.psg_grammar.specs.Sound.{IsSound, IsRow}
use Rattle.psg_grammar.specs.Steps.{first_children}
use Rattle.psg_grammar.proofs.SoundParts.{operator_sound}
use Rattle.psg_relation.proofs.Relating.{carried}
use Rattle.psg_scope.specs.Headers.{keys, declared_keys, IsKey, IsHeader}
use Rattle.psg_scope.specs.declared.header.Header.{Header}
use Rattle.psg_scope.proofs.HeaderLaws.{keys-whole}
use Rattle.psg_scope.proofs.KeyLists.{in_order-among}
use Rattle.psg_eval.specs.Trees.{IsNode}
use Rattle.psg_eval.specs.OwnRows.{positions, slot_terms, name_terms, OwnRow}
use Rattle.psg_eval.proofs.Columns.{map_same}
use Rattle.psg_grammar.proofs.MixedEntities.{mixed}
use Rattle.psg_eval.proofs.Spines.{bare, choice_of, row_of, choice-row, row-choice, first_bare, bare_unfinished, bare_below, bare_names, bare_declared}
use Rattle.psg_eval.proofs.Usual.{usual, usual_entities}
use Rattle.psg_eval.proofs.Weaving.{holds_weave, weave_holds, weave_told, IsEntity, entity_among, split_of}

slots_parts : (xs : List Item) (terms : List Term) → slot_terms (part_items xs) terms ≡ slot_terms xs terms
slots_parts [] terms = refl
slots_parts (items.Slot k ∷ xs) [] = refl
slots_parts (items.Slot k ∷ xs) (t ∷ terms) = ap (λ l. t ∷ l) (slots_parts xs terms)
slots_parts (items.Refers s ∷ xs) [] = refl
slots_parts (items.Refers s ∷ xs) (t ∷ terms) = slots_parts xs terms
slots_parts (items.Declares s ∷ xs) [] = refl
slots_parts (items.Declares s ∷ xs) (t ∷ terms) = slots_parts xs terms
slots_parts (_ ∷ xs) terms = slots_parts xs terms

names_parts : (xs : List Item) (terms : List Term) → name_terms (part_items xs) terms ≡ name_terms xs terms
names_parts [] terms = refl
names_parts (items.Slot k ∷ xs) [] = refl
names_parts (items.Slot k ∷ xs) (t ∷ terms) = names_parts xs terms
names_parts (items.Refers s ∷ xs) [] = refl
names_parts (items.Refers s ∷ xs) (t ∷ terms) = ap (λ l. t ∷ l) (names_parts xs terms)
names_parts (items.Declares s ∷ xs) [] = refl
names_parts (items.Declares s ∷ xs) (t ∷ terms) = ap (λ l. t ∷ l) (names_parts xs terms)
names_parts (_ ∷ xs) terms = names_parts xs terms

all_ground : (sig : Signature) (f : Substitution) → IsGrounding sig f → (row : List Term) (sorts : List ℕ) → HaveSorts sig row sorts → AllByRecursion IsGround (map (substitute f) row)
all_ground sig f k [] sorts h = tt
all_ground sig f k (t ∷ row) [] h = absurd h
all_ground sig f k (t ∷ row) (s ∷ sorts) (h, hs) = (ground-substitute sig f k t [] s h, all_ground sig f k row sorts hs)

no_terms : (sig : Signature) (columns : List Term) (sorts : List ℕ) → sorts ≡ [] → HaveSorts sig columns sorts → columns ≡ []
no_terms sig [] sorts e h = refl
no_terms sig (t ∷ columns) sorts e h = absurd (subst (HaveSorts sig (t ∷ columns)) e h)

module _ (def : Definition) (o : ℕ) (op : Operator) (found : slice_get def.operators o ≡ Some op) (names : List Name) (f : Fragment) (node : IsNode def o names f) where
  abbrev own_keys : List Key
  own_keys = keys (positions op.items names)

  pub first_is : first_children 0 f ≡ bare f
  first_is = first_bare def f [] node.parts

  bare_keys : names_inside def (bare f) ≡ own_keys
  bare_keys = bare_names def o op found f node.top node.parts ∙ ap (λ l. keys (positions op.items l)) node.own

  pub own_names_inside : names_inside def (first_children 0 f) ≡ keys (positions op.items names)
  own_names_inside = ap (names_inside def) first_is ∙ bare_keys

  pub own_declared : declared_inside def (first_children 0 f) ≡ declared_keys (positions op.items names)
  own_declared = ap (declared_inside def) first_is ∙ bare_declared def o op found f node.top node.parts ∙ ap (λ l. declared_keys (positions op.items l)) node.own

  pub own_unfinished : (s : ℕ) → unfinished_inside def s (first_children 0 f) ≡ false
  own_unfinished s = ap (unfinished_inside def s) first_is ∙ bare_unfinished def f s

  -- the header of the own positions is that of the first step
  pub own_header : (h : Header) → IsHeader (keys (positions op.items names)) (declared_keys (positions op.items names)) (λ s. false) h
      → IsHeader (names_inside def (first_children 0 f)) (declared_inside def (first_children 0 f)) (λ s. unfinished_inside def s (first_children 0 f)) h
  own_header h is = record {
    whole = subst (AllByRecursion IsKey) (sym own_names_inside) is.whole;
    keys_are = is.keys_are ∙ ap in_order (sym own_names_inside);
    declares = λ k. is.declares k ∙ ap (λ l. is_among l k) (sym own_declared);
    spaces = λ s. is.spaces s ∙ sym (own_unfinished s);
    ascending = is.ascending;
    repeats = is.repeats ∙ ap has_twice (sym own_declared);
  }

  module _ (sound : IsSound def) (once : has_twice (declared_inside def (bare f)) ≡ false) where
    possible_of : (r : ℕ) (x : List Term) → OwnRow def.signature op names r x → IsPossibleInside def (bare f) (choice_of f r) x
    possible_of r x it =
        let shape = operator_sound def sound o op found in
        let rows = each_at (IsRow def shape.sort shape.columns) op.rows shape.each_row r it.row it.chosen in
        let full : List Term = map (substitute it.terms) it.row.columns in
        let w = split_of def o op found f [] node.top node.parts full shape.columns shape.are_columns
        (HaveSorts-substitute def.signature it.terms it.grounding.sorted it.row.columns shape.columns rows.of_columns)
        (all_ground def.signature it.terms it.grounding it.row.columns shape.columns rows.of_columns) in
        let full_is : full ≡ w.own ++ [] = w.full_is ∙ ap (λ l. w.own ++ l) (no_terms def.signature w.columns w.sorts w.are_columns w.sorted) in
        let told = weave_told def o op found f [] node.top node.parts w.own w.values w.terms w.weaves [] in
        let slots : slot_terms op.items full ≡ w.values ++ [] = sym (slots_parts op.items full) ∙ ap (slot_terms (part_items op.items)) full_is ∙ told.slots in
        let terms : name_terms op.items full ≡ w.terms = sym (names_parts op.items full) ∙ ap (name_terms (part_items op.items)) full_is ∙ told.names ∙ append-nil w.terms in
        let ks : List Key = names_inside def (bare f) in
        let whole : AllByRecursion IsKey ks = subst (AllByRecursion IsKey) (sym bare_keys) (keys-whole (positions op.items names)) in
        let kept : map it.entity ks ≡ w.terms = ap (map it.entity) bare_keys ∙ it.agree ∙ terms in
        let g : Entities = mixed ks it.entity (usual def sound) in
        let on : (n : Key) → is_among ks n ≡ true → it.entity n ≡ g n = λ n i. sym (ap (λ b. cond b (it.entity n) (usual def sound n)) i) in
        let own : (n : Key) → is_among ks n ≡ true → IsEntity def o op found n (it.entity n) = entity_among def o op found ks w.terms it.entity w.entities kept in
        let others = usual_entities def sound in
        let eg : AreEntities def g = record {
          ground = λ n. elim (cases_Bool (is_among ks n)) [
            | inl i ↦ subst (λ b. IsGround (cond b (it.entity n) (usual def sound n))) (sym i) (own n i).ground
            | inr i ↦ subst (λ b. IsGround (cond b (it.entity n) (usual def sound n))) (sym i) (others.ground n)
          ];
          sorted = λ n e at. elim (cases_Bool (is_among ks n)) [
            | inl i ↦ subst (λ b. HasSort def.signature (cond b (it.entity n) (usual def sound n)) e.sort.0) (sym i) ((own n i).sorted e at)
            | inr i ↦ subst (λ b. HasSort def.signature (cond b (it.entity n) (usual def sound n)) e.sort.0) (sym i) (others.sorted n e at)
          ];
        } in
        let v : Term = substitute it.terms it.row.head in
        let row : IsOfOperatorRow def o r v (w.own ++ []) = record {
          op = op;
          found = found;
          row = it.row;
          chosen = it.chosen;
          value = record { terms = it.terms; grounding = it.grounding; head = refl; rest = sym full_is };
        } in
        record {
          distinct = (once, bare_below def f);
          inside = g;
          entities = eg;
          value = v;
          seen = w.values ++ [];
          holds = weave_holds def o op found f node.top w.own w.values w.terms w.weaves g eg (sym kept ∙ map_same it.entity g ks on) r [] v [] row;
          columns_are = it.row_is ∙ ap₂ (λ l k. (v ∷ l) ++ k) slots
              (ap (λ l. map it.entity (in_order l)) (sym bare_keys) ∙ map_same it.entity g (in_order ks) (λ n i. on n (sym (in_order-among ks n whole) ∙ i)));
        }

    pub own_of_possible : (r : ℕ) (x : List Term) → IsPossibleInside def (bare f) (choice_of f r) x → OwnRow def.signature op names r x
    own_of_possible r x it =
        let w = holds_weave def o op found f [] node.top node.parts it.inside (choice_of f r) [] it.value it.seen [] it.holds in
        let row : IsOfOperatorRow def o r it.value (w.own ++ []) = subst (λ k. IsOfOperatorRow def o k it.value (w.own ++ [])) (row-choice f r) w.row in
        let same : row.op ≡ op = let d : Some row.op ≡ Some op = sym row.found ∙ found in cc in
        let full : List Term = map (substitute row.value.terms) row.row.columns in
        let told = weave_told def o op found f [] node.top node.parts w.own w.values (map it.inside (names_inside def (bare f))) w.weaves [] in
        let slots : slot_terms op.items full ≡ it.seen =
        sym (slots_parts op.items full) ∙ ap (slot_terms (part_items op.items)) (sym row.value.rest) ∙ told.slots ∙ sym w.before_is in
        let terms : name_terms op.items full ≡ map it.inside (names_inside def (bare f)) =
        sym (names_parts op.items full) ∙ ap (name_terms (part_items op.items)) (sym row.value.rest) ∙ told.names ∙ append-nil (map it.inside (names_inside def (bare f))) in
        record {
          row = row.row;
          chosen = sym (ap (λ (z : Operator). slice_get z.rows r) same) ∙ row.chosen;
          terms = row.value.terms;
          grounding = row.value.grounding;
          entity = it.inside;
          agree = ap (map it.inside) (sym bare_keys) ∙ sym terms;
          row_is = it.columns_are ∙ ap₂ (λ v l. (v ∷ l) ++ map it.inside (in_order (names_inside def (bare f)))) row.value.head (sym slots)
              ∙ ap (λ l. (substitute row.value.terms row.row.head ∷ slot_terms op.items full) ++ map it.inside (in_order l)) bare_keys;
        }

    bare_step : (ss : List ℕ) (rows : List (List Term)) → IsRelation def.signature ss (OwnRow def.signature op names) rows → IsRelation def.signature ss (IsPossibleInside def (bare f)) rows
    bare_step ss rows rel =
        carried def.signature ss (OwnRow def.signature op names) (IsPossibleInside def (bare f))
        (λ r columns h. (choice_of f r, λ x. (possible_of r x, own_of_possible r x)))
        (λ c columns h. (
          row_of f c,
          λ x. (
            (λ own. subst (λ d. IsPossibleInside def (bare f) d x) (choice-row f c) (possible_of (row_of f c) x own)),
            (λ it. own_of_possible (row_of f c) x (subst (λ d. IsPossibleInside def (bare f) d x) (sym (choice-row f c)) it)),
          ),
        ))
        rows rel

  pub first_step : (ss : List ℕ) (rows : List (List Term)) → IsSound def → has_twice (declared_inside def (first_children 0 f)) ≡ false
      → IsRelation def.signature ss (OwnRow def.signature op names) rows → IsRelation def.signature ss (IsPossibleInside def (first_children 0 f)) rows
  first_step ss rows sound once rel =
      subst (λ z. IsRelation def.signature ss (IsPossibleInside def z) rows) (sym first_is) (bare_step sound (ap (λ z. has_twice (declared_inside def z)) (sym first_is) ∙ once) ss rows rel)
