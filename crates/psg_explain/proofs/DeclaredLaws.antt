-- What an operator's node declares is what its positions and its children declare.
use Rattle.std.proofs.Common.{◌≡◌, inl, inr, ℕ, zero, suc, ◌+◌, ◌<◌, ◌≤◌, Bool, true, false, cond, List, [], ◌∷◌, ◌++◌, drop, get_or, length, length-append, Option, Some, None, slice_get, refl, sym, ap, ap₂, ◌∙◌, subst, append_assoc, append-nil, arith}
use Rattle.std.specs.List.{AllByRecursion}
use Rattle.std.proofs.lemmas.List.{drop_all, map-append}
use Rattle.std.proofs.lemmas.Option.{same_Some}
use Rattle.psg_terms.specs.Names.{Name}
use Rattle.psg_terms.proofs.Lists.{drop_item, slice_get-middle}
use Rattle.psg_grammar.specs.declared.types.Item.{Item}
use Rattle.psg_grammar.specs.declared.types.Item.TheVariants as items
use Rattle.psg_grammar.specs.declared.types.Operator.{Operator}
use Rattle.psg_grammar.specs.declared.types.Definition.{Definition}
use Rattle.psg_grammar.specs.Fragments.{Fragment, hole, ending, cell, operator, with_child, with_name, with_number, with_text, anything, observed, top_operator}
use Rattle.psg_grammar.specs.Keys.{Key}
use Rattle.psg_grammar.specs.Lookups.{is_declares, is_scope, key_at, key_of as key_of_item, next_item, part_items}
use Rattle.psg_grammar.specs.Regions.{declared_in, declared_inside}
use Rattle.psg_tree.specs.declared.tree.Part.{Part}
use Rattle.psg_tree.specs.declared.tree.Part.TheVariants as parts
use Rattle.psg_tree.specs.Shapes.{list_of, subtrees, with_part, with_parts}
use Rattle.psg_scope.specs.declared.header.NameCol.{NameCol}
use Rattle.psg_scope.specs.Headers.{keep_if, key_of, keys}
use Rattle.psg_eval.specs.OwnRows.{positions}
use Rattle.psg_eval.specs.Trees.{HasParts, own_names}
use Rattle.psg_eval.proofs.Spines.{done_of, first_bare, item_is}
use Rattle.psg_explain.specs.DeclaredParts.{element_keys, part_keys, parts_keys, position_keys}
use Rattle.psg_explain.specs.Splits.{name_of_part, names_among}
use Rattle.psg_explain.proofs.CasingLaws.{top_of}
use Rattle.psg_explain.proofs.Firsts.{same_item}
use Rattle.psg_explain.proofs.FormedParts.{operator_of}
use Rattle.psg_explain.specs.Sources.{IsStepNode}
use Rattle.psg_explain.proofs.StagingLaws.{node_parts}

positions_parts : (xs : List Item) (names : List Name) → positions (part_items xs) names ≡ positions xs names
positions_parts [] names = refl
positions_parts (items.Refers s ∷ xs) [] = refl
positions_parts (items.Refers s ∷ xs) (n ∷ names) = ap (λ (l : List NameCol). record { space = s; name = n; declared = false } ∷ l) (positions_parts xs names)
positions_parts (items.Declares s ∷ xs) [] = refl
positions_parts (items.Declares s ∷ xs) (n ∷ names) = ap (λ (l : List NameCol). record { space = s; name = n; declared = true } ∷ l) (positions_parts xs names)
positions_parts (_ ∷ xs) names = positions_parts xs names

-- ---- loops

pub part_more : (def : Definition) (own : List NameCol) (ps : List Part) (i next n : ℕ) (p : Part) (old new : List NameCol) (whole : List Key) → i < length ps → p ≡ get_or ps i p
    → n ≡ next + length (name_of_part p) → keys new ≡ keys old ++ part_keys def own next p → keys old ++ parts_keys def own next (drop i ps) ≡ whole
    → keys new ++ parts_keys def own n (drop (i + 1) ps) ≡ whole
part_more def own ps i next n p old new whole lt at e made now =
    ap₂ (λ (l : List Key) (k : ℕ). l ++ parts_keys def own k (drop (i + 1) ps)) made e ∙ append_assoc (keys old) (part_keys def own next p) (parts_keys def own (next + length (name_of_part p)) (drop (i + 1) ps))
    ∙ ap (λ (l : List Part). keys old ++ parts_keys def own next l) (sym (drop_item ps i p lt at)) ∙ now

pub parts_over : (def : Definition) (own : List NameCol) (ps : List Part) (i next : ℕ) (new : List NameCol) (whole : List Key) → length ps ≤ i → keys new ++ parts_keys def own next (drop i ps) ≡ whole → keys new ≡ whole
parts_over def own ps i next new whole le now = sym (append-nil (keys new)) ∙ ap (λ (l : List Part). keys new ++ parts_keys def own next l) (sym (drop_all i ps le)) ∙ now

pub element_more : (def : Definition) (es : List Fragment) (i : ℕ) (e : Fragment) (old new : List NameCol) (whole : List Key) → i < length es → e ≡ get_or es i e
    → keys new ≡ keys old ++ declared_in def e → keys old ++ element_keys def (drop i es) ≡ whole → keys new ++ element_keys def (drop (i + 1) es) ≡ whole
element_more def es i e old new whole lt at made now =
    ap (λ (l : List Key). l ++ element_keys def (drop (i + 1) es)) made ∙ append_assoc (keys old) (declared_in def e) (element_keys def (drop (i + 1) es))
    ∙ ap (λ (l : List Fragment). keys old ++ element_keys def l) (sym (drop_item es i e lt at)) ∙ now

pub elements_over : (def : Definition) (es : List Fragment) (i : ℕ) (new : List NameCol) (whole : List Key) → length es ≤ i → keys new ++ element_keys def (drop i es) ≡ whole → keys new ≡ whole
elements_over def es i new whole le now = sym (append-nil (keys new)) ∙ ap (λ (l : List Fragment). keys new ++ element_keys def l) (sym (drop_all i es le)) ∙ now

pub pushed_key : (old new : List NameCol) (c : NameCol) → new ≡ old ++ c ∷ [] → keys new ≡ keys old ++ key_of c ∷ []
pushed_key old new c e = ap keys e ∙ map-append key_of old (c ∷ [])

pub list_declares : (def : Definition) (l : ℕ) (es : List Fragment) (u : Bool) → declared_inside def (list_of l es u) ≡ element_keys def es
list_declares def l [] u = refl
list_declares def l (e ∷ es) u = ap (λ (ks : List Key). declared_in def e ++ ks) (list_declares def l es u)

-- ---- an operator's parts

module _ (def : Definition) (o : ℕ) (op : Operator) (found : slice_get def.operators o ≡ Some op) where
  next_is : (f : Fragment) (i : Item) (more : List Item) → HasParts def f (i ∷ more) → next_item def f ≡ Some i
  next_is f i more h =
      let it = operator_of def f (i ∷ more) h in
      sym (same_item def 0 f) ∙ ap (next_item def) (first_bare def f (i ∷ more) h) ∙ item_is def it.o it.op it.found f i more (done_of def it.o it.op it.found f (i ∷ more) it.top h)

  -- the positions of the names that are there, and of those that follow
  pub record Seen (f : Fragment) (more : List Item) : Type 0 where
    pub front : List NameCol
    pub many : length front ≡ length (own_names f)
    pub all : (rest : List Name) → positions (part_items op.items) (own_names f ++ rest) ≡ front ++ positions more rest

  one_seen : (f : Fragment) (n : Name) (i : Item) (more : List Item) (c : NameCol) → ((rest : List Name) → positions (i ∷ more) (n ∷ rest) ≡ c ∷ positions more rest) → Seen f (i ∷ more) → Seen (with_name f n) more
  one_seen f n i more c first s = record {
    front = s.front ++ c ∷ [];
    many = (let a = length-append s.front (c ∷ []) in let b = length-append (own_names f) (n ∷ []) in let m = s.many in omega (arith, a, b, m));
    all = λ rest. ap (positions (part_items op.items)) (append_assoc (own_names f) (n ∷ []) rest) ∙ s.all (n ∷ rest) ∙ ap (λ (l : List NameCol). s.front ++ l) (first rest)
        ∙ sym (append_assoc s.front (c ∷ []) (positions more rest));
  }

  seen_of : (f : Fragment) (more : List Item) → top_operator f ≡ Some o → HasParts def f more → Seen f more
  seen_of (operator p) more top (other, at, e) =
      let same : o ≡ p = same_Some o p (sym top) in
      let d : op ≡ other = same_Some op other (sym found ∙ ap (slice_get def.operators) same ∙ at) in
      record { front = []; many = refl; all = λ rest. ap (λ (l : List Item). positions l rest) (ap (λ (x : Operator). part_items x.items) d ∙ sym e) }
  seen_of (with_child f t) more top (k, h) = let s = seen_of f (items.Slot k ∷ more) top h in record { front = s.front; many = s.many; all = s.all }
  seen_of (with_name f n) more top (inl (s, h)) = one_seen f n (items.Refers s) more (record { space = s; name = n; declared = false }) (λ rest. refl) (seen_of f (items.Refers s ∷ more) top h)
  seen_of (with_name f n) more top (inr (s, h)) = one_seen f n (items.Declares s) more (record { space = s; name = n; declared = true }) (λ rest. refl) (seen_of f (items.Declares s ∷ more) top h)
  seen_of (with_number f n) more top h = let s = seen_of f (items.Number ∷ more) top h in record { front = s.front; many = s.many; all = s.all }
  seen_of (with_text f n) more top h = let s = seen_of f (items.Text ∷ more) top h in record { front = s.front; many = s.many; all = s.all }
  seen_of (hole p) more top h = absurd h
  seen_of (ending l u) more top h = absurd h
  seen_of (cell l u v) more top h = absurd h
  seen_of anything more top h = absurd h
  seen_of (observed f) more top h = absurd h

  -- the position of the next name
  position_at : (f : Fragment) (n : Name) (rest : List Name) (i : Item) (more : List Item) (c : NameCol) → (positions (i ∷ more) (n ∷ rest) ≡ c ∷ positions more rest) → Seen f (i ∷ more)
      → slice_get (positions op.items (own_names f ++ n ∷ rest)) (length (own_names f)) ≡ Some c
  position_at f n rest i more c first s =
      ap₂ slice_get (sym (positions_parts op.items (own_names f ++ n ∷ rest)) ∙ s.all (n ∷ rest) ∙ ap (λ (l : List NameCol). s.front ++ l) first) (sym s.many) ∙ slice_get-middle s.front c (positions more rest)

  -- what the next part declares
  part_declares : (f : Fragment) (p : Part) (rest : List Name) (more : List Item) → top_operator f ≡ Some o → HasParts def (with_part f p) more
      → declared_inside def (with_part f p) ≡ declared_inside def f ++ part_keys def (positions op.items (own_names f ++ (name_of_part p ++ rest))) (length (own_names f)) p
  part_declares f (parts.Sub t) rest more top h = refl
  part_declares f (parts.Number n) rest more top h = sym (append-nil (declared_inside def f))
  part_declares f (parts.Text n) rest more top h = sym (append-nil (declared_inside def f))
  part_declares f (parts.Name n) rest more top (inl (s, h)) =
      ap (λ (ks : List Key). declared_inside def f ++ ks)
      (ap (λ (x : Option Item). cond (is_declares x) (key_at def f n ∷ []) []) (next_is f (items.Refers s) more h)
      ∙ sym (ap position_keys (position_at f n rest (items.Refers s) more (record { space = s; name = n; declared = false }) refl (seen_of f (items.Refers s ∷ more) top h))))
  part_declares f (parts.Name n) rest more top (inr (s, h)) =
      ap (λ (ks : List Key). declared_inside def f ++ ks)
      (ap (λ (x : Option Item). cond (is_declares x) (key_of_item x n ∷ []) []) (next_is f (items.Declares s) more h)
      ∙ sym (ap position_keys (position_at f n rest (items.Declares s) more (record { space = s; name = n; declared = true }) refl (seen_of f (items.Declares s ∷ more) top h))))

  -- the parts that are there before the others
  before_part : (f : Fragment) (p : Part) (more : List Item) → HasParts def (with_part f p) more → (i : Item) × HasParts def f (i ∷ more)
  before_part f (parts.Sub t) more (k, h) = (items.Slot k, h)
  before_part f (parts.Name n) more (inl (s, h)) = (items.Refers s, h)
  before_part f (parts.Name n) more (inr (s, h)) = (items.Declares s, h)
  before_part f (parts.Number n) more h = (items.Number, h)
  before_part f (parts.Text n) more h = (items.Text, h)

  before_parts : (f : Fragment) (ps : List Part) (more : List Item) → HasParts def (with_parts f ps) more → (left : List Item) × HasParts def f left
  before_parts f [] more h = (more, h)
  before_parts f (p ∷ ps) more h =
      let (left, k) = before_parts (with_part f p) ps more h in
      let (i, own) = before_part f p left k in
      (i ∷ left, own)

  top_part : (f : Fragment) (p : Part) → top_operator (with_part f p) ≡ top_operator f
  top_part f (parts.Sub t) = refl
  top_part f (parts.Name n) = refl
  top_part f (parts.Number n) = refl
  top_part f (parts.Text n) = refl

  names_part : (f : Fragment) (p : Part) → own_names (with_part f p) ≡ own_names f ++ name_of_part p
  names_part f (parts.Sub t) = sym (append-nil (own_names f))
  names_part f (parts.Name n) = refl
  names_part f (parts.Number n) = sym (append-nil (own_names f))
  names_part f (parts.Text n) = sym (append-nil (own_names f))

  pub parts_declare : (f : Fragment) (ps : List Part) (more : List Item) → top_operator f ≡ Some o → HasParts def (with_parts f ps) more
      → declared_inside def (with_parts f ps) ≡ declared_inside def f ++ parts_keys def (positions op.items (own_names f ++ names_among ps)) (length (own_names f)) ps
  parts_declare f [] more top h = sym (append-nil (declared_inside def f))
  parts_declare f (p ∷ ps) more top h =
      let (left, k) = before_parts (with_part f p) ps more h in
      let own : List NameCol = positions op.items (own_names f ++ (name_of_part p ++ names_among ps)) in
      let names : own_names (with_part f p) ++ names_among ps ≡ own_names f ++ (name_of_part p ++ names_among ps) =
      ap (λ (l : List Name). l ++ names_among ps) (names_part f p) ∙ append_assoc (own_names f) (name_of_part p) (names_among ps) in
      let count : length (own_names (with_part f p)) ≡ length (own_names f) + length (name_of_part p) = ap length (names_part f p) ∙ length-append (own_names f) (name_of_part p) in
      parts_declare (with_part f p) ps more (top_part f p ∙ top) h
      ∙ ap₂ (λ (l : List Name) (n : ℕ). declared_inside def (with_part f p) ++ parts_keys def (positions op.items l) n ps) names count
      ∙ ap (λ (ks : List Key). ks ++ parts_keys def own (length (own_names f) + length (name_of_part p)) ps) (part_declares f p (names_among ps) left top k)
      ∙ append_assoc (declared_inside def f) (part_keys def own (length (own_names f)) p) (parts_keys def own (length (own_names f) + length (name_of_part p)) ps)

pub operator_declares : (def : Definition) (o : ℕ) (op : Operator) (ps : List Part) (own : List NameCol) → slice_get def.operators o ≡ Some op → HasParts def (with_parts (operator o) ps) []
    → own ≡ positions op.items (names_among ps) → parts_keys def own 0 ps ≡ declared_inside def (with_parts (operator o) ps)
operator_declares def o op ps own found parts is = ap (λ (l : List NameCol). parts_keys def l 0 ps) is ∙ sym (parts_declare def o op found (operator o) ps [] refl parts)

-- the tree that the part is, is one of those among the parts
pub part_formed : (P : Fragment → Type 0) (ps : List Part) (i : ℕ) (p : Part) → i < length ps → p ≡ get_or ps i p → AllByRecursion P (subtrees ps) → AllByRecursion P (subtrees (p ∷ []))
part_formed P [] i p lt at h = absurd (omega (arith, lt))
part_formed P (q ∷ ps) zero p lt at h = subst (λ x. AllByRecursion P (subtrees (x ∷ []))) (sym at) (first q ps h)
  where
    first : (q : Part) (ps : List Part) → AllByRecursion P (subtrees (q ∷ ps)) → AllByRecursion P (subtrees (q ∷ []))
    first (parts.Sub t) ps h = (h.0, tt)
    first (parts.Name n) ps h = tt
    first (parts.Number n) ps h = tt
    first (parts.Text n) ps h = tt
part_formed P (q ∷ ps) (suc i) p lt at h = part_formed P ps i p (omega (arith, lt)) at (behind_it q ps h)
  where
    behind_it : (q : Part) (ps : List Part) → AllByRecursion P (subtrees (q ∷ ps)) → AllByRecursion P (subtrees ps)
    behind_it (parts.Sub t) ps h = h.1
    behind_it (parts.Name n) ps h = h
    behind_it (parts.Number n) ps h = h
    behind_it (parts.Text n) ps h = h

-- ---- one part

pub child_scope : (def : Definition) (f : Fragment) (ks : List Key) → is_scope def f ≡ true → ks ≡ ks ++ declared_in def f
child_scope def f ks e = sym (append-nil ks) ∙ ap (λ b. ks ++ cond b [] (declared_inside def f)) (sym e)

pub child_open : (def : Definition) (f : Fragment) (ks now : List Key) → is_scope def f ≡ false → now ≡ ks ++ declared_inside def f → now ≡ ks ++ declared_in def f
child_open def f ks now e h = h ∙ ap (λ b. ks ++ cond b [] (declared_inside def f)) (sym e)

module _ (own : List NameCol) (n : ℕ) (ks : List Key) where
  pub position_pushed : (c key : NameCol) (old new : List NameCol) → slice_get own n ≡ Some c → c.declared ≡ true → key ≡ c → ks ≡ keys old → new ≡ old ++ key ∷ [] → keys new ≡ ks ++ position_keys (slice_get own n)
  position_pushed c key old new at declares same is made =
      pushed_key old new key made ∙ ap₂ (λ (l : List Key) (k : NameCol). l ++ key_of k ∷ []) (sym is) same ∙ ap (λ b. ks ++ keep_if b (key_of c) []) (sym declares) ∙ ap (λ o. ks ++ position_keys o) (sym at)

  pub position_skipped : (c : NameCol) → slice_get own n ≡ Some c → c.declared ≡ false → ks ≡ ks ++ position_keys (slice_get own n)
  position_skipped c at silent = sym (append-nil ks) ∙ ap (λ b. ks ++ keep_if b (key_of c) []) (sym silent) ∙ ap (λ o. ks ++ position_keys o) (sym at)

  pub position_none : slice_get own n ≡ None → ks ≡ ks ++ position_keys (slice_get own n)
  position_none none = sym (append-nil ks) ∙ ap (λ o. ks ++ position_keys o) (sym none)

module _ (def : Definition) (own : List NameCol) (next : ℕ) (p : Part) (ks now : List Key) where
  pub sub_found : (t : Fragment) → p ≡ parts.Sub t → now ≡ ks ++ declared_in def t → (now ≡ ks ++ part_keys def own next p) × (next ≡ next + length (name_of_part p))
  sub_found t e h =
      let none : length (name_of_part p) ≡ 0 = ap (λ x. length (name_of_part x)) e in
      (h ∙ ap (λ x. ks ++ part_keys def own next x) (sym e), omega (arith, none))

  pub name_found : (m : Name) → p ≡ parts.Name m → now ≡ ks ++ position_keys (slice_get own next) → (now ≡ ks ++ part_keys def own next p) × (next + 1 ≡ next + length (name_of_part p))
  name_found m e h =
      let one : length (name_of_part p) ≡ 1 = ap (λ x. length (name_of_part x)) e in
      (h ∙ ap (λ x. ks ++ part_keys def own next x) (sym e), omega (arith, one))

  pub number_found : (m : ℕ) → p ≡ parts.Number m → now ≡ ks → (now ≡ ks ++ part_keys def own next p) × (next ≡ next + length (name_of_part p))
  number_found m e h =
      let none : length (name_of_part p) ≡ 0 = ap (λ x. length (name_of_part x)) e in
      (h ∙ sym (append-nil ks) ∙ ap (λ x. ks ++ part_keys def own next x) (sym e), omega (arith, none))

  pub text_found : (m : Name) → p ≡ parts.Text m → now ≡ ks → (now ≡ ks ++ part_keys def own next p) × (next ≡ next + length (name_of_part p))
  text_found m e h =
      let none : length (name_of_part p) ≡ 0 = ap (λ x. length (name_of_part x)) e in
      (h ∙ sym (append-nil ks) ∙ ap (λ x. ks ++ part_keys def own next x) (sym e), omega (arith, none))

-- ---- a whole node

pub node_declares : (def : Definition) (n : ℕ) (ps : List Part) (f : Fragment) (own : List NameCol) (ks now : List Key) → with_parts (operator n) ps ≡ f → IsStepNode def f
    → ((op : Operator) → slice_get def.operators n ≡ Some op → own ≡ positions op.items (names_among ps)) → now ≡ ks ++ parts_keys def own 0 ps → now ≡ ks ++ declared_inside def f
node_declares def n ps f own ks now e formed are h =
    let top : top_operator f ≡ Some n = ap top_operator (sym e) ∙ top_of (operator n) ps in
    let parts = node_parts def f n formed top in
    let it = operator_of def f [] parts in
    let same : it.o ≡ n = same_Some it.o n (sym it.top ∙ top) in
    let found : slice_get def.operators n ≡ Some it.op = ap (slice_get def.operators) (sym same) ∙ it.found in
    let whole : HasParts def (with_parts (operator n) ps) [] = subst (λ g. HasParts def g []) (sym e) parts in
    h ∙ ap (λ l. ks ++ l) (operator_declares def n it.op ps own found whole (are it.op found) ∙ ap (declared_inside def) e)

pub list_node_declares : (def : Definition) (l : ℕ) (es : List Fragment) (u : Bool) (f : Fragment) (ks now : List Key) → list_of l es u ≡ f → now ≡ ks ++ element_keys def es → now ≡ ks ++ declared_inside def f
list_node_declares def l es u f ks now e h = h ∙ ap (λ x. ks ++ x) (sym (list_declares def l es u) ∙ ap (declared_inside def) e)

pub hole_declares : (def : Definition) (p : ℕ) (f : Fragment) (ks : List Key) → hole p ≡ f → ks ≡ ks ++ declared_inside def f
hole_declares def p f ks e = sym (append-nil ks) ∙ ap (λ g. ks ++ declared_inside def g) e

pub part_count : (p : Part) → length (name_of_part p) ≤ 1
part_count (parts.Sub t) = omega arith
part_count (parts.Name n) = omega arith
part_count (parts.Number n) = omega arith
part_count (parts.Text n) = omega arith
