-- The names of a tree, part by part and element by element.
use Rattle.std.proofs.Common.{◌≡◌, ℕ, zero, suc, ◌+◌, ◌<◌, ◌≤◌, Bool, cond, List, [], ◌∷◌, ◌++◌, length, take, drop, get_or, slice_get, Option, Some, None, refl, ap, ap₂, sym, ◌∙◌, arith, append_assoc, append-nil, length-append}
use Rattle.std.proofs.lemmas.Bool.{eq-eqb, ne_eqb}
use Rattle.std.proofs.lemmas.List.{take_all, take-append-drop}
use Rattle.std.proofs.lemmas.Option.{none-some}
use Rattle.psg_terms.proofs.Lists.{drop_item, suc_is_not_zero, take_item}
use Rattle.psg_grammar.specs.declared.types.Definition.{Definition}
use Rattle.psg_grammar.specs.Fragments.{Fragment, operator, children_of}
use Rattle.psg_grammar.specs.Lookups.{items_of, next_item, operator_at}
use Rattle.psg_grammar.specs.Paths.{Path}
use Rattle.psg_tree.specs.declared.tree.Part.{Part}
use Rattle.psg_tree.specs.declared.tree.Part.TheVariants.{Sub, Name, Number, Text}
use Rattle.psg_tree.specs.Shapes.{list_of, with_part, with_parts}
use Rattle.psg_places.specs.Places.{names_before}
use Rattle.psg_places.proofs.OpeningLaws.{length_taken, next_of_parts, parts_push}
use Rattle.psg_uses.specs.declared.names.Gathering.{Gathering}
use Rattle.psg_uses.specs.declared.names.NameItem.{NameItem}
use Rattle.psg_uses.specs.declared.names.Named.{Named}
use Rattle.psg_uses.specs.declared.names.Written.{Written}
use Rattle.psg_uses.specs.ByParts.{child_names, children_in, element_names, name_here, names_by, names_in, part_names}
use Rattle.psg_uses.specs.Naming.{name_in, name_item, own_name}

-- names that were added after others
pub added : (a b c xs ys : List Written) → b ≡ a ++ xs → c ≡ b ++ ys → c ≡ a ++ (xs ++ ys)
added a b c xs ys h k = k ∙ ap (λ s. s ++ ys) h ∙ append_assoc a xs ys

pub names_with : (f : Fragment) (p : Part) → names_before (with_part f p) ≡ names_before f + names_in p
names_with f (Sub t) = omega arith
names_with f (Name x) = omega arith
names_with f (Number x) = omega arith
names_with f (Text x) = omega arith

pub children_with : (f : Fragment) (p : Part) → length (children_of (with_part f p)) ≡ length (children_of f) + children_in p
children_with f (Sub t) = length-append (children_of f) (t ∷ [])
children_with f (Name x) = omega arith
children_with f (Number x) = omega arith
children_with f (Text x) = omega arith

module _ (how : Gathering) where
  by_part : (path : Path) (f : Fragment) (p : Part) → names_by how path 0 (with_part f p)
      ≡ names_by how path 0 f
      ++ part_names how (name_item (next_item how.definition.now f)) path (names_before f) (length (children_of f)) p
  by_part path f (Sub t) = refl
  by_part path f (Name x) = refl
  by_part path f (Number x) = sym (append-nil (names_by how path 0 f))
  by_part path f (Text x) = sym (append-nil (names_by how path 0 f))

  -- the parts that were passed
  pub record PartsTo (path : Path) (op : ℕ) (done : List Part) (names children : ℕ) (old new : List Written) : Type 0 where
    pub names_are : names ≡ names_before (with_parts (operator op) done)
    pub children_are : children ≡ length (children_of (with_parts (operator op) done))
    pub found : new ≡ old ++ names_by how path 0 (with_parts (operator op) done)

  pub none_passed : (path : Path) (op : ℕ) (old : List Written) → PartsTo path op [] 0 0 old old
  none_passed path op old = record { names_are = refl; children_are = refl; found = sym (append-nil old) }

  pub part_passed : (path : Path) (op : ℕ) (all : List Part) (i : ℕ) (x : Part) (item : Option NameItem) (names children own_names own_children more_names more_children : ℕ) (old now next : List Written)
      → i < length all → x ≡ get_or all i x → PartsTo path op (take i all) names children old now
      → item ≡ name_item (slice_get (items_of (operator_at how.definition.now op)) i)
      → next ≡ now ++ part_names how item path names children x → own_names ≡ names_in x → own_children ≡ children_in x
      → more_names ≡ names + own_names → more_children ≡ children + own_children
      → PartsTo path op (take (i + 1) all) more_names more_children old next
  part_passed path op all i x item names children own_names own_children more_names more_children old now next lt at h ic l on oc mn mc =
      let F = with_parts (operator op) (take i all) in
      let long : length (take i all) ≡ i = length_taken i all (omega (arith, lt)) in
      let same_item : item ≡ name_item (next_item how.definition.now F) =
      ic ∙ sym (ap name_item (next_of_parts how.definition.now op (take i all)
      ∙ ap (slice_get (items_of (operator_at how.definition.now op))) long)) in
      let grown : with_part F x ≡ with_parts (operator op) (take (i + 1) all) =
      sym (ap (with_parts (operator op)) (take_item all i x lt at) ∙ parts_push (operator op) (take i all) x) in
      let own : part_names how item path names children x
      ≡ part_names how (name_item (next_item how.definition.now F)) path (names_before F) (length (children_of F)) x =
      ap (λ k. part_names how k path names children x) same_item
      ∙ ap₂ (λ j c. part_names how (name_item (next_item how.definition.now F)) path j c x) h.names_are h.children_are in
      record {
        names_are = mn ∙ ap₂ (λ a b. a + b) h.names_are on ∙ sym (names_with F x) ∙ ap names_before grown;
        children_are =
            mc ∙ ap₂ (λ a b. a + b) h.children_are oc ∙ sym (children_with F x) ∙ ap (λ f. length (children_of f)) grown;
        found =
            added old now next (names_by how path 0 F) _ h.found (l ∙ ap (λ s. now ++ s) own)
            ∙ ap (λ s. old ++ s) (sym (by_part path F x) ∙ ap (names_by how path 0) grown);
      }

  pub all_passed : (path : Path) (op : ℕ) (all : List Part) (i names children : ℕ) (old new : List Written) → length all ≤ i
      → PartsTo path op (take i all) names children old new
      → new ≡ old ++ names_by how path 0 (with_parts (operator op) all)
  all_passed path op all i names children old new le h =
      h.found ∙ ap (λ ps. old ++ names_by how path 0 (with_parts (operator op) ps)) (take_all i all le)

  -- ---- elements

  elements_push : (path : Path) (k : ℕ) (xs : List Fragment) (x : Fragment) → element_names how path k (xs ++ x ∷ [])
      ≡ element_names how path k xs ++ child_names how path (k + length xs) x
  elements_push path k [] x =
      let z : k ≡ k + 0 = omega arith in
      append-nil (child_names how path k x) ∙ ap (λ m. child_names how path m x) z
  elements_push path k (e ∷ xs) x =
      let z : suc k + length xs ≡ k + length (e ∷ xs) = omega arith in
      ap (λ s. child_names how path k e ++ s) (elements_push path (suc k) xs x
      ∙ ap (λ m. element_names how path (suc k) xs ++ child_names how path m x) z)
      ∙ sym (append_assoc (child_names how path k e) (element_names how path (suc k) xs)
      (child_names how path (k + length (e ∷ xs)) x))

  pub element_passed : (path : Path) (all : List Fragment) (i : ℕ) (x : Fragment) (old now next : List Written)
      → i < length all → x ≡ get_or all i x → now ≡ old ++ element_names how path 0 (take i all)
      → next ≡ now ++ child_names how path i x → next ≡ old ++ element_names how path 0 (take (i + 1) all)
  element_passed path all i x old now next lt at h l =
      let long : length (take i all) ≡ i = length_taken i all (omega (arith, lt)) in
      let zero_on : 0 + length (take i all) ≡ i = omega (arith, long) in
      added old now next (element_names how path 0 (take i all)) (child_names how path i x) h l
      ∙ ap (λ s. old ++ s) (ap (λ m. element_names how path 0 (take i all) ++ child_names how path m x) (sym zero_on)
      ∙ sym (elements_push path 0 (take i all) x) ∙ ap (element_names how path 0) (sym (take_item all i x lt at)))

  pub elements_passed : (path : Path) (all : List Fragment) (i : ℕ) (old new : List Written) → length all ≤ i
      → new ≡ old ++ element_names how path 0 (take i all) → new ≡ old ++ element_names how path 0 all
  elements_passed path all i old new le h = h ∙ ap (λ es. old ++ element_names how path 0 es) (take_all i all le)

  pub list_names : (path : Path) (k l : ℕ) (es : List Fragment) (u : Bool)
      → names_by how path k (list_of l es u) ≡ element_names how path k es
  list_names path k l [] u = refl
  list_names path k l (e ∷ es) u = ap (λ s. child_names how path k e ++ s) (list_names path (suc k) l es u)

-- ---- the name of a number

pub only_none : {X : Type 0} (o : Option X) → ((x : X) → o ≡ Some x → ⊥) → o ≡ None
only_none None never = refl
only_none (Some x) never = absurd (never x refl)

some_same : (y x : List ℕ) → Some y ≡ Some x → y ≡ x
some_same y x h = cc

names_more : (f : Fragment) (ps : List Part) → names_before f ≤ names_before (with_parts f ps)
names_more f [] = omega arith
names_more f (p ∷ ps) = omega (arith, names_more (with_part f p) ps, names_with f p)

module _ (def : Definition) (path : Path) (k : ℕ) where
  kept_by : (f : Fragment) (p : Part) → k < names_before f → name_in def path k (with_part f p) ≡ name_in def path k f
  kept_by f (Sub t) lt = refl
  kept_by f (Name x) lt =
      ap (λ b. cond b (own_name (name_item (next_item def f)) path k x) (name_in def path k f))
      (ne_eqb (names_before f) k (λ e. omega (arith, lt, e)))
  kept_by f (Number x) lt = refl
  kept_by f (Text x) lt = refl

  -- later parts change nothing
  kept_after : (f : Fragment) (ps : List Part) → k < names_before f → name_in def path k (with_parts f ps) ≡ name_in def path k f
  kept_after f [] lt = refl
  kept_after f (p ∷ ps) lt =
      kept_after (with_part f p) ps (omega (arith, lt, names_with f p)) ∙ kept_by f p lt

  -- the parts that were passed have not so many names
  pub record NoneTo (op : ℕ) (done : List Part) (left : ℕ) : Type 0 where
    pub count : names_before (with_parts (operator op) done) + left ≡ k
    pub none : name_in def path k (with_parts (operator op) done) ≡ None

  pub none_at_first : (op left : ℕ) → left ≡ k → NoneTo op [] left
  none_at_first op left e = record { count = omega (arith, e); none = refl }

  none_here : (f : Fragment) (p : Part) (left : ℕ) → name_here left p ≡ None → names_before f + left ≡ k
      → name_in def path k f ≡ None → name_in def path k (with_part f p) ≡ None
  none_here f (Sub t) left h e n = n
  none_here f (Name x) zero h e n = absurd (none-some x (sym h))
  none_here f (Name x) (suc left) h e n =
      ap (λ b. cond b (own_name (name_item (next_item def f)) path k x) (name_in def path k f))
      (ne_eqb (names_before f) k (λ s. omega (arith, e, s))) ∙ n
  none_here f (Number x) left h e n = n
  none_here f (Text x) left h e n = n

  pub enough : (p : Part) (left own : ℕ) → name_here left p ≡ None → own ≡ names_in p → own ≤ left
  enough (Sub t) left own h e = omega (arith, e)
  enough (Name x) zero own h e = absurd (none-some x (sym h))
  enough (Name x) (suc left) own h e = omega (arith, e)
  enough (Number x) left own h e = omega (arith, e)
  enough (Text x) left own h e = omega (arith, e)

  pub none_passed_by : (op : ℕ) (all : List Part) (i : ℕ) (p : Part) (left own less : ℕ) → i < length all → p ≡ get_or all i p
      → NoneTo op (take i all) left → name_here left p ≡ None → own ≡ names_in p → less + own ≡ left
      → NoneTo op (take (i + 1) all) less
  none_passed_by op all i p left own less lt at h n o l =
      let F = with_parts (operator op) (take i all) in
      let grown : with_part F p ≡ with_parts (operator op) (take (i + 1) all) =
      sym (ap (with_parts (operator op)) (take_item all i p lt at) ∙ parts_push (operator op) (take i all) p) in
      let long : names_before (with_part F p) + less ≡ k = omega (arith, names_with F p, h.count, o, l) in
      record {
        count = ap (λ f. names_before f + less) (sym grown) ∙ long;
        none = ap (name_in def path k) (sym grown) ∙ none_here F p left n h.count h.none;
      }

  pub none_at_last : (op : ℕ) (all : List Part) (i left : ℕ) → length all ≤ i → NoneTo op (take i all) left
      → None ≡ name_in def path k (with_parts (operator op) all)
  none_at_last op all i left le h =
      sym h.none ∙ ap (λ ps. name_in def path k (with_parts (operator op) ps)) (take_all i all le)

  drop_parts : (f : Fragment) (xs ys : List Part) → with_parts f (xs ++ ys) ≡ with_parts (with_parts f xs) ys
  drop_parts f [] ys = refl
  drop_parts f (x ∷ xs) ys = drop_parts (with_part f x) xs ys

  here_is : (f : Fragment) (p : Part) (x : List ℕ) (left : ℕ) → name_here left p ≡ Some x → names_before f + left ≡ k
      → (k < names_before (with_part f p)) × (name_in def path k (with_part f p) ≡ own_name (name_item (next_item def f)) path k x)
  here_is f (Sub t) x left h e = absurd (none-some x h)
  here_is f (Name y) x zero h e =
      let same : y ≡ x = some_same y x h in
      let at : names_before f ≡ k = omega (arith, e) in (
        omega (arith, e),
        ap (λ b. cond b (own_name (name_item (next_item def f)) path k y) (name_in def path k f)) (eq-eqb (names_before f) k at)
            ∙ ap (own_name (name_item (next_item def f)) path k) same,
      )
  here_is f (Name y) x (suc left) h e =
      absurd (none-some x (sym (ap (λ b. cond b (Some y) None) (suc_is_not_zero left)) ∙ h))
  here_is f (Number y) x left h e = absurd (none-some x h)
  here_is f (Text y) x left h e = absurd (none-some x h)

  pub found_here : (op : ℕ) (all : List Part) (i : ℕ) (p : Part) (x : List ℕ) (left : ℕ) (item : Option NameItem) (found : Option Named)
      → i < length all → p ≡ get_or all i p → NoneTo op (take i all) left → name_here left p ≡ Some x
      → item ≡ name_item (slice_get (items_of (operator_at def op)) i) → found ≡ own_name item path k x
      → found ≡ name_in def path k (with_parts (operator op) all)
  found_here op all i p x left item found lt at h n ic fo =
      let F = with_parts (operator op) (take i all) in
      let long : length (take i all) ≡ i = length_taken i all (omega (arith, lt)) in
      let same : item ≡ name_item (next_item def F) =
      ic ∙ sym (ap name_item (next_of_parts def op (take i all) ∙ ap (slice_get (items_of (operator_at def op))) long)) in
      let is = here_is F p x left n h.count in
      let whole : all ≡ take i all ++ p ∷ drop (i + 1) all =
      sym (take-append-drop i all) ∙ ap (λ ps. take i all ++ ps) (drop_item all i p lt at) in
      fo ∙ ap (λ m. own_name m path k x) same ∙ sym is.1
      ∙ sym (kept_after (with_part F p) (drop (i + 1) all) is.0)
      ∙ ap (name_in def path k) (sym (ap (with_parts (operator op)) whole ∙ drop_parts (operator op) (take i all) (p ∷ drop (i + 1) all)))

pub no_name_of_list : (def : Definition) (path : Path) (k l : ℕ) (es : List Fragment) (u : Bool)
    → None ≡ name_in def path k (list_of l es u)
no_name_of_list def path k l [] u = refl
no_name_of_list def path k l (e ∷ es) u = refl
