-- The names of a tree, part by part and element by element.
use Rattle.std.proofs.Common.{◌≡◌, ℕ, suc, ◌+◌, ◌<◌, ◌≤◌, Bool, List, [], ◌∷◌, ◌++◌, length, take, get_or, slice_get, Option, refl, ap, ap₂, sym, ◌∙◌, arith, append_assoc, append-nil, length-append}
use Rattle.std.proofs.lemmas.List.{take_all}
use Rattle.psg_terms.proofs.Lists.{take_item}
use Rattle.psg_grammar.specs.declared.types.Definition.{Definition}
use Rattle.psg_grammar.specs.Fragments.{Fragment, operator, children_of}
use Rattle.psg_grammar.specs.Lookups.{items_of, next_item, operator_at}
use Rattle.psg_grammar.specs.Paths.{Path}
use Rattle.psg_tree.specs.declared.tree.Part.{Part}
use Rattle.psg_tree.specs.declared.tree.Part.TheVariants.{Sub, Name, Number, Text}
use Rattle.psg_tree.specs.Shapes.{list_of, with_part, with_parts}
use Rattle.psg_places.specs.Places.{names_before}
use Rattle.psg_places.proofs.OpeningLaws.{length_taken, next_of_parts, parts_push}
use Rattle.psg_uses.specs.declared.names.NameItem.{NameItem}
use Rattle.psg_uses.specs.declared.names.Named.{Named}
use Rattle.psg_uses.specs.ByParts.{children_in, names_in}
use Rattle.psg_uses.specs.Naming.{name_item, written}
use Rattle.psg_links.specs.Names.{child_names, element_names, names_below, part_names}

abbrev pub one_name : NameItem → Path → ℕ → List ℕ → List Named
one_name own path number x =
    record { name = written path number own.space x; declares = own.declares } ∷ []

-- names that were added after others
pub added : (a b c xs ys : List Named) → b ≡ a ++ xs → c ≡ b ++ ys → c ≡ a ++ (xs ++ ys)
added a b c xs ys h k = k ∙ ap (λ s. s ++ ys) h ∙ append_assoc a xs ys

pub names_with : (f : Fragment) (p : Part) → names_before (with_part f p) ≡ names_before f + names_in p
names_with f (Sub t) = omega arith
names_with f (Name x) = omega arith
names_with f (Number x) = omega arith
names_with f (Text x) = omega arith

pub children_with : (f : Fragment) (p : Part) → length (children_of (with_part f p)) ≡ length (children_of f) + children_in p
children_with f (Sub t) = length-append (children_of f) (t ∷ [])
children_with f (Name x) = omega arith
children_with f (Number x) = omega arith
children_with f (Text x) = omega arith

module _ (def : Definition) where
  by_part : (path : Path) (f : Fragment) (p : Part) → names_below def path 0 (with_part f p)
      ≡ names_below def path 0 f
      ++ part_names def (name_item (next_item def f)) path (names_before f) (length (children_of f)) p
  by_part path f (Sub t) = refl
  by_part path f (Name x) = refl
  by_part path f (Number x) = sym (append-nil (names_below def path 0 f))
  by_part path f (Text x) = sym (append-nil (names_below def path 0 f))

  -- the parts that were passed
  pub record PartsTo (path : Path) (op : ℕ) (done : List Part) (names children : ℕ) (old new : List Named) : Type 0 where
    pub names_are : names ≡ names_before (with_parts (operator op) done)
    pub children_are : children ≡ length (children_of (with_parts (operator op) done))
    pub found : new ≡ old ++ names_below def path 0 (with_parts (operator op) done)

  pub none_passed : (path : Path) (op : ℕ) (old : List Named) → PartsTo path op [] 0 0 old old
  none_passed path op old = record { names_are = refl; children_are = refl; found = sym (append-nil old) }

  pub part_passed : (path : Path) (op : ℕ) (all : List Part) (i : ℕ) (x : Part) (item : Option NameItem) (names children own_names own_children more_names more_children : ℕ) (old now next : List Named)
      → i < length all → x ≡ get_or all i x → PartsTo path op (take i all) names children old now
      → item ≡ name_item (slice_get (items_of (operator_at def op)) i)
      → next ≡ now ++ part_names def item path names children x → own_names ≡ names_in x → own_children ≡ children_in x
      → more_names ≡ names + own_names → more_children ≡ children + own_children
      → PartsTo path op (take (i + 1) all) more_names more_children old next
  part_passed path op all i x item names children own_names own_children more_names more_children old now next lt at h ic l on oc mn mc =
      let F = with_parts (operator op) (take i all) in
      let long : length (take i all) ≡ i = length_taken i all (omega (arith, lt)) in
      let same_item : item ≡ name_item (next_item def F) =
      ic ∙ sym (ap name_item (next_of_parts def op (take i all)
      ∙ ap (slice_get (items_of (operator_at def op))) long)) in
      let grown : with_part F x ≡ with_parts (operator op) (take (i + 1) all) =
      sym (ap (with_parts (operator op)) (take_item all i x lt at) ∙ parts_push (operator op) (take i all) x) in
      let own : part_names def item path names children x
      ≡ part_names def (name_item (next_item def F)) path (names_before F) (length (children_of F)) x =
      ap (λ k. part_names def k path names children x) same_item
      ∙ ap₂ (λ j c. part_names def (name_item (next_item def F)) path j c x) h.names_are h.children_are in
      record {
        names_are = mn ∙ ap₂ (λ a b. a + b) h.names_are on ∙ sym (names_with F x) ∙ ap names_before grown;
        children_are =
            mc ∙ ap₂ (λ a b. a + b) h.children_are oc ∙ sym (children_with F x) ∙ ap (λ f. length (children_of f)) grown;
        found =
            added old now next (names_below def path 0 F) _ h.found (l ∙ ap (λ s. now ++ s) own)
            ∙ ap (λ s. old ++ s) (sym (by_part path F x) ∙ ap (names_below def path 0) grown);
      }

  pub all_passed : (path : Path) (op : ℕ) (all : List Part) (i names children : ℕ) (old new : List Named) → length all ≤ i
      → PartsTo path op (take i all) names children old new
      → new ≡ old ++ names_below def path 0 (with_parts (operator op) all)
  all_passed path op all i names children old new le h =
      h.found ∙ ap (λ ps. old ++ names_below def path 0 (with_parts (operator op) ps)) (take_all i all le)

  -- ---- elements

  elements_push : (path : Path) (k : ℕ) (xs : List Fragment) (x : Fragment) → element_names def path k (xs ++ x ∷ [])
      ≡ element_names def path k xs ++ child_names def path (k + length xs) x
  elements_push path k [] x =
      let z : k ≡ k + 0 = omega arith in
      append-nil (child_names def path k x) ∙ ap (λ m. child_names def path m x) z
  elements_push path k (e ∷ xs) x =
      let z : suc k + length xs ≡ k + length (e ∷ xs) = omega arith in
      ap (λ s. child_names def path k e ++ s) (elements_push path (suc k) xs x
      ∙ ap (λ m. element_names def path (suc k) xs ++ child_names def path m x) z)
      ∙ sym (append_assoc (child_names def path k e) (element_names def path (suc k) xs)
      (child_names def path (k + length (e ∷ xs)) x))

  pub element_passed : (path : Path) (all : List Fragment) (i : ℕ) (x : Fragment) (old now next : List Named)
      → i < length all → x ≡ get_or all i x → now ≡ old ++ element_names def path 0 (take i all)
      → next ≡ now ++ child_names def path i x → next ≡ old ++ element_names def path 0 (take (i + 1) all)
  element_passed path all i x old now next lt at h l =
      let long : length (take i all) ≡ i = length_taken i all (omega (arith, lt)) in
      let zero_on : 0 + length (take i all) ≡ i = omega (arith, long) in
      added old now next (element_names def path 0 (take i all)) (child_names def path i x) h l
      ∙ ap (λ s. old ++ s) (ap (λ m. element_names def path 0 (take i all) ++ child_names def path m x) (sym zero_on)
      ∙ sym (elements_push path 0 (take i all) x) ∙ ap (element_names def path 0) (sym (take_item all i x lt at)))

  pub elements_passed : (path : Path) (all : List Fragment) (i : ℕ) (old new : List Named) → length all ≤ i
      → new ≡ old ++ element_names def path 0 (take i all) → new ≡ old ++ element_names def path 0 all
  elements_passed path all i old new le h = h ∙ ap (λ es. old ++ element_names def path 0 es) (take_all i all le)

  pub list_names : (path : Path) (k l : ℕ) (es : List Fragment) (u : Bool)
      → names_below def path k (list_of l es u) ≡ element_names def path k es
  list_names path k l [] u = refl
  list_names path k l (e ∷ es) u = ap (λ s. child_names def path k e ++ s) (list_names path (suc k) l es u)
