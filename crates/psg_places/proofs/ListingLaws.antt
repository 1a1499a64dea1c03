-- The places that are passed, step by step.
use Rattle.std.proofs.Common.{◌≡◌, ℕ, zero, suc, ◌+◌, ◌<◌, ◌≤◌, ◌&&◌, not, Bool, true, false, cond, List, [], ◌∷◌, ◌++◌, length, take, get_or, slice_get, Option, Some, None, refl, ap, ap₂, sym, ◌∙◌, subst, arith, append_assoc, append-nil, length-append}
use Rattle.std.proofs.lemmas.List.{take_all}
use Rattle.psg_terms.proofs.Lists.{take_item}
use Rattle.psg_grammar.specs.declared.types.Definition.{Definition}
use Rattle.psg_grammar.specs.Fragments.{Fragment, operator, children_of}
use Rattle.psg_grammar.specs.Lookups.{is_declares, items_of, next_item, operator_at}
use Rattle.psg_grammar.specs.Paths.{Path}
use Rattle.psg_tree.specs.declared.tree.Part.{Part}
use Rattle.psg_tree.specs.declared.tree.Part.TheVariants.{Sub, Name, Number, Text}
use Rattle.psg_tree.specs.Shapes.{list_of, with_part, with_parts}
use Rattle.psg_places.specs.declared.passing.Listing.{Listing}
use Rattle.psg_places.specs.declared.place.Place.{Place}
use Rattle.psg_places.specs.declared.place.Place.TheVariants.{End}
use Rattle.psg_places.specs.Blame.{blamed_in, is_some_true, kept_in}
use Rattle.psg_places.specs.Listings.{Lists, blamed_among, is_blamed, is_some_false, opened_among, children_in, elements_declared_places, elements_places}
use Rattle.psg_places.specs.Listings.{fixed_places, names_in, own_element_places, part_content_places, part_declared_places}
use Rattle.psg_places.specs.Places.{below, content_places, declared_places, may_go_on, names_before}
use Rattle.psg_places.proofs.OpeningLaws.{length_taken, next_of_parts, parts_push}

-- ---- where no place is kept, and where some are blamed

pub opened_all : (ps : List Place) (n : ℕ) → opened_among [] n ps ≡ ps
opened_all [] n = refl
opened_all (p ∷ ps) n = ap (λ qs. p ∷ qs) (opened_all ps (suc n))

take_none : (m : ℕ) → take {A = Place} m [] ≡ []
take_none zero = refl
take_none (suc m) = refl

with_answer : (o : Option Bool) (b : Bool) (answers : List Bool) (p : Place) (xs ys : List Place) → o ≡ Some b
    → take (blamed_in answers) xs ≡ ys
    → take (blamed_in (b ∷ answers)) (cond (not (is_some_true o)) (p ∷ []) [] ++ xs) ≡ cond (is_some_false o) (p ∷ []) [] ++ ys
with_answer o b answers p xs ys e h =
    subst (λ t. take (blamed_in (b ∷ answers)) (cond (not (is_some_true t)) (p ∷ []) [] ++ xs) ≡ cond (is_some_false t) (p ∷ []) [] ++ ys)
    (sym e) (by_answer b)
  where
    by_answer : (b : Bool) → take (blamed_in (b ∷ answers)) (cond (not b) (p ∷ []) [] ++ xs) ≡ cond (not b) (p ∷ []) [] ++ ys
    by_answer true = let z : blamed_in (true ∷ answers) ≡ blamed_in answers = omega arith in ap (λ m. take m xs) z ∙ h
    by_answer false =
        let z : blamed_in (false ∷ answers) ≡ suc (blamed_in answers) = omega arith in
        ap (λ m. take m (p ∷ xs)) z ∙ ap (λ qs. p ∷ qs) h

-- these are the answers from the number n on
blamed_along : (kept : List Bool) (n : ℕ) (answers : List Bool) (ps : List Place)
    → ((k m : ℕ) → m ≡ n + k → slice_get kept m ≡ slice_get answers k)
    → take (blamed_in answers) (opened_among kept n ps) ≡ blamed_among kept n ps
blamed_along kept n answers [] h = take_none (blamed_in answers)
blamed_along kept n [] (p ∷ ps) h =
    let none : slice_get kept n ≡ None = h 0 n (omega arith) in
    let more = blamed_along kept (suc n) [] ps (λ k m e. h (suc k) m (omega (arith, e))) in
    more ∙ ap (λ o. cond (is_some_false o) (p ∷ []) [] ++ blamed_among kept (suc n) ps) (sym none)
blamed_along kept n (b ∷ answers) (p ∷ ps) h =
    with_answer (slice_get kept n) b answers p (opened_among kept (suc n) ps) (blamed_among kept (suc n) ps) (h 0 n (omega arith))
    (blamed_along kept (suc n) answers ps (λ k m e. h (suc k) m (omega (arith, e))))

-- The blamed places are the first ones that are opened.
pub blamed_first : (kept : List Bool) (ps : List Place) → take (blamed_in kept) (opened_among kept 0 ps) ≡ blamed_among kept 0 ps
blamed_first kept ps = blamed_along kept 0 kept ps (λ k m e. let z : m ≡ k = omega (arith, e) in ap (λ i. slice_get kept i) z)

blamed_more : (kept : List Bool) (i : ℕ) → i < length kept
    → blamed_in (take (suc i) kept) ≡ blamed_in (take i kept) + cond (is_blamed kept i) 1 0
blamed_more [] i lt = absurd (omega arith)
blamed_more (true ∷ kept) zero lt = refl
blamed_more (false ∷ kept) zero lt = refl
blamed_more (b ∷ kept) (suc i) lt = let e = blamed_more kept i (omega (arith, lt)) in omega (arith, e)

pub blamed_counted : (kept : List Bool) (i : ℕ) (blamed : Bool) (total more : ℕ) → i < length kept
    → blamed ≡ is_blamed kept i → more ≡ cond blamed 1 0 → total ≡ blamed_in (take i kept)
    → total + more ≡ blamed_in (take (i + 1) kept)
blamed_counted kept i blamed total more lt b m h =
    let z : i + 1 ≡ suc i = omega arith in
    ap₂ (λ x y. x + y) h (m ∙ ap (λ t. cond t 1 0) b) ∙ sym (blamed_more kept i lt) ∙ ap (λ n. blamed_in (take n kept)) (sym z)

pub blamed_all : (kept : List Bool) (i total : ℕ) → length kept ≤ i → total ≡ blamed_in (take i kept) → total ≡ blamed_in kept
blamed_all kept i total le h = h ∙ ap blamed_in (take_all i kept le)

-- ---- places one after the other

pub opened_both : (kept : List Bool) (n : ℕ) (xs ys : List Place)
    → opened_among kept n (xs ++ ys) ≡ opened_among kept n xs ++ opened_among kept (n + length xs) ys
opened_both kept n [] ys = let z : n ≡ n + 0 = omega arith in ap (λ m. opened_among kept m ys) z
opened_both kept n (x ∷ xs) ys =
    let here = cond (not (kept_in kept n)) (x ∷ []) [] in
    let z : suc n + length xs ≡ n + length (x ∷ xs) = omega arith in
    ap (λ ps. here ++ ps) (opened_both kept (suc n) xs ys)
    ∙ ap (λ m. here ++ (opened_among kept (suc n) xs ++ opened_among kept m ys)) z
    ∙ sym (append_assoc here (opened_among kept (suc n) xs) (opened_among kept (n + length (x ∷ xs)) ys))

pub lists_both : (kept : List Bool) (xs ys : List Place) (a b c : Listing) → Lists kept xs a b → Lists kept ys b c
    → Lists kept (xs ++ ys) a c
lists_both kept xs ys a b c h k = record {
  seen = let l = length-append xs ys in omega (arith, h.seen, k.seen, l);
  found =
      k.found ∙ ap₂ (λ ps m. ps ++ opened_among kept m ys) h.found h.seen
      ∙ append_assoc a.found.items (opened_among kept a.seen xs) (opened_among kept (a.seen + length xs) ys)
      ∙ ap (λ ps. a.found.items ++ ps) (sym (opened_both kept a.seen xs ys));
}

pub lists_none : (kept : List Bool) (a : Listing) → Lists kept [] a a
lists_none kept a = record { seen = omega arith; found = sym (append-nil a.found.items) }

pub lists_one : (kept : List Bool) (p : Place) (old new : Listing) (next : ℕ) (wanted : Bool) (found : List Place)
    → next ≡ old.seen + 1 → wanted ≡ not (kept_in kept old.seen) → found ≡ old.found.items ++ cond wanted (p ∷ []) []
    → new.seen ≡ next → new.found.items ≡ found → Lists kept (p ∷ []) old new
lists_one kept p old new next wanted found n w f s e = record {
  seen = s ∙ n;
  found =
      e ∙ f ∙ ap (λ b. old.found.items ++ cond b (p ∷ []) []) w
      ∙ ap (λ ps. old.found.items ++ ps) (sym (append-nil (cond (not (kept_in kept old.seen)) (p ∷ []) [])));
}

-- the same places, said in another way
pub places_same : (kept : List Bool) (xs ys : List Place) (a b : Listing) → xs ≡ ys → Lists kept xs a b → Lists kept ys a b
places_same kept xs ys a b e h = subst (λ ps. Lists kept ps a b) e h

-- ---- by a test

pub lists_true : (kept : List Bool) (b : Bool) (xs ys : List Place) (a c : Listing) → b ≡ true → Lists kept xs a c
    → Lists kept (cond b xs ys) a c
lists_true kept b xs ys a c e h = subst (λ t. Lists kept (cond t xs ys) a c) (sym e) h

pub lists_false : (kept : List Bool) (b : Bool) (xs ys : List Place) (a c : Listing) → b ≡ false → Lists kept ys a c
    → Lists kept (cond b xs ys) a c
lists_false kept b xs ys a c e h = subst (λ t. Lists kept (cond t xs ys) a c) (sym e) h

-- after a place
pub after_true : (kept : List Bool) (p : Place) (b : Bool) (xs ys : List Place) (a m c : Listing) → b ≡ true
    → Lists kept (p ∷ []) a m → Lists kept xs m c → Lists kept (p ∷ cond b xs ys) a c
after_true kept p b xs ys a m c e h k =
    subst (λ t. Lists kept (p ∷ cond t xs ys) a c) (sym e) (lists_both kept (p ∷ []) xs a m c h k)

pub after_false : (kept : List Bool) (p : Place) (b : Bool) (xs ys : List Place) (a m c : Listing) → b ≡ false
    → Lists kept (p ∷ []) a m → Lists kept ys m c → Lists kept (p ∷ cond b xs ys) a c
after_false kept p b xs ys a m c e h k =
    subst (λ t. Lists kept (p ∷ cond t xs ys) a c) (sym e) (lists_both kept (p ∷ []) ys a m c h k)

-- ---- parts

module _ (def : Definition) where
  declared_with : (path : Path) (k : ℕ) (f : Fragment) (p : Part) → declared_places def path k (with_part f p)
      ≡ declared_places def path k f
      ++ part_declared_places def path (is_declares (next_item def f)) (names_before f) (length (children_of f)) p
  declared_with path k f (Sub t) = refl
  declared_with path k f (Name x) = refl
  declared_with path k f (Number x) = sym (append-nil (declared_places def path k f))
  declared_with path k f (Text x) = sym (append-nil (declared_places def path k f))

  content_with : (path : Path) (k : ℕ) (f : Fragment) (p : Part) → content_places def path k (with_part f p)
      ≡ content_places def path k f
      ++ part_content_places def path (is_declares (next_item def f)) (names_before f) (length (children_of f)) p
  content_with path k f (Sub t) = refl
  content_with path k f (Name x) = refl
  content_with path k f (Number x) = sym (append-nil (content_places def path k f))
  content_with path k f (Text x) = sym (append-nil (content_places def path k f))

names_with : (f : Fragment) (p : Part) → names_before (with_part f p) ≡ names_before f + names_in p
names_with f (Sub t) = omega arith
names_with f (Name x) = omega arith
names_with f (Number x) = omega arith
names_with f (Text x) = omega arith

children_with : (f : Fragment) (p : Part) → length (children_of (with_part f p)) ≡ length (children_of f) + children_in p
children_with f (Sub t) = length-append (children_of f) (t ∷ [])
children_with f (Name x) = omega arith
children_with f (Number x) = omega arith
children_with f (Text x) = omega arith

module _ (def : Definition) (kept : List Bool) (path : Path) (op : ℕ) where
  -- the parts that were passed, whose places are said by a function
  pub record PartsTo (places : Fragment → List Place) (done : List Part) (names children : ℕ) (old new : Listing) : Type 0 where
    pub names_are : names ≡ names_before (with_parts (operator op) done)
    pub children_are : children ≡ length (children_of (with_parts (operator op) done))
    pub lists : Lists kept (places (with_parts (operator op) done)) old new

  abbrev pub DeclaredTo : List Part → ℕ → ℕ → Listing → Listing → Type 0
  DeclaredTo done names children old new = PartsTo (declared_places def path 0) done names children old new

  abbrev pub ContentTo : List Part → ℕ → ℕ → Listing → Listing → Type 0
  ContentTo done names children old new = PartsTo (content_places def path 0) done names children old new

  pub no_declared : (a : Listing) → DeclaredTo [] 0 0 a a
  no_declared a = record { names_are = refl; children_are = refl; lists = lists_none kept a }

  pub no_content : (a : Listing) → ContentTo [] 0 0 a a
  no_content a = record { names_are = refl; children_are = refl; lists = lists_none kept a }

  module _ (places : Fragment → List Place) (own : Bool → ℕ → ℕ → Part → List Place) (with : (f : Fragment) (p : Part) → places (with_part f p) ≡ places f ++ own (is_declares (next_item def f)) (names_before f) (length (children_of f)) p) where
    part_passed : (all : List Part) (i : ℕ) (x : Part) (declares : Bool) (names children own_names own_children more_names more_children : ℕ) (old now next : Listing)
        → i < length all → x ≡ get_or all i x → PartsTo places (take i all) names children old now
        → declares ≡ is_declares (slice_get (items_of (operator_at def op)) i)
        → Lists kept (own declares names children x) now next → own_names ≡ names_in x → own_children ≡ children_in x
        → more_names ≡ names + own_names → more_children ≡ children + own_children
        → PartsTo places (take (i + 1) all) more_names more_children old next
    part_passed all i x declares names children own_names own_children more_names more_children old now next lt at h dc l on oc mn mc =
        let F = with_parts (operator op) (take i all) in
        let long : length (take i all) ≡ i = length_taken i all (omega (arith, lt)) in
        let item : declares ≡ is_declares (next_item def F) =
        dc ∙ sym (ap is_declares (next_of_parts def op (take i all)
        ∙ ap (slice_get (items_of (operator_at def op))) long)) in
        let grown : with_part F x ≡ with_parts (operator op) (take (i + 1) all) =
        sym (ap (with_parts (operator op)) (take_item all i x lt at) ∙ parts_push (operator op) (take i all) x) in
        let same : own declares names children x ≡ own (is_declares (next_item def F)) (names_before F) (length (children_of F)) x =
        ap (λ b. own b names children x) item
        ∙ ap₂ (λ j c. own (is_declares (next_item def F)) j c x) h.names_are h.children_are in
        record {
          names_are = mn ∙ ap₂ (λ a b. a + b) h.names_are on ∙ sym (names_with F x) ∙ ap names_before grown;
          children_are =
              mc ∙ ap₂ (λ a b. a + b) h.children_are oc ∙ sym (children_with F x)
              ∙ ap (λ f. length (children_of f)) grown;
          lists =
              subst (λ ps. Lists kept ps old next) (sym (with F x) ∙ ap places grown)
              (lists_both kept (places F) (own (is_declares (next_item def F)) (names_before F) (length (children_of F)) x)
              old now next h.lists (subst (λ ps. Lists kept ps now next) same l));
        }

  pub declared_passed : (all : List Part) (i : ℕ) (x : Part) (declares : Bool) (names children own_names own_children more_names more_children : ℕ) (old now next : Listing)
      → i < length all → x ≡ get_or all i x → DeclaredTo (take i all) names children old now
      → declares ≡ is_declares (slice_get (items_of (operator_at def op)) i)
      → Lists kept (part_declared_places def path declares names children x) now next → own_names ≡ names_in x
      → own_children ≡ children_in x → more_names ≡ names + own_names → more_children ≡ children + own_children
      → DeclaredTo (take (i + 1) all) more_names more_children old next
  declared_passed = part_passed (declared_places def path 0) (part_declared_places def path) (declared_with def path 0)

  pub content_passed : (all : List Part) (i : ℕ) (x : Part) (declares : Bool) (names children own_names own_children more_names more_children : ℕ) (old now next : Listing)
      → i < length all → x ≡ get_or all i x → ContentTo (take i all) names children old now
      → declares ≡ is_declares (slice_get (items_of (operator_at def op)) i)
      → Lists kept (part_content_places def path declares names children x) now next → own_names ≡ names_in x
      → own_children ≡ children_in x → more_names ≡ names + own_names → more_children ≡ children + own_children
      → ContentTo (take (i + 1) all) more_names more_children old next
  content_passed = part_passed (content_places def path 0) (part_content_places def path) (content_with def path 0)

  pub declared_all : (all : List Part) (i names children : ℕ) (old new : Listing) → length all ≤ i
      → DeclaredTo (take i all) names children old new
      → Lists kept (declared_places def path 0 (with_parts (operator op) all)) old new
  declared_all all i names children old new le h =
      subst (λ ps. Lists kept (declared_places def path 0 (with_parts (operator op) ps)) old new) (take_all i all le) h.lists

  pub content_all : (all : List Part) (i names children : ℕ) (old new : Listing) → length all ≤ i
      → ContentTo (take i all) names children old new
      → Lists kept (content_places def path 0 (with_parts (operator op) all)) old new
  content_all all i names children old new le h =
      subst (λ ps. Lists kept (content_places def path 0 (with_parts (operator op) ps)) old new) (take_all i all le) h.lists

-- ---- elements

module _ (def : Definition) where
  elements_declared_push : (path : Path) (k : ℕ) (xs : List Fragment) (x : Fragment)
      → elements_declared_places def path k (xs ++ x ∷ [])
      ≡ elements_declared_places def path k xs ++ fixed_places def (below path (k + length xs)) x
  elements_declared_push path k [] x =
      let z : k ≡ k + 0 = omega arith in
      append-nil (fixed_places def (below path k) x) ∙ ap (λ m. fixed_places def (below path m) x) z
  elements_declared_push path k (e ∷ xs) x =
      let z : suc k + length xs ≡ k + length (e ∷ xs) = omega arith in
      ap (λ ps. fixed_places def (below path k) e ++ ps) (elements_declared_push path (suc k) xs x
      ∙ ap (λ m. elements_declared_places def path (suc k) xs ++ fixed_places def (below path m) x) z)
      ∙ sym (append_assoc (fixed_places def (below path k) e) (elements_declared_places def path (suc k) xs)
      (fixed_places def (below path (k + length (e ∷ xs))) x))

  elements_push : (free : Bool) (path : Path) (k : ℕ) (xs : List Fragment) (x : Fragment)
      → elements_places def free path k (xs ++ x ∷ [])
      ≡ elements_places def free path k xs ++ own_element_places def free (below path (k + length xs)) x
  elements_push free path k [] x =
      let z : k ≡ k + 0 = omega arith in
      append-nil (own_element_places def free (below path k) x)
      ∙ ap (λ m. own_element_places def free (below path m) x) z
  elements_push free path k (e ∷ xs) x =
      let z : suc k + length xs ≡ k + length (e ∷ xs) = omega arith in
      ap (λ ps. own_element_places def free (below path k) e ++ ps) (elements_push free path (suc k) xs x
      ∙ ap (λ m. elements_places def free path (suc k) xs ++ own_element_places def free (below path m) x) z)
      ∙ sym (append_assoc (own_element_places def free (below path k) e) (elements_places def free path (suc k) xs)
      (own_element_places def free (below path (k + length (e ∷ xs))) x))

  list_declared : (path : Path) (k l : ℕ) (es : List Fragment) (u : Bool) → may_go_on def l ≡ false
      → elements_declared_places def path k es ≡ declared_places def path k (list_of l es u)
  list_declared path k l [] u e = refl
  list_declared path k l (x ∷ es) u e =
      ap (λ ps. fixed_places def (below path k) x ++ ps) (list_declared path (suc k) l es u e)
      ∙ ap (λ b. cond b [] (fixed_places def (below path k) x) ++ declared_places def path (suc k) (list_of l es u)) (sym e)

  free_declared : (path : Path) (k l : ℕ) (es : List Fragment) (u : Bool) → may_go_on def l ≡ true
      → ◌≡◌ {A = List Place} [] (declared_places def path k (list_of l es u))
  free_declared path k l [] u e = refl
  free_declared path k l (x ∷ es) u e =
      free_declared path (suc k) l es u e
      ∙ ap (λ b. cond b [] (fixed_places def (below path k) x) ++ declared_places def path (suc k) (list_of l es u)) (sym e)

  list_content : (path : Path) (k l : ℕ) (es : List Fragment) (u : Bool)
      → elements_places def (may_go_on def l) path k es ++ cond (may_go_on def l && not u) (End path ∷ []) []
      ≡ content_places def path k (list_of l es u)
  list_content path k l [] u = refl
  list_content path k l (x ∷ es) u =
      append_assoc (own_element_places def (may_go_on def l) (below path k) x)
      (elements_places def (may_go_on def l) path (suc k) es) (cond (may_go_on def l && not u) (End path ∷ []) [])
      ∙ ap (λ ps. own_element_places def (may_go_on def l) (below path k) x ++ ps) (list_content path (suc k) l es u)

  module _ (kept : List Bool) (path : Path) where
    abbrev pub ElementsDeclaredTo : List Fragment → Listing → Listing → Type 0
    ElementsDeclaredTo done old new = Lists kept (elements_declared_places def path 0 done) old new

    pub element_declared : (all : List Fragment) (i : ℕ) (x : Fragment) (inner : Path) (old now next : Listing)
        → i < length all → x ≡ get_or all i x → ElementsDeclaredTo (take i all) old now → inner ≡ below path i
        → Lists kept (fixed_places def inner x) now next → ElementsDeclaredTo (take (i + 1) all) old next
    element_declared all i x inner old now next lt at h p l =
        let long : length (take i all) ≡ i = length_taken i all (omega (arith, lt)) in
        let here : 0 + length (take i all) ≡ i = omega (arith, long) in
        let same : fixed_places def inner x ≡ fixed_places def (below path (0 + length (take i all))) x =
        ap (λ q. fixed_places def q x) p ∙ ap (λ m. fixed_places def (below path m) x) (sym here) in
        subst (λ ps. Lists kept ps old next)
        (sym (ap (elements_declared_places def path 0) (take_item all i x lt at) ∙ elements_declared_push path 0 (take i all) x))
        (lists_both kept (elements_declared_places def path 0 (take i all))
        (fixed_places def (below path (0 + length (take i all))) x) old now next h
        (subst (λ ps. Lists kept ps now next) same l))

    pub elements_declared_all : (all : List Fragment) (i : ℕ) (old new : Listing) → length all ≤ i
        → ElementsDeclaredTo (take i all) old new → ElementsDeclaredTo all old new
    elements_declared_all all i old new le h = subst (λ es. ElementsDeclaredTo es old new) (take_all i all le) h

    module _ (free : Bool) where
      abbrev pub ElementsTo : List Fragment → Listing → Listing → Type 0
      ElementsTo done old new = Lists kept (elements_places def free path 0 done) old new

      pub element_passed : (all : List Fragment) (i : ℕ) (x : Fragment) (inner : Path) (old now next : Listing)
          → i < length all → x ≡ get_or all i x → ElementsTo (take i all) old now → inner ≡ below path i
          → Lists kept (own_element_places def free inner x) now next → ElementsTo (take (i + 1) all) old next
      element_passed all i x inner old now next lt at h p l =
          let long : length (take i all) ≡ i = length_taken i all (omega (arith, lt)) in
          let here : 0 + length (take i all) ≡ i = omega (arith, long) in
          let same : own_element_places def free inner x ≡ own_element_places def free (below path (0 + length (take i all))) x =
          ap (λ q. own_element_places def free q x) p ∙ ap (λ m. own_element_places def free (below path m) x) (sym here) in
          subst (λ ps. Lists kept ps old next)
          (sym (ap (elements_places def free path 0) (take_item all i x lt at) ∙ elements_push free path 0 (take i all) x))
          (lists_both kept (elements_places def free path 0 (take i all))
          (own_element_places def free (below path (0 + length (take i all))) x) old now next h
          (subst (λ ps. Lists kept ps now next) same l))

      pub elements_all : (all : List Fragment) (i : ℕ) (old new : Listing) → length all ≤ i
          → ElementsTo (take i all) old new → ElementsTo all old new
      elements_all all i old new le h = subst (λ es. ElementsTo es old new) (take_all i all le) h

    pub list_of_fixed : (l : ℕ) (es : List Fragment) (u : Bool) (f : Fragment) (old new : Listing)
        → may_go_on def l ≡ false → list_of l es u ≡ f → ElementsDeclaredTo es old new
        → Lists kept (declared_places def path 0 f) old new
    list_of_fixed l es u f old new e is h =
        subst (λ ps. Lists kept ps old new) (list_declared path 0 l es u e ∙ ap (declared_places def path 0) is) h

    pub list_of_free : (l : ℕ) (es : List Fragment) (u : Bool) (f : Fragment) (old : Listing)
        → may_go_on def l ≡ true → list_of l es u ≡ f → Lists kept (declared_places def path 0 f) old old
    list_of_free l es u f old e is =
        subst (λ ps. Lists kept ps old old) (free_declared path 0 l es u e ∙ ap (declared_places def path 0) is)
        (lists_none kept old)

    pub list_with_end : (free : Bool) (l : ℕ) (es : List Fragment) (u : Bool) (f : Fragment) (old now new : Listing)
        → free ≡ may_go_on def l → list_of l es u ≡ f → ElementsTo free es old now
        → Lists kept (cond (free && not u) (End path ∷ []) []) now new
        → Lists kept (content_places def path 0 f) old new
    list_with_end free l es u f old now new e is h k =
        subst (λ ps. Lists kept ps old new)
        (ap (λ b. elements_places def b path 0 es ++ cond (b && not u) (End path ∷ []) []) e
        ∙ list_content path 0 l es u ∙ ap (content_places def path 0) is)
        (lists_both kept (elements_places def free path 0 es) (cond (free && not u) (End path ∷ []) []) old now new h k)

-- a name that is a place unless it is declared
pub name_unless : (kept : List Bool) (declares : Bool) (p : Place) (old new : Listing)
    → Lists kept (cond (not declares) (p ∷ []) []) old new → Lists kept (cond declares [] (p ∷ [])) old new
name_unless kept true p old new h = h
name_unless kept false p old new h = h
