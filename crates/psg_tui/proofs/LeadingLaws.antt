-- The paths of what is listed of a program lead to a node, or to the `...` of an unfinished list.
use Rattle.std.proofs.Common.{◌≡◌, ℕ, zero, suc, ◌+◌, ◌-◌, ◌==◌, ◌&&◌, ◌||◌, not, Bool, true, false, cond, List, [], ◌∷◌, ◌++◌}
use Rattle.std.proofs.Common.{length, Option, Some, None, is_some, slice_get, refl, ap, sym, ◌∙◌, subst, arith, append_assoc, append-nil}
use Rattle.std.specs.Prelude.{map, option_and_then}
use Rattle.std.specs.List.{AllByRecursion}
use Rattle.std.proofs.lemmas.Bool.{false≢true}
use Rattle.std.proofs.lemmas.Bool.Decides.{Decides-eqb}
use Rattle.psg_terms.proofs.Lists.{each_append, slice_get-front, slice_get-end}
use Rattle.psg_grammar.specs.declared.types.Definition.{Definition}
use Rattle.psg_grammar.specs.declared.types.Kind.{Kind}
use Rattle.psg_grammar.specs.Fragments.{Fragment, hole, ending, cell, operator, with_child, with_name, with_number}
use Rattle.psg_grammar.specs.Fragments.{with_text, anything, observed, children_of}
use Rattle.psg_grammar.specs.Legal.{IsCompletable}
use Rattle.psg_grammar.specs.Lookups.{is_declares, next_item}
use Rattle.psg_grammar.specs.Marks.{Chosen, IsMarkBy, Located, nodes_below, nodes_from, nothing, passed, path_of, taken}
use Rattle.psg_grammar.specs.Marks as marks
use Rattle.psg_grammar.specs.Paths.{IsList, Path, node_at}
use Rattle.psg_grammar.specs.WellFormed.{WellFormed}
use Rattle.psg_face.specs.Moves.{is_dots, is_end_at, is_open_list, last_step, leads, parent_of}
use Rattle.psg_face.specs.Opens.{opens, opens_from}
use Rattle.psg_places.specs.declared.place.Place.{Place}
use Rattle.psg_places.specs.declared.place.Place.TheVariants.{Node, Element, End, Name}
use Rattle.psg_places.specs.Listings.{blamed_among, is_blamed}
use Rattle.psg_places.specs.Places.{below, child_places, content_places, declared_places, element_places, has_no_placeholder}
use Rattle.psg_places.specs.Places.{is_hole, may_go_on, names_before, places_of}
use Rattle.psg_keymap.specs.declared.repair.Repair.{Repair}
use Rattle.psg_keymap.specs.Repairs.{IsRepairOf, place_path}
use Rattle.psg_unparse.specs.Listing.{IsListing}
use Rattle.psg_unparse.specs.Spans.{printed_of, span_of}
use Rattle.psg_unparse.specs.Spots.{Placed, placed_in}
use Rattle.psg_unparse.specs.declared.spans.Span.{Span}
use Rattle.psg_unparse.proofs.Listed.{IsProper, IsSpine, listing, proper}

-- ---- lists

pub each_as : {X : Type 0} (P Q : X → Type 0) → ((x : X) → P x → Q x) → (xs : List X) → AllByRecursion P xs
    → AllByRecursion Q xs
each_as P Q g [] a = tt
each_as P Q g (x ∷ xs) a = (g x a.0, each_as P Q g xs a.1)

pub each_cond : {X : Type 0} (P : X → Type 0) (test : Bool) (xs ys : List X) → AllByRecursion P xs → AllByRecursion P ys
    → AllByRecursion P (cond test xs ys)
each_cond P true xs ys a b = a
each_cond P false xs ys a b = b

pub each_map : {X Y : Type 0} (Q : Y → Type 0) (g : X → Y) (xs : List X) → AllByRecursion (λ x. Q (g x)) xs
    → AllByRecursion Q (map g xs)
each_map Q g [] a = tt
each_map Q g (x ∷ xs) a = (a.0, each_map Q g xs a.1)

pub each_by : {X : Type 0} (Q : X → Type 0) (xs : List X) → ((k : ℕ) (x : X) → slice_get xs k ≡ Some x → Q x)
    → AllByRecursion Q xs
each_by Q [] g = tt
each_by Q (x ∷ xs) g = (g zero x refl, each_by Q xs (λ k y e. g (suc k) y e))

pub each_chosen : {X : Type 0} (P Q : X → Type 0) {xs ys : List X} → Chosen P xs ys → AllByRecursion Q xs
    → AllByRecursion Q ys
each_chosen P Q nothing a = tt
each_chosen P Q (taken p c) a = (a.0, each_chosen P Q c a.1)
each_chosen P Q (passed p c) a = each_chosen P Q c a.1

pub each_blamed : (Q : Place → Type 0) (kept : List Bool) (n : ℕ) (xs : List Place) → AllByRecursion Q xs
    → AllByRecursion Q (blamed_among kept n xs)
each_blamed Q kept n [] a = tt
each_blamed Q kept n (x ∷ xs) a =
    each_append Q (cond (is_blamed kept n) (x ∷ []) []) (blamed_among kept (suc n) xs)
    (each_cond Q (is_blamed kept n) (x ∷ []) [] (a.0, tt) tt) (each_blamed Q kept (suc n) xs a.1)

-- ---- paths

or_true : (b : Bool) → (b || true) ≡ true
or_true true = refl
or_true false = refl

and_so : (a b : Bool) → a ≡ true → b ≡ true → (a && b) ≡ true
and_so true b e h = h
and_so false b e h = absurd (false≢true e)

same_number : (n : ℕ) → (n == n) ≡ true
same_number n = (Decides-eqb n n).1 refl

-- a path below a child leads from the node
pub below_leads : (f t : Fragment) (k : ℕ) (path : Path) → slice_get (children_of f) k ≡ Some t → leads t path ≡ true
    → leads f (k ∷ path) ≡ true
below_leads f t k [] e h =
    ap (λ o. is_some (option_and_then (λ x. node_at x []) o) || is_dots f (k ∷ [])) e
below_leads f t k (l ∷ path) e h =
    ap (λ o. is_some (option_and_then (λ x. node_at x (l ∷ path)) o)
    || is_end_at (option_and_then (λ x. node_at x (parent_of (l ∷ path))) o) (last_step l path)) e
    ∙ h

dots_lead : (f : Fragment) → is_open_list f ≡ true → leads f (length (children_of f) ∷ []) ≡ true
dots_lead f o =
    ap (λ b. is_some (node_at f (length (children_of f) ∷ [])) || b)
    (and_so (is_open_list f) (length (children_of f) == length (children_of f)) o (same_number (length (children_of f))))
    ∙ or_true (is_some (node_at f (length (children_of f) ∷ [])))

-- the path goes on from the base to where it leads from the node
pub record To (f : Fragment) (base q : Path) : Type 0 where
  pub rest : Path
  pub is : q ≡ base ++ rest
  pub led : leads f rest ≡ true

-- it leads from one of the children, of which the first has the number n
record Under (n : ℕ) (children : List Fragment) (base q : Path) : Type 0 where
  child : ℕ
  number : ℕ
  sum : number ≡ n + child
  rest : Path
  tree : Fragment
  is : q ≡ base ++ number ∷ rest
  got : slice_get children child ≡ Some tree
  led : leads tree rest ≡ true

-- a path that is listed of a node at the base whose first child has the number n
data Part (n : ℕ) (f : Fragment) (base q : Path) : Type 0 where
  at_top : q ≡ base → Part n f base q
  in_child : Under n (children_of f) base q → Part n f base q
  at_dots : q ≡ base ++ (n + length (children_of f)) ∷ [] → is_open_list f ≡ true → Part n f base q

pub to_leads : (f : Fragment) (q : Path) → To f [] q → leads f q ≡ true
to_leads f q t = ap (leads f) t.is ∙ t.led

to_top : (f : Fragment) (base : Path) → To f base base
to_top f base = record { rest = []; is = sym (append-nil base); led = refl }

to_of : (f : Fragment) (base q : Path) → Part 0 f base q → To f base q
to_of f base q (at_top e) = record { rest = []; is = e ∙ sym (append-nil base); led = refl }
to_of f base q (in_child u) =
    let z : u.number ≡ u.child = omega (arith, u.sum) in record {
      rest = u.number ∷ u.rest;
      is = u.is;
      led = below_leads f u.tree u.number u.rest (ap (slice_get (children_of f)) z ∙ u.got) u.led;
    }
to_of f base q (at_dots e o) =
    let z : 0 + length (children_of f) ≡ length (children_of f) = omega arith in record {
      rest = length (children_of f) ∷ [];
      is = e ∙ ap (λ k. base ++ k ∷ []) z;
      led = dots_lead f o;
    }

lift : (n number child : ℕ) (t : Fragment) (children : List Fragment) (base q : Path) → number ≡ n + child
    → slice_get children child ≡ Some t → To t (base ++ number ∷ []) q → Under n children base q
lift n number child t children base q s g a = record {
  child = child;
  number = number;
  sum = s;
  rest = a.rest;
  tree = t;
  is = a.is ∙ append_assoc base (number ∷ []) a.rest;
  got = g;
  led = a.led;
}

-- ---- parts of a node

closed : (f : Fragment) → IsSpine f → is_open_list f ≡ true → ⊥
closed (operator o) s e = false≢true e
closed (with_child f t) s e = false≢true e
closed (with_name f x) s e = false≢true e
closed (with_number f x) s e = false≢true e
closed (with_text f x) s e = false≢true e
closed (hole p) s e = s
closed (ending l u) s e = s
closed (cell l e r) s h = s
closed anything s e = s
closed (observed f) s e = s

-- the parts of an operator are counted from 0
abbrev Counts : ℕ → Fragment → Type 0
Counts n f = IsSpine f → n ≡ 0

no_spine : (r : Fragment) (n : ℕ) → IsList r → Counts n r
no_spine (ending l u) n h s = absurd s
no_spine (cell l e r) n h s = absurd s
no_spine (hole p) n h s = absurd h
no_spine (operator o) n h s = absurd h
no_spine (with_child f t) n h s = absurd h
no_spine (with_name f x) n h s = absurd h
no_spine (with_number f x) n h s = absurd h
no_spine (with_text f x) n h s = absurd h
no_spine anything n h s = absurd h
no_spine (observed f) n h s = absurd h

first_part : (n l : ℕ) (e r : Fragment) (base q : Path) → To e (base ++ n ∷ []) q → Part n (cell l e r) base q
first_part n l e r base q a =
    let z : n ≡ n + 0 = omega arith in in_child (lift n n 0 e (e ∷ children_of r) base q z refl a)

cell_part : (n m l : ℕ) (e r : Fragment) (base q : Path) → m ≡ n + 1 → Part m r base q → Part n (cell l e r) base q
cell_part n m l e r base q s (at_top h) = at_top h
cell_part n m l e r base q s (in_child u) = in_child (record {
  child = suc u.child;
  number = u.number;
  sum = (let z : u.number ≡ n + suc u.child = omega (arith, u.sum, s) in z);
  rest = u.rest;
  tree = u.tree;
  is = u.is;
  got = u.got;
  led = u.led;
})
cell_part n m l e r base q s (at_dots h o) =
    let z : m + length (children_of r) ≡ n + suc (length (children_of r)) = omega (arith, s) in
    at_dots (h ∙ ap (λ k. base ++ k ∷ []) z) o

front_part : (n : ℕ) (f t : Fragment) (base q : Path) → IsSpine f → Part n f base q → Part n (with_child f t) base q
front_part n f t base q s (at_top h) = at_top h
front_part n f t base q s (in_child u) = in_child (record {
  child = u.child;
  number = u.number;
  sum = u.sum;
  rest = u.rest;
  tree = u.tree;
  is = u.is;
  got = slice_get-front (children_of f) (t ∷ []) u.child u.tree u.got;
  led = u.led;
})
front_part n f t base q s (at_dots h o) = absurd (closed f s o)

last_part : (n : ℕ) (f t : Fragment) (base q : Path) → n ≡ 0 → To t (base ++ length (children_of f) ∷ []) q
    → Part n (with_child f t) base q
last_part n f t base q s a =
    let z : length (children_of f) ≡ n + length (children_of f) = omega (arith, s) in
    in_child (lift n (length (children_of f)) (length (children_of f)) t (children_of f ++ t ∷ []) base q z
    (slice_get-end (children_of f) t) a)

-- one with the same children
leaf_part : (n : ℕ) (f g : Fragment) (base q : Path) → children_of g ≡ children_of f → IsSpine f → Part n f base q
    → Part n g base q
leaf_part n f g base q same s (at_top h) = at_top h
leaf_part n f g base q same s (in_child u) = in_child (record {
  child = u.child;
  number = u.number;
  sum = u.sum;
  rest = u.rest;
  tree = u.tree;
  is = u.is;
  got = ap (λ c. slice_get c u.child) same ∙ u.got;
  led = u.led;
})
leaf_part n f g base q same s (at_dots h o) = absurd (closed f s o)

-- ---- open places

open_end : (base : Path) (n l : ℕ) (u : Bool)
    → AllByRecursion (Part n (ending l u) base) (cond u ((base ++ n ∷ []) ∷ []) [])
open_end base n l true =
    let z : n ≡ n + 0 = omega arith in (at_dots (ap (λ k. base ++ k ∷ []) z) refl, tt)
open_end base n l false = tt

opens_all : (base : Path) (n : ℕ) (f : Fragment) → IsProper f → Counts n f
    → AllByRecursion (Part n f base) (opens_from base n f)
opens_all base n (hole p) h c = (at_top refl, tt)
opens_all base n (ending l u) h c = open_end base n l u
opens_all base n (cell l e r) h c =
    let z : suc n ≡ n + 1 = omega arith in
    each_append (Part n (cell l e r) base) (opens_from (base ++ n ∷ []) 0 e) (opens_from base (suc n) r)
    (each_as (Part 0 e (base ++ n ∷ [])) (Part n (cell l e r) base)
    (λ q a. first_part n l e r base q (to_of e (base ++ n ∷ []) q a)) (opens_from (base ++ n ∷ []) 0 e)
    (opens_all (base ++ n ∷ []) 0 e h.0 (λ _. refl)))
    (each_as (Part (suc n) r base) (Part n (cell l e r) base) (λ q a. cell_part n (suc n) l e r base q z a)
    (opens_from base (suc n) r) (opens_all base (suc n) r h.1.0 (no_spine r (suc n) h.1.1)))
opens_all base n (operator o) h c = tt
opens_all base n (with_child f t) h c =
    each_append (Part n (with_child f t) base) (opens_from base n f) (opens_from (base ++ length (children_of f) ∷ []) 0 t)
    (each_as (Part n f base) (Part n (with_child f t) base) (λ q a. front_part n f t base q h.1.1 a) (opens_from base n f)
    (opens_all base n f h.0 (λ _. c tt)))
    (each_as (Part 0 t (base ++ length (children_of f) ∷ [])) (Part n (with_child f t) base)
    (λ q a. last_part n f t base q (c tt) (to_of t (base ++ length (children_of f) ∷ []) q a))
    (opens_from (base ++ length (children_of f) ∷ []) 0 t)
    (opens_all (base ++ length (children_of f) ∷ []) 0 t h.1.0 (λ _. refl)))
opens_all base n (with_name f x) h c =
    each_as (Part n f base) (Part n (with_name f x) base) (λ q a. leaf_part n f (with_name f x) base q refl h.1 a)
    (opens_from base n f) (opens_all base n f h.0 (λ _. c tt))
opens_all base n (with_number f x) h c =
    each_as (Part n f base) (Part n (with_number f x) base) (λ q a. leaf_part n f (with_number f x) base q refl h.1 a)
    (opens_from base n f) (opens_all base n f h.0 (λ _. c tt))
opens_all base n (with_text f x) h c =
    each_as (Part n f base) (Part n (with_text f x) base) (λ q a. leaf_part n f (with_text f x) base q refl h.1 a)
    (opens_from base n f) (opens_all base n f h.0 (λ _. c tt))
opens_all base n anything h c = absurd h
opens_all base n (observed f) h c = absurd h

abbrev pub Leads : Fragment → Path → Type 0
Leads f q = leads f q ≡ true

pub opens_lead : (f : Fragment) → IsProper f → AllByRecursion (Leads f) (opens f)
opens_lead f h =
    each_as (Part 0 f []) (Leads f) (λ q a. to_leads f q (to_of f [] q a)) (opens f) (opens_all [] 0 f h (λ _. refl))

-- ---- nodes

abbrev NodePart : ℕ → Fragment → Path → Located → Type 0
NodePart n f base l = Part n f base l.path

abbrev NodeTo : Fragment → Path → Located → Type 0
NodeTo f base l = To f base l.path

from_top : (path : Path) (f : Fragment) → record { path = path; node = f } ∷ nodes_below path 0 f ≡ nodes_from path f
from_top path (hole p) = refl
from_top path (ending l u) = refl
from_top path (cell l e r) = refl
from_top path (operator o) = refl
from_top path (with_child f t) = refl
from_top path (with_name f n) = refl
from_top path (with_number f n) = refl
from_top path (with_text f n) = refl
from_top path anything = refl
from_top path (observed f) = refl

nodes_to : (base : Path) (f : Fragment) → AllByRecursion (NodePart 0 f base) (nodes_below base 0 f)
    → AllByRecursion (NodeTo f base) (nodes_from base f)
nodes_to base f all =
    subst (AllByRecursion (NodeTo f base)) (from_top base f)
    (to_top f base, each_as (NodePart 0 f base) (NodeTo f base) (λ l a. to_of f base l.path a) (nodes_below base 0 f) all)

nodes_all : (base : Path) (n : ℕ) (f : Fragment) → IsProper f → Counts n f
    → AllByRecursion (NodePart n f base) (nodes_below base n f)
nodes_all base n (hole p) h c = tt
nodes_all base n (ending l u) h c = tt
nodes_all base n (cell l e r) h c =
    each_append (NodePart n (cell l e r) base) (nodes_from (base ++ n ∷ []) e) (nodes_below base (n + 1) r)
    (each_as (NodeTo e (base ++ n ∷ [])) (NodePart n (cell l e r) base) (λ k a. first_part n l e r base k.path a)
    (nodes_from (base ++ n ∷ []) e) (nodes_to (base ++ n ∷ []) e (nodes_all (base ++ n ∷ []) 0 e h.0 (λ _. refl))))
    (each_as (NodePart (n + 1) r base) (NodePart n (cell l e r) base)
    (λ k a. cell_part n (n + 1) l e r base k.path refl a) (nodes_below base (n + 1) r)
    (nodes_all base (n + 1) r h.1.0 (no_spine r (n + 1) h.1.1)))
nodes_all base n (operator o) h c = tt
nodes_all base n (with_child f t) h c =
    each_append (NodePart n (with_child f t) base) (nodes_below base n f) (nodes_from (base ++ length (children_of f) ∷ []) t)
    (each_as (NodePart n f base) (NodePart n (with_child f t) base) (λ k a. front_part n f t base k.path h.1.1 a)
    (nodes_below base n f) (nodes_all base n f h.0 (λ _. c tt)))
    (each_as (NodeTo t (base ++ length (children_of f) ∷ [])) (NodePart n (with_child f t) base)
    (λ k a. last_part n f t base k.path (c tt) a) (nodes_from (base ++ length (children_of f) ∷ []) t)
    (nodes_to (base ++ length (children_of f) ∷ []) t
    (nodes_all (base ++ length (children_of f) ∷ []) 0 t h.1.0 (λ _. refl))))
nodes_all base n (with_name f x) h c =
    each_as (NodePart n f base) (NodePart n (with_name f x) base)
    (λ k a. leaf_part n f (with_name f x) base k.path refl h.1 a) (nodes_below base n f)
    (nodes_all base n f h.0 (λ _. c tt))
nodes_all base n (with_number f x) h c =
    each_as (NodePart n f base) (NodePart n (with_number f x) base)
    (λ k a. leaf_part n f (with_number f x) base k.path refl h.1 a) (nodes_below base n f)
    (nodes_all base n f h.0 (λ _. c tt))
nodes_all base n (with_text f x) h c =
    each_as (NodePart n f base) (NodePart n (with_text f x) base)
    (λ k a. leaf_part n f (with_text f x) base k.path refl h.1 a) (nodes_below base n f)
    (nodes_all base n f h.0 (λ _. c tt))
nodes_all base n anything h c = absurd h
nodes_all base n (observed f) h c = absurd h

nodes_lead : (f : Fragment) → IsProper f → AllByRecursion (λ (l : Located). Leads f l.path) (nodes_from [] f)
nodes_lead f h =
    each_as (NodeTo f []) (λ (l : Located). Leads f l.path) (λ l a. to_leads f l.path a) (nodes_from [] f)
    (nodes_to [] f (nodes_all [] 0 f h (λ _. refl)))

pub culprits_lead : (IsGood : Fragment → Type 0) (f : Fragment) (paths : List Path) → IsProper f
    → IsMarkBy IsGood f (marks.wrong paths) → AllByRecursion (Leads f) paths
culprits_lead IsGood f paths h m =
    let found = m.1.0 in
    subst (AllByRecursion (Leads f)) (sym m.1.2)
    (each_map (Leads f) path_of found
    (each_chosen (marks.IsCulpritBy IsGood) (λ (l : Located). Leads f l.path) m.1.1 (nodes_lead f h)))

-- ---- places

module _ (def : Definition) where
  abbrev PlacePart : ℕ → Fragment → Path → Place → Type 0
  PlacePart n f base p = Part n f base (place_path p)

  abbrev PlaceTo : Fragment → Path → Place → Type 0
  PlaceTo f base p = To f base (place_path p)

  places_to : (base : Path) (f : Fragment) (ps : List Place) → AllByRecursion (PlacePart 0 f base) ps
      → AllByRecursion (PlaceTo f base) ps
  places_to base f ps a = each_as (PlacePart 0 f base) (PlaceTo f base) (λ p x. to_of f base (place_path p) x) ps a

  first_places : (n l : ℕ) (e r : Fragment) (base : Path) (ps : List Place)
      → AllByRecursion (PlaceTo e (base ++ n ∷ [])) ps → AllByRecursion (PlacePart n (cell l e r) base) ps
  first_places n l e r base ps a =
      each_as (PlaceTo e (base ++ n ∷ [])) (PlacePart n (cell l e r) base)
      (λ p x. first_part n l e r base (place_path p) x) ps a

  cell_places : (n l : ℕ) (e r : Fragment) (base : Path) (ps : List Place) → AllByRecursion (PlacePart (suc n) r base) ps
      → AllByRecursion (PlacePart n (cell l e r) base) ps
  cell_places n l e r base ps a =
      let z : suc n ≡ n + 1 = omega arith in
      each_as (PlacePart (suc n) r base) (PlacePart n (cell l e r) base)
      (λ p x. cell_part n (suc n) l e r base (place_path p) z x) ps a

  front_places : (n : ℕ) (f t : Fragment) (base : Path) (ps : List Place) → IsSpine f
      → AllByRecursion (PlacePart n f base) ps → AllByRecursion (PlacePart n (with_child f t) base) ps
  front_places n f t base ps s a =
      each_as (PlacePart n f base) (PlacePart n (with_child f t) base)
      (λ p x. front_part n f t base (place_path p) s x) ps a

  last_places : (n : ℕ) (f t : Fragment) (base : Path) (ps : List Place) → n ≡ 0
      → AllByRecursion (PlaceTo t (base ++ length (children_of f) ∷ [])) ps
      → AllByRecursion (PlacePart n (with_child f t) base) ps
  last_places n f t base ps z a =
      each_as (PlaceTo t (base ++ length (children_of f) ∷ [])) (PlacePart n (with_child f t) base)
      (λ p x. last_part n f t base (place_path p) z x) ps a

  leaf_places : (n : ℕ) (f g : Fragment) (base : Path) (ps : List Place) → children_of g ≡ children_of f → IsSpine f
      → AllByRecursion (PlacePart n f base) ps → AllByRecursion (PlacePart n g base) ps
  leaf_places n f g base ps same s a =
      each_as (PlacePart n f base) (PlacePart n g base) (λ p x. leaf_part n f g base (place_path p) same s x) ps a

  declared_all : (base : Path) (n : ℕ) (f : Fragment) → IsProper f → Counts n f
      → AllByRecursion (PlacePart n f base) (declared_places def base n f)
  declared_all base n (hole p) h c = tt
  declared_all base n (ending l u) h c = tt
  declared_all base n (cell l e r) h c =
      each_append (PlacePart n (cell l e r) base)
      (cond (may_go_on def l) [] (cond (has_no_placeholder def e) (declared_places def (below base n) 0 e) []))
      (declared_places def base (suc n) r)
      (each_cond (PlacePart n (cell l e r) base) (may_go_on def l) []
      (cond (has_no_placeholder def e) (declared_places def (below base n) 0 e) []) tt
      (each_cond (PlacePart n (cell l e r) base) (has_no_placeholder def e) (declared_places def (below base n) 0 e) []
      (first_places n l e r base (declared_places def (below base n) 0 e)
      (places_to (below base n) e (declared_places def (below base n) 0 e)
      (declared_all (below base n) 0 e h.0 (λ _. refl)))) tt))
      (cell_places n l e r base (declared_places def base (suc n) r)
      (declared_all base (suc n) r h.1.0 (no_spine r (suc n) h.1.1)))
  declared_all base n (operator o) h c = tt
  declared_all base n (with_child f t) h c =
      each_append (PlacePart n (with_child f t) base) (declared_places def base n f)
      (cond (has_no_placeholder def t) (declared_places def (below base (length (children_of f))) 0 t) [])
      (front_places n f t base (declared_places def base n f) h.1.1 (declared_all base n f h.0 (λ _. c tt)))
      (each_cond (PlacePart n (with_child f t) base) (has_no_placeholder def t)
      (declared_places def (below base (length (children_of f))) 0 t) []
      (last_places n f t base (declared_places def (below base (length (children_of f))) 0 t) (c tt)
      (places_to (below base (length (children_of f))) t (declared_places def (below base (length (children_of f))) 0 t)
      (declared_all (below base (length (children_of f))) 0 t h.1.0 (λ _. refl)))) tt)
  declared_all base n (with_name f x) h c =
      each_append (PlacePart n (with_name f x) base) (declared_places def base n f)
      (cond (is_declares (next_item def f)) (Name base (names_before f) ∷ []) [])
      (leaf_places n f (with_name f x) base (declared_places def base n f) refl h.1 (declared_all base n f h.0 (λ _. c tt)))
      (each_cond (PlacePart n (with_name f x) base) (is_declares (next_item def f)) (Name base (names_before f) ∷ []) []
      (at_top refl, tt) tt)
  declared_all base n (with_number f x) h c =
      leaf_places n f (with_number f x) base (declared_places def base n f) refl h.1 (declared_all base n f h.0 (λ _. c tt))
  declared_all base n (with_text f x) h c =
      leaf_places n f (with_text f x) base (declared_places def base n f) refl h.1 (declared_all base n f h.0 (λ _. c tt))
  declared_all base n anything h c = absurd h
  declared_all base n (observed f) h c = absurd h

  declared_to : (base : Path) (t : Fragment) → IsProper t → AllByRecursion (PlaceTo t base) (declared_places def base 0 t)
  declared_to base t h = places_to base t (declared_places def base 0 t) (declared_all base 0 t h (λ _. refl))

  child_all : (base : Path) (t : Fragment) (contents : List Place) → IsProper t
      → AllByRecursion (PlaceTo t base) contents → AllByRecursion (PlaceTo t base) (child_places def base t contents)
  child_all base t contents h a =
      each_cond (PlaceTo t base) (has_no_placeholder def t) contents
      (cond (is_hole t) [] (Node base ∷ (declared_places def base 0 t ++ contents))) a
      (each_cond (PlaceTo t base) (is_hole t) [] (Node base ∷ (declared_places def base 0 t ++ contents)) tt
      (to_top t base, each_append (PlaceTo t base) (declared_places def base 0 t) contents (declared_to base t h) a))

  element_all : (l : ℕ) (base : Path) (e : Fragment) (contents : List Place) → IsProper e
      → AllByRecursion (PlaceTo e base) contents → AllByRecursion (PlaceTo e base) (element_places def l base e contents)
  element_all l base e contents h a =
      each_cond (PlaceTo e base) (may_go_on def l)
      (Element base ∷ cond (has_no_placeholder def e) (declared_places def base 0 e ++ contents) (child_places def base e contents))
      (child_places def base e contents) (
        to_top e base,
        each_cond (PlaceTo e base) (has_no_placeholder def e) (declared_places def base 0 e ++ contents)
            (child_places def base e contents)
            (each_append (PlaceTo e base) (declared_places def base 0 e) contents (declared_to base e h) a)
            (child_all base e contents h a),
      )
      (child_all base e contents h a)

  content_all : (base : Path) (n : ℕ) (f : Fragment) → IsProper f → Counts n f
      → AllByRecursion (PlacePart n f base) (content_places def base n f)
  content_all base n (hole p) h c = tt
  content_all base n (ending l u) h c =
      each_cond (PlacePart n (ending l u) base) (may_go_on def l && not u) (End base ∷ []) [] (at_top refl, tt) tt
  content_all base n (cell l e r) h c =
      each_append (PlacePart n (cell l e r) base)
      (element_places def l (below base n) e (content_places def (below base n) 0 e)) (content_places def base (suc n) r)
      (first_places n l e r base (element_places def l (below base n) e (content_places def (below base n) 0 e))
      (element_all l (below base n) e (content_places def (below base n) 0 e) h.0
      (places_to (below base n) e (content_places def (below base n) 0 e)
      (content_all (below base n) 0 e h.0 (λ _. refl)))))
      (cell_places n l e r base (content_places def base (suc n) r)
      (content_all base (suc n) r h.1.0 (no_spine r (suc n) h.1.1)))
  content_all base n (operator o) h c = tt
  content_all base n (with_child f t) h c =
      each_append (PlacePart n (with_child f t) base) (content_places def base n f)
      (child_places def (below base (length (children_of f))) t (content_places def (below base (length (children_of f))) 0 t))
      (front_places n f t base (content_places def base n f) h.1.1 (content_all base n f h.0 (λ _. c tt)))
      (last_places n f t base
      (child_places def (below base (length (children_of f))) t (content_places def (below base (length (children_of f))) 0 t))
      (c tt)
      (child_all (below base (length (children_of f))) t (content_places def (below base (length (children_of f))) 0 t) h.1.0
      (places_to (below base (length (children_of f))) t (content_places def (below base (length (children_of f))) 0 t)
      (content_all (below base (length (children_of f))) 0 t h.1.0 (λ _. refl)))))
  content_all base n (with_name f x) h c =
      each_append (PlacePart n (with_name f x) base) (content_places def base n f)
      (cond (is_declares (next_item def f)) [] (Name base (names_before f) ∷ []))
      (leaf_places n f (with_name f x) base (content_places def base n f) refl h.1 (content_all base n f h.0 (λ _. c tt)))
      (each_cond (PlacePart n (with_name f x) base) (is_declares (next_item def f)) [] (Name base (names_before f) ∷ [])
      tt (at_top refl, tt))
  content_all base n (with_number f x) h c =
      leaf_places n f (with_number f x) base (content_places def base n f) refl h.1 (content_all base n f h.0 (λ _. c tt))
  content_all base n (with_text f x) h c =
      leaf_places n f (with_text f x) base (content_places def base n f) refl h.1 (content_all base n f h.0 (λ _. c tt))
  content_all base n anything h c = absurd h
  content_all base n (observed f) h c = absurd h

  content_to : (f : Fragment) → IsProper f → AllByRecursion (PlaceTo f []) (content_places def [] 0 f)
  content_to f h = places_to [] f (content_places def [] 0 f) (content_all [] 0 f h (λ _. refl))

  pub places_lead : (f : Fragment) → IsProper f → AllByRecursion (λ (p : Place). Leads f (place_path p)) (places_of def f)
  places_lead f h =
      each_as (PlaceTo f []) (λ (p : Place). Leads f (place_path p)) (λ p a. to_leads f (place_path p) a) (places_of def f)
      (each_cond (PlaceTo f []) (has_no_placeholder def f) (declared_places def [] 0 f ++ content_places def [] 0 f)
      (child_places def [] f (content_places def [] 0 f))
      (each_append (PlaceTo f []) (declared_places def [] 0 f) (content_places def [] 0 f) (declared_to [] f h)
      (content_to f h))
      (child_all [] f (content_places def [] 0 f) h (content_to f h)))

  pub repair_leads : (f : Fragment) (r : Repair) → IsProper f → IsRepairOf def f r
      → AllByRecursion (λ (p : Place). Leads f (place_path p)) r.places.items
  repair_leads f r h is =
      subst (AllByRecursion (λ (p : Place). Leads f (place_path p))) (sym is.repaired.places)
      (each_blamed (λ (p : Place). Leads f (place_path p)) is.found.kept 0 (places_of def f) (places_lead f h))

  -- ---- spans

  pub spans_lead : (f : Fragment) (kind : Kind) → WellFormed def f kind
      → AllByRecursion (λ (s : Span). Leads f s.path) (printed_of def f).spans
  spans_lead f kind h =
      each_map (λ (s : Span). Leads f s.path) (span_of def) (placed_in def f)
      (each_by (λ (p : Placed). Leads f p.spot.path) (placed_in def f) (λ k p e.
      ap (λ o. is_some o || is_dots f p.spot.path) ((listing def f kind h).nodes p.spot.path p (k, e, refl))))

pub proper_by : (def : Definition) (f : Fragment) (kind : Kind) → WellFormed def f kind → IsProper f
proper_by def f kind h = proper def f [] kind h.0 h.1
