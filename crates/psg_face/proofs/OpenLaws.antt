-- The open places that are passed, step by step.
use Rattle.std.proofs.Common.{◌≡◌, ℕ, suc, ◌+◌, ◌<◌, ◌≤◌, Bool, cond, List, [], ◌∷◌, ◌++◌, length, take, drop, get_or}
use Rattle.std.proofs.Common.{Option, Some, None, true, false, refl, ap, ap₂, sym, ◌∙◌, arith, append_assoc, append-nil, length-append}
use Rattle.std.proofs.lemmas.List.{take_all, drop_all, length-take-le}
use Rattle.psg_terms.proofs.Lists.{take_item, drop_item}
use Rattle.psg_grammar.specs.Fragments.{Fragment, operator, children_of}
use Rattle.psg_grammar.specs.Paths.{Path}
use Rattle.psg_tree.specs.declared.tree.Part.{Part}
use Rattle.psg_tree.specs.declared.tree.Part.TheVariants.{Sub, Name, Number, Text}
use Rattle.psg_tree.specs.declared.tree.Shape.{Shape}
use Rattle.psg_tree.specs.declared.tree.Shape.TheVariants.{Op, List as ListOf, Hole}
use Rattle.psg_tree.specs.Shapes.{list_of, tree_of, with_part, with_parts}
use Rattle.psg_tree.proofs.Texts.{with_parts-push}
use Rattle.psg_face.specs.Opens.{opens_from, part_opens, elements_opens, children_in, first_with, last_with, first_of}

-- what is added twice
pub added : (old mid new xs ys : List Path) → mid ≡ old ++ xs → new ≡ mid ++ ys → new ≡ old ++ (xs ++ ys)
added old mid new xs ys e f = f ∙ ap (λ ps. ps ++ ys) e ∙ append_assoc old xs ys

-- the same places, said in another way
pub added_same : (old new xs ys : List Path) → xs ≡ ys → new ≡ old ++ xs → new ≡ old ++ ys
added_same old new xs ys e h = h ∙ ap (λ ps. old ++ ps) e

pub added_none : (old : List Path) → old ≡ old ++ []
added_none old = sym (append-nil old)

-- ---- parts

opens_with : (path : Path) (f : Fragment) (p : Part)
    → opens_from path 0 (with_part f p) ≡ opens_from path 0 f ++ part_opens path (length (children_of f)) p
opens_with path f (Sub t) = refl
opens_with path f (Name x) = sym (append-nil (opens_from path 0 f))
opens_with path f (Number x) = sym (append-nil (opens_from path 0 f))
opens_with path f (Text x) = sym (append-nil (opens_from path 0 f))

children_with : (f : Fragment) (p : Part) → length (children_of (with_part f p)) ≡ length (children_of f) + children_in p
children_with f (Sub t) = length-append (children_of f) (t ∷ [])
children_with f (Name x) = omega arith
children_with f (Number x) = omega arith
children_with f (Text x) = omega arith

-- the parts that were passed: how many children they have, and their places
pub record PartsTo (path : Path) (op : ℕ) (done : List Part) (children : ℕ) (old new : List Path) : Type 0 where
  pub count : children ≡ length (children_of (with_parts (operator op) done))
  pub places : new ≡ old ++ opens_from path 0 (with_parts (operator op) done)

pub no_parts : (path : Path) (op : ℕ) (old : List Path) → PartsTo path op [] 0 old old
no_parts path op old = record { count = refl; places = added_none old }

pub part_passed : (path : Path) (op : ℕ) (all : List Part) (i : ℕ) (x : Part) (children own more : ℕ) (old now next : List Path)
    → i < length all → x ≡ get_or all i x → PartsTo path op (take i all) children old now
    → next ≡ now ++ part_opens path children x → own ≡ children_in x → more ≡ children + own
    → PartsTo path op (take (i + 1) all) more old next
part_passed path op all i x children own more old now next lt at h p oc mc =
    let F = with_parts (operator op) (take i all) in
    let grown : with_part F x ≡ with_parts (operator op) (take (i + 1) all) =
    sym (ap (with_parts (operator op)) (take_item all i x lt at) ∙ with_parts-push (operator op) (take i all) x) in
    record {
      count = mc ∙ ap₂ (λ a b. a + b) h.count oc ∙ sym (children_with F x) ∙ ap (λ f. length (children_of f)) grown;
      places =
          added old now next (opens_from path 0 F) (part_opens path children x) h.places p
          ∙ ap (λ c. old ++ (opens_from path 0 F ++ part_opens path c x)) h.count
          ∙ ap (λ ps. old ++ ps) (sym (opens_with path F x) ∙ ap (opens_from path 0) grown);
    }

pub all_parts : (path : Path) (op : ℕ) (all : List Part) (i children : ℕ) (old new : List Path) → length all ≤ i
    → PartsTo path op (take i all) children old new → new ≡ old ++ opens_from path 0 (with_parts (operator op) all)
all_parts path op all i children old new le h =
    h.places ∙ ap (λ ps. old ++ opens_from path 0 (with_parts (operator op) ps)) (take_all i all le)

-- ---- elements

elements_push : (path : Path) (k : ℕ) (xs : List Fragment) (x : Fragment) → elements_opens path k (xs ++ x ∷ [])
    ≡ elements_opens path k xs ++ opens_from (path ++ (k + length xs) ∷ []) 0 x
elements_push path k [] x =
    let z : k ≡ k + 0 = omega arith in
    append-nil (opens_from (path ++ k ∷ []) 0 x) ∙ ap (λ m. opens_from (path ++ m ∷ []) 0 x) z
elements_push path k (e ∷ xs) x =
    let z : suc k + length xs ≡ k + length (e ∷ xs) = omega arith in
    ap (λ ps. opens_from (path ++ k ∷ []) 0 e ++ ps) (elements_push path (suc k) xs x
    ∙ ap (λ m. elements_opens path (suc k) xs ++ opens_from (path ++ m ∷ []) 0 x) z)
    ∙ sym (append_assoc (opens_from (path ++ k ∷ []) 0 e) (elements_opens path (suc k) xs)
    (opens_from (path ++ (k + length (e ∷ xs)) ∷ []) 0 x))

pub element_passed : (path : Path) (all : List Fragment) (i : ℕ) (x : Fragment) (inner : Path) (old now next : List Path)
    → i < length all → x ≡ get_or all i x → now ≡ old ++ elements_opens path 0 (take i all) → inner ≡ path ++ i ∷ []
    → next ≡ now ++ opens_from inner 0 x → next ≡ old ++ elements_opens path 0 (take (i + 1) all)
element_passed path all i x inner old now next lt at h p l =
    let long : length (take i all) ≡ i = length-take-le i all (omega (arith, lt)) in
    let here : i ≡ 0 + length (take i all) = omega (arith, long) in
    added old now next (elements_opens path 0 (take i all)) (opens_from inner 0 x) h l
    ∙ ap (λ q. old ++ (elements_opens path 0 (take i all) ++ opens_from q 0 x)) p
    ∙ ap (λ m. old ++ (elements_opens path 0 (take i all) ++ opens_from (path ++ m ∷ []) 0 x)) here
    ∙ ap (λ ps. old ++ ps) (sym (elements_push path 0 (take i all) x)
    ∙ ap (elements_opens path 0) (sym (take_item all i x lt at)))

pub all_elements : (path : Path) (all : List Fragment) (i : ℕ) (old new : List Path) → length all ≤ i
    → new ≡ old ++ elements_opens path 0 (take i all) → new ≡ old ++ elements_opens path 0 all
all_elements path all i old new le h = h ∙ ap (λ es. old ++ elements_opens path 0 es) (take_all i all le)

-- ---- lists

list_opens : (path : Path) (k l : ℕ) (es : List Fragment) (u : Bool)
    → elements_opens path k es ++ cond u ((path ++ (k + length es) ∷ []) ∷ []) [] ≡ opens_from path k (list_of l es u)
list_opens path k l [] u = let z : k + 0 ≡ k = omega arith in ap (λ m. cond u ((path ++ m ∷ []) ∷ []) []) z
list_opens path k l (e ∷ es) u =
    let z : k + length (e ∷ es) ≡ suc k + length es = omega arith in
    append_assoc (opens_from (path ++ k ∷ []) 0 e) (elements_opens path (suc k) es)
    (cond u ((path ++ (k + length (e ∷ es)) ∷ []) ∷ []) [])
    ∙ ap (λ ps. opens_from (path ++ k ∷ []) 0 e ++ ps)
    (ap (λ m. elements_opens path (suc k) es ++ cond u ((path ++ m ∷ []) ∷ []) []) z ∙ list_opens path (suc k) l es u)

pub list_passed : (path : Path) (s : Shape) (l : ℕ) (es : List Fragment) (u : Bool) (f : Fragment) (count : ℕ) (old now new : List Path)
    → s ≡ ListOf l es u → tree_of s ≡ f → count ≡ length es → now ≡ old ++ elements_opens path 0 es
    → new ≡ now ++ cond u ((path ++ count ∷ []) ∷ []) [] → new ≡ old ++ opens_from path 0 f
list_passed path s l es u f count old now new is e c h k =
    let z : length es ≡ 0 + length es = omega arith in
    added old now new (elements_opens path 0 es) (cond u ((path ++ count ∷ []) ∷ []) []) h k
    ∙ ap (λ m. old ++ (elements_opens path 0 es ++ cond u ((path ++ m ∷ []) ∷ []) [])) (c ∙ z)
    ∙ ap (λ ps. old ++ ps) (list_opens path 0 l es u ∙ ap (opens_from path 0) (ap tree_of (sym is) ∙ e))

pub op_passed : (path : Path) (s : Shape) (o : ℕ) (ps : List Part) (f : Fragment) (old new : List Path) → s ≡ Op o ps
    → tree_of s ≡ f → new ≡ old ++ opens_from path 0 (with_parts (operator o) ps) → new ≡ old ++ opens_from path 0 f
op_passed path s o ps f old new is e h = h ∙ ap (λ t. old ++ opens_from path 0 t) (ap tree_of (sym is) ∙ e)

pub hole_passed : (path : Path) (s : Shape) (p : ℕ) (f : Fragment) (old new : List Path) → s ≡ Hole p → tree_of s ≡ f
    → new ≡ old ++ path ∷ [] → new ≡ old ++ opens_from path 0 f
hole_passed path s p f old new is e h = h ∙ ap (λ t. old ++ opens_from path 0 t) (ap tree_of (sym is) ∙ e)

-- ---- searches

pub none_passed : (test : Path → Bool) (all : List Path) (i : ℕ) (x : Path) (r : Bool) → i < length all → x ≡ get_or all i x
    → r ≡ test x → r ≡ false → first_with test all ≡ first_with test (drop i all)
    → first_with test all ≡ first_with test (drop (i + 1) all)
none_passed test all i x r lt at e f h =
    h ∙ ap (first_with test) (drop_item all i x lt at)
    ∙ ap (λ b. cond b (Some x) (first_with test (drop (i + 1) all))) (sym e ∙ f)

pub one_found : (test : Path → Bool) (all : List Path) (i : ℕ) (x : Path) (r : Bool) → i < length all → x ≡ get_or all i x
    → r ≡ test x → r ≡ true → first_with test all ≡ first_with test (drop i all) → Some x ≡ first_with test all
one_found test all i x r lt at e t h =
    sym (h ∙ ap (first_with test) (drop_item all i x lt at)
    ∙ ap (λ b. cond b (Some x) (first_with test (drop (i + 1) all))) (sym e ∙ t))

pub none_found : (test : Path → Bool) (all : List Path) (i : ℕ) → length all ≤ i
    → first_with test all ≡ first_with test (drop i all) → None ≡ first_with test all
none_found test all i le h = sym (h ∙ ap (first_with test) (drop_all i all le))

pub last_passed : (test : Path → Bool) (all : List Path) (i : ℕ) (x : Path) (r : Bool) (last next : Option Path)
    → i < length all → x ≡ get_or all i x → r ≡ test x → next ≡ cond r (Some x) last
    → last_with test None all ≡ last_with test last (drop i all)
    → last_with test None all ≡ last_with test next (drop (i + 1) all)
last_passed test all i x r last next lt at e n h =
    h ∙ ap (last_with test last) (drop_item all i x lt at)
    ∙ ap (λ l. last_with test l (drop (i + 1) all)) (ap (λ b. cond b (Some x) last) (sym e) ∙ sym n)

pub last_found : (test : Path → Bool) (all : List Path) (i : ℕ) (last : Option Path) → length all ≤ i
    → last_with test None all ≡ last_with test last (drop i all) → last ≡ last_with test None all
last_found test all i last le h = sym (h ∙ ap (last_with test last) (drop_all i all le))

-- where Tab leads
pub tab_is : (near close far other : Option Path) (path next led : Path) → near ≡ close → far ≡ other
    → next ≡ first_of near far path → led ≡ next → led ≡ first_of close other path
tab_is near close far other path next led n f e l = l ∙ e ∙ ap₂ (λ a b. first_of a b path) n f
