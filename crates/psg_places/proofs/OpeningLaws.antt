-- What the walks over parts and elements make, step by step.
use Rattle.std.proofs.Common.{◌≡◌, ℕ, zero, suc, ◌+◌, ◌<◌, ◌≤◌, ◌||◌, ◌&&◌, not, Bool, true, false, cond, List, [], ◌∷◌, ◌++◌, length, take, drop, get_or, slice_get, refl, ap, ap₂, sym, ◌∙◌, arith, true≢false}
use Rattle.std.specs.Prelude.{option_and_then}
use Rattle.std.proofs.lemmas.List.{drop_all}
use Rattle.psg_terms.proofs.Lists.{take_item, drop_item}
use Rattle.psg_grammar.specs.declared.types.Definition.{Definition}
use Rattle.psg_grammar.specs.Fragments.{Fragment, ending, cell, operator, parts_count, top_operator}
use Rattle.psg_grammar.specs.Lookups.{is_declares, items_of, next_item, operator_at}
use Rattle.psg_tree.specs.declared.tree.Part.{Part}
use Rattle.psg_tree.specs.declared.tree.Part.TheVariants.{Sub, Name, Number, Text}
use Rattle.psg_tree.specs.declared.tree.Shape.{Shape}
use Rattle.psg_tree.specs.declared.tree.Shape.TheVariants.{Op, List as ListOf}
use Rattle.psg_tree.specs.Shapes.{list_of, tree_of, with_part, with_parts}
use Rattle.psg_places.specs.declared.opening.Keeping.{Keeping}
use Rattle.psg_places.specs.declared.opening.Opened.{Opened}
use Rattle.psg_places.specs.declared.opening.OpenedPart.{OpenedPart}
use Rattle.psg_places.specs.Places.{declared_count, declares_by, content_count, has_no_placeholder, is_hole, is_list, may_go_on, operator_of, phylum_in, phylum_of}
use Rattle.psg_places.specs.Openings.{cells, child_at, contents_at, element_at, elements_declared, elements_size, fixed_declared, free_at, keep, part_at}
use Rattle.psg_places.specs.Openings.{IsOpenedElement, IsOpenedMember, IsOpenedPart, OpenTo, own_size, part_declared, part_places}

-- ---- the top of a tree

pub at_op : (s : Shape) (o : ℕ) (ps : List Part) (f : Fragment) → s ≡ Op o ps → tree_of s ≡ f
    → with_parts (operator o) ps ≡ f
at_op s o ps f is e = ap tree_of (sym is) ∙ e

pub at_list : (s : Shape) (l : ℕ) (es : List Fragment) (u : Bool) (f : Fragment) → s ≡ ListOf l es u → tree_of s ≡ f
    → list_of l es u ≡ f
at_list s l es u f is e = ap tree_of (sym is) ∙ e

no_list : (f : Fragment) (ps : List Part) → is_list f ≡ false → is_list (with_parts f ps) ≡ false
no_list f [] e = e
no_list f (Sub t ∷ ps) e = no_list (with_part f (Sub t)) ps refl
no_list f (Name x ∷ ps) e = no_list (with_part f (Name x)) ps refl
no_list f (Number x ∷ ps) e = no_list (with_part f (Number x)) ps refl
no_list f (Text x ∷ ps) e = no_list (with_part f (Text x)) ps refl

no_hole : (f : Fragment) (ps : List Part) → is_hole f ≡ false → is_hole (with_parts f ps) ≡ false
no_hole f [] e = e
no_hole f (Sub t ∷ ps) e = no_hole (with_part f (Sub t)) ps refl
no_hole f (Name x ∷ ps) e = no_hole (with_part f (Name x)) ps refl
no_hole f (Number x ∷ ps) e = no_hole (with_part f (Number x)) ps refl
no_hole f (Text x ∷ ps) e = no_hole (with_part f (Text x)) ps refl

pub op_is_no_hole : (o : ℕ) (ps : List Part) → false ≡ is_hole (with_parts (operator o) ps)
op_is_no_hole o ps = sym (no_hole (operator o) ps refl)

pub list_is_no_hole : (l : ℕ) (es : List Fragment) (u : Bool) → false ≡ is_hole (list_of l es u)
list_is_no_hole l [] u = refl
list_is_no_hole l (e ∷ es) u = refl

-- ---- parts

pub parts_push : (f : Fragment) (xs : List Part) (y : Part)
    → with_parts f (xs ++ y ∷ []) ≡ with_part (with_parts f xs) y
parts_push f [] y = refl
parts_push f (x ∷ xs) y = parts_push (with_part f x) xs y

top_part : (f : Fragment) (p : Part) → top_operator (with_part f p) ≡ top_operator f
top_part f (Sub t) = refl
top_part f (Name x) = refl
top_part f (Number x) = refl
top_part f (Text x) = refl

count_part : (f : Fragment) (p : Part) → parts_count (with_part f p) ≡ parts_count f + 1
count_part f (Sub t) = refl
count_part f (Name x) = refl
count_part f (Number x) = refl
count_part f (Text x) = refl

top_parts : (f : Fragment) (ps : List Part) → top_operator (with_parts f ps) ≡ top_operator f
top_parts f [] = refl
top_parts f (p ∷ ps) = top_parts (with_part f p) ps ∙ top_part f p

count_parts : (f : Fragment) (ps : List Part) → parts_count (with_parts f ps) ≡ parts_count f + length ps
count_parts f [] = omega arith
count_parts f (p ∷ ps) = omega (arith, count_parts (with_part f p) ps, count_part f p)

pub length_taken : {X : Type 0} (i : ℕ) (xs : List X) → i ≤ length xs → length (take i xs) ≡ i
length_taken zero xs le = refl
length_taken (suc i) [] le = absurd (omega (arith, le))
length_taken (suc i) (x ∷ xs) le = ap suc (length_taken i xs (omega (arith, le)))

count_op : (o : ℕ) (ps : List Part) → parts_count (with_parts (operator o) ps) ≡ length ps
count_op o ps = let e : parts_count (with_parts (operator o) ps) ≡ 0 + length ps = count_parts (operator o) ps in omega (arith, e)

pub next_of_parts : (def : Definition) (o : ℕ) (ps : List Part)
    → next_item def (with_parts (operator o) ps) ≡ slice_get (items_of (operator_at def o)) (length ps)
next_of_parts def o ps =
    ap₂ (λ top n. slice_get (items_of (option_and_then (operator_at def) top)) n) (top_parts (operator o) ps)
    (count_op o ps)

module _ (def : Definition) where
  top_of_parts : (o : ℕ) (ps : List Part) → operator_of def (with_parts (operator o) ps) ≡ operator_at def o
  top_of_parts o ps = ap (option_and_then (operator_at def)) (top_parts (operator o) ps)

  pub op_phylum : (o : ℕ) (ps : List Part) → phylum_in (operator_at def o) ≡ phylum_of def (with_parts (operator o) ps)
  op_phylum o ps = sym (ap phylum_in (top_of_parts o ps))

  pub list_phylum : (l : ℕ) (es : List Fragment) (u : Bool) → 0 ≡ phylum_of def (list_of l es u)
  list_phylum l [] u = refl
  list_phylum l (e ∷ es) u = refl

  pub op_fixed : (o : ℕ) (ps : List Part) → declares_by def (operator_at def o) ≡ has_no_placeholder def (with_parts (operator o) ps)
  op_fixed o ps = sym (ap₂ (λ a b. a || declares_by def b) (no_list (operator o) ps refl) (top_of_parts o ps))

  pub list_fixed : (l : ℕ) (es : List Fragment) (u : Bool) → true ≡ has_no_placeholder def (list_of l es u)
  list_fixed l [] u = refl
  list_fixed l (e ∷ es) u = refl

  declared_with : (f : Fragment) (p : Part) → declared_count def (with_part f p)
      ≡ declared_count def f + part_declared def (is_declares (next_item def f)) p
  declared_with f (Sub t) = refl
  declared_with f (Name x) = refl
  declared_with f (Number x) = omega arith
  declared_with f (Text x) = omega arith

  content_with : (f : Fragment) (p : Part) → content_count def (with_part f p)
      ≡ content_count def f + part_places def (is_declares (next_item def f)) p
  content_with f (Sub t) = refl
  content_with f (Name x) = refl
  content_with f (Number x) = omega arith
  content_with f (Text x) = omega arith

  -- the names of parts, counted one after the other
  abbrev pub Counted : ℕ → List Part → ℕ → Type 0
  Counted o done total = total ≡ declared_count def (with_parts (operator o) done)

  pub counted_next : (o : ℕ) (all : List Part) (i : ℕ) (x : Part) (declares : Bool) (total own next : ℕ)
      → i < length all → x ≡ get_or all i x → Counted o (take i all) total
      → declares ≡ is_declares (slice_get (items_of (operator_at def o)) i) → own ≡ part_declared def declares x
      → next ≡ total + own → Counted o (take (i + 1) all) next
  counted_next o all i x declares total own next lt at so_far d e n =
      let F = with_parts (operator o) (take i all) in
      let long : length (take i all) ≡ i = length_taken i all (omega (arith, lt)) in
      let item : declares ≡ is_declares (next_item def F) =
      d ∙ sym (ap is_declares (next_of_parts def o (take i all)
      ∙ ap (slice_get (items_of (operator_at def o))) long)) in
      n ∙ ap₂ (λ a b. a + b) so_far (e ∙ ap (λ b. part_declared def b x) item) ∙ sym (declared_with F x)
      ∙ ap (declared_count def) (sym (ap (with_parts (operator o)) (take_item all i x lt at)
      ∙ parts_push (operator o) (take i all) x))

  -- the places of parts, counted one after the other
  abbrev pub Contained : ℕ → List Part → ℕ → Type 0
  Contained o done total = total ≡ content_count def (with_parts (operator o) done)

  pub contained_next : (o : ℕ) (all : List Part) (i : ℕ) (x : Part) (declares : Bool) (total own next : ℕ)
      → i < length all → x ≡ get_or all i x → Contained o (take i all) total
      → declares ≡ is_declares (slice_get (items_of (operator_at def o)) i) → own ≡ part_places def declares x
      → next ≡ total + own → Contained o (take (i + 1) all) next
  contained_next o all i x declares total own next lt at so_far d e n =
      let F = with_parts (operator o) (take i all) in
      let long : length (take i all) ≡ i = length_taken i all (omega (arith, lt)) in
      let item : declares ≡ is_declares (next_item def F) =
      d ∙ sym (ap is_declares (next_of_parts def o (take i all)
      ∙ ap (slice_get (items_of (operator_at def o))) long)) in
      n ∙ ap₂ (λ a b. a + b) so_far (e ∙ ap (λ b. part_places def b x) item) ∙ sym (content_with F x)
      ∙ ap (content_count def) (sym (ap (with_parts (operator o)) (take_item all i x lt at)
      ∙ parts_push (operator o) (take i all) x))

  pub sizes_more : (free : Bool) (all : List Fragment) (i : ℕ) (x : Fragment) (total own next : ℕ) → i < length all
      → x ≡ get_or all i x → total + elements_size def free (drop i all) ≡ elements_size def free all
      → own ≡ own_size def free x → next ≡ total + own
      → next + elements_size def free (drop (i + 1) all) ≡ elements_size def free all
  sizes_more free all i x total own next lt at so_far e n =
      let step : elements_size def free (drop i all) ≡ own_size def free x + elements_size def free (drop (i + 1) all) =
      ap (elements_size def free) (drop_item all i x lt at) in
      omega (arith, so_far, e, n, step)

  pub sizes_all : (free : Bool) (all : List Fragment) (i total : ℕ) → length all ≤ i
      → total + elements_size def free (drop i all) ≡ elements_size def free all → total ≡ elements_size def free all
  sizes_all free all i total le h =
      let none : elements_size def free (drop i all) ≡ 0 = ap (elements_size def free) (drop_all i all le) in
      omega (arith, h, none)

  list_sizes : (free : Bool) (l : ℕ) (es : List Fragment) (u : Bool) → free ≡ may_go_on def l
      → elements_size def free es + cond (free && not u) 1 0 ≡ content_count def (list_of l es u)
  list_sizes free l [] u e =
      let z : 0 + cond (free && not u) 1 0 ≡ cond (free && not u) 1 0 = omega arith in
      z ∙ ap (λ b. cond (b && not u) 1 0) e
  list_sizes free l (x ∷ es) u e =
      let more = list_sizes free l es u e in
      let own : own_size def free x ≡ own_size def (may_go_on def l) x = ap (λ b. own_size def b x) e in
      let sum : own_size def free x + elements_size def free es + cond (free && not u) 1 0
      ≡ own_size def (may_go_on def l) x + content_count def (list_of l es u) = omega (arith, more, own) in sum

  pub list_contents : (free : Bool) (l : ℕ) (es : List Fragment) (u : Bool) (own last all : ℕ) → free ≡ may_go_on def l
      → own ≡ elements_size def free es → last ≡ cond (free && not u) 1 0 → all ≡ own + last
      → all ≡ content_count def (list_of l es u)
  list_contents free l es u own last all e is la to =
      to ∙ ap₂ (λ a b. a + b) is la ∙ list_sizes free l es u e

  pub elements_more : (all : List Fragment) (i : ℕ) (x : Fragment) (total own next : ℕ) → i < length all
      → x ≡ get_or all i x → total + elements_declared def (drop i all) ≡ elements_declared def all
      → own ≡ fixed_declared def x → next ≡ total + own
      → next + elements_declared def (drop (i + 1) all) ≡ elements_declared def all
  elements_more all i x total own next lt at so_far e n =
      let step : elements_declared def (drop i all) ≡ fixed_declared def x + elements_declared def (drop (i + 1) all) =
      ap (elements_declared def) (drop_item all i x lt at) in
      omega (arith, so_far, e, n, step)

  pub elements_all : (all : List Fragment) (i total : ℕ) → length all ≤ i
      → total + elements_declared def (drop i all) ≡ elements_declared def all → total ≡ elements_declared def all
  elements_all all i total le h =
      let none : elements_declared def (drop i all) ≡ 0 = ap (elements_declared def) (drop_all i all le) in
      omega (arith, h, none)

  pub list_declared : (l : ℕ) (es : List Fragment) (u : Bool) → may_go_on def l ≡ false
      → elements_declared def es ≡ declared_count def (list_of l es u)
  list_declared l [] u e = refl
  list_declared l (x ∷ es) u e =
      ap (λ n. fixed_declared def x + n) (list_declared l es u e)
      ∙ ap (λ b. cond b 0 (fixed_declared def x) + declared_count def (list_of l es u)) (sym e)

  pub free_declared : (l : ℕ) (es : List Fragment) (u : Bool) → may_go_on def l ≡ true
      → 0 ≡ declared_count def (list_of l es u)
  free_declared l [] u e = refl
  free_declared l (x ∷ es) u e =
      let more = free_declared l es u e in
      let here : 0 ≡ cond true 0 (fixed_declared def x) + declared_count def (list_of l es u) = omega (arith, more) in
      here ∙ ap (λ b. cond b 0 (fixed_declared def x) + declared_count def (list_of l es u)) (sym e)

module _ (k : Keeping) where
  part_with : (d n : ℕ) (f : Fragment) (p : Part) → contents_at k d n (with_part f p)
      ≡ with_part (contents_at k d n f) (part_at k (is_declares (next_item k.definition.now f))
      (d + declared_count k.definition.now f) (n + content_count k.definition.now f) p)
  part_with d n f (Sub t) = refl
  part_with d n f (Name x) = refl
  part_with d n f (Number x) = refl
  part_with d n f (Text x) = refl

  -- the parts that are done
  pub record PartsTo (op d n : ℕ) (done made : List Part) (dec own : ℕ) : Type 0 where
    pub parts : with_parts (operator op) made ≡ contents_at k d n (with_parts (operator op) done)
    pub declared : dec ≡ declared_count k.definition.now (with_parts (operator op) done)
    pub others : own ≡ content_count k.definition.now (with_parts (operator op) done)

  pub parts_start : (op d n : ℕ) (made : List Part) → made ≡ [] → PartsTo op d n [] made 0 0
  parts_start op d n made e = record {
    parts = ap (with_parts (operator op)) e;
    declared = refl;
    others = refl;
  }

  pub parts_more : (op d n : ℕ) (all : List Part) (i : ℕ) (x : Part) (made longer : List Part) (dec own over next : ℕ)
      (declares : Bool) (o : OpenedPart) (more_dec more_own : ℕ) → i < length all → x ≡ get_or all i x
      → PartsTo op d n (take i all) made dec own
      → declares ≡ is_declares (slice_get (items_of (operator_at k.definition.now op)) i)
      → over ≡ d + dec → next ≡ n + own → IsOpenedPart k declares over next x o → longer ≡ made ++ o.part ∷ []
      → more_dec ≡ dec + o.declared → more_own ≡ own + o.others
      → PartsTo op d n (take (i + 1) all) longer more_dec more_own
  parts_more op d n all i x made longer dec own over next declares o more_dec more_own lt at h dc ov nx is lg md mo =
      let def = k.definition.now in
      let F = with_parts (operator op) (take i all) in
      let long : length (take i all) ≡ i = length_taken i all (omega (arith, lt)) in
      let item : declares ≡ is_declares (next_item def F) =
      dc ∙ sym (ap is_declares (next_of_parts def op (take i all)
      ∙ ap (slice_get (items_of (operator_at def op))) long)) in
      let grown : with_part F x ≡ with_parts (operator op) (take (i + 1) all) =
      sym (ap (with_parts (operator op)) (take_item all i x lt at) ∙ parts_push (operator op) (take i all) x) in
      let over_is : over ≡ d + declared_count def F = ov ∙ ap (λ m. d + m) h.declared in
      let next_is : next ≡ n + content_count def F = nx ∙ ap (λ m. n + m) h.others in
      let part_is : o.part ≡ part_at k (is_declares (next_item def F)) (d + declared_count def F) (n + content_count def F) x =
      is.part ∙ ap (λ b. part_at k b over next x) item
      ∙ ap₂ (λ a b. part_at k (is_declares (next_item def F)) a b x) over_is next_is in
      record {
        parts =
            ap (with_parts (operator op)) lg ∙ parts_push (operator op) made o.part
            ∙ ap₂ (λ f p. with_part f p) h.parts part_is ∙ sym (part_with d n F x) ∙ ap (contents_at k d n) grown;
        declared =
            md ∙ ap₂ (λ a b. a + b) h.declared (is.declared ∙ ap (λ b. part_declared def b x) item)
            ∙ sym (declared_with def F x) ∙ ap (declared_count def) grown;
        others =
            mo ∙ ap₂ (λ a b. a + b) h.others (is.others ∙ ap (λ b. part_places def b x) item)
            ∙ sym (content_with def F x) ∙ ap (content_count def) grown;
      }

-- ---- elements

pub cells_push : (l : ℕ) (xs : List Fragment) (y rest : Fragment) → cells l (xs ++ y ∷ []) rest ≡ cells l xs (cell l y rest)
cells_push l [] y rest = refl
cells_push l (x ∷ xs) y rest = ap (cell l x) (cells_push l xs y rest)

append_none : {X : Type 0} (xs : List X) → xs ++ [] ≡ xs
append_none [] = refl
append_none (x ∷ xs) = ap (λ ys. x ∷ ys) (append_none xs)

-- an element is added where it is kept
cells_kept : (l : ℕ) (xs : List Fragment) (kept : Bool) (y rest : Fragment)
    → cells l (xs ++ cond kept (y ∷ []) []) rest ≡ cells l xs (cond kept (cell l y rest) rest)
cells_kept l xs true y rest = cells_push l xs y rest
cells_kept l xs false y rest = ap (λ ys. cells l ys rest) (append_none xs)

pub cells_end : (l : ℕ) (xs : List Fragment) (u : Bool) → cells l xs (ending l u) ≡ list_of l xs u
cells_end l [] u = refl
cells_end l (x ∷ xs) u = ap (cell l x) (cells_end l xs u)

module _ (k : Keeping) where
  -- a cell, by whether its list may go on
  abbrev form : Bool → ℕ → ℕ → ℕ → Fragment → Fragment → Fragment
  form free d n l e r = cond free
      (cond (keep k n) (cell l (free_at k n e) (contents_at k d (n + own_size k.definition.now free e) r))
      (contents_at k d (n + own_size k.definition.now free e) r))
      (cell l (child_at k d n e)
      (contents_at k (d + fixed_declared k.definition.now e) (n + own_size k.definition.now free e) r))

  abbrev rest_at : Bool → ℕ → ℕ → Fragment → Fragment → Fragment
  rest_at free d n e r = contents_at k (d + cond free 0 (fixed_declared k.definition.now e))
      (n + own_size k.definition.now free e) r

  form_is : (free : Bool) (d n l : ℕ) (e r : Fragment) → form free d n l e r
      ≡ cond (not free || keep k n) (cell l (element_at k free d n e) (rest_at free d n e r)) (rest_at free d n e r)
  form_is true d n l e r =
      let z : d ≡ d + 0 = omega arith in
      ap (λ m. cond (keep k n) (cell l (free_at k n e) (contents_at k m (n + own_size k.definition.now true e) r))
      (contents_at k m (n + own_size k.definition.now true e) r)) z
  form_is false d n l e r = refl

  cell_is : (free : Bool) (d n l : ℕ) (e r : Fragment) → may_go_on k.definition.now l ≡ free
      → contents_at k d n (cell l e r)
      ≡ cond (not free || keep k n) (cell l (element_at k free d n e) (rest_at free d n e r)) (rest_at free d n e r)
  cell_is free d n l e r may = ap (λ b. form b d n l e r) may ∙ form_is free d n l e r

  pub elements_start : (free : Bool) (d n : ℕ) (es made : List Fragment) → made ≡ [] → OpenTo k free d n es made 0 0 es
  elements_start free d n es made e l u may =
      let a : d ≡ d + 0 = omega arith in
      let b : n ≡ n + 0 = omega arith in
      record {
        tree =
            ap₂ (λ x y. contents_at k x y (list_of l es u)) a b
            ∙ ap (λ xs. cells l xs (contents_at k (d + 0) (n + 0) (list_of l es u))) (sym e);
        declared = omega arith;
        others = omega arith;
      }

  declared_cell : (free : Bool) (l : ℕ) (x : Fragment) (rest : List Fragment) (u : Bool)
      → may_go_on k.definition.now l ≡ free → declared_count k.definition.now (cell l x (list_of l rest u))
      ≡ cond free 0 (fixed_declared k.definition.now x) + declared_count k.definition.now (list_of l rest u)
  declared_cell free l x rest u may =
      ap (λ b. cond b 0 (fixed_declared k.definition.now x) + declared_count k.definition.now (list_of l rest u)) may

  pub member_kept : (free kept : Bool) (d n : ℕ) (e : Fragment) (o : Opened) → IsOpenedElement k free d n e o
      → IsOpenedMember k free kept d n e o
  member_kept free kept d n e o h = record { tree = λ in_it. h.tree; declared = h.declared; others = h.others }

  pub member_left : (free kept : Bool) (d n : ℕ) (e : Fragment) (o : Opened) → kept ≡ (not free || keep k n)
      → kept ≡ false → (o.declared ≡ 0) × (o.others ≡ own_size k.definition.now true e)
      → IsOpenedMember k free kept d n e o
  member_left true kept d n e o is out h =
      record { tree = λ in_it. absurd (true≢false (sym in_it ∙ out)); declared = h.0; others = h.1 }
  member_left false kept d n e o is out h = absurd (true≢false (sym is ∙ out))

  -- the tree of an element is needed only where it is kept
  member_tree : (kept : Bool) (l : ℕ) (made : List Fragment) (x y R : Fragment) → (kept ≡ true → y ≡ x)
      → cells l made (cond kept (cell l x R) R) ≡ cells l made (cond kept (cell l y R) R)
  member_tree true l made x y R h = ap (λ t. cells l made (cell l t R)) (sym (h refl))
  member_tree false l made x y R h = refl

  pub elements_next : (free : Bool) (d n : ℕ) (es : List Fragment) (x : Fragment) (rest made longer : List Fragment)
      (dec own over next : ℕ) (o : Opened) (kept : Bool) (more_dec more_own : ℕ)
      → OpenTo k free d n es made dec own (x ∷ rest) → over ≡ d + dec → next ≡ n + own
      → IsOpenedMember k free kept over next x o → kept ≡ (not free || keep k next)
      → longer ≡ made ++ cond kept (o.tree ∷ []) [] → more_dec ≡ dec + o.declared → more_own ≡ own + o.others
      → OpenTo k free d n es longer more_dec more_own rest
  elements_next free d n es x rest made longer dec own over next o kept more_dec more_own h ov nx is kp lg md mo l u may =
      let def = k.definition.now in
      let r = list_of l rest u in
      let was = h l u may in
      let size : o.others ≡ own_size def free x = is.others in
      let above : over + cond free 0 (fixed_declared def x) ≡ d + more_dec = omega (arith, ov, md, is.declared) in
      let after : next + own_size def free x ≡ n + more_own = omega (arith, nx, mo, size) in
      let R = contents_at k (d + more_dec) (n + more_own) r in
      let rest_is : rest_at free over next x r ≡ R = ap₂ (λ a b. contents_at k a b r) above after in
      record {
        tree =
            was.tree
            ∙ ap₂ (λ a b. cells l made (contents_at k a b (cell l x r))) (sym ov) (sym nx)
            ∙ ap (cells l made) (cell_is free over next l x r may)
            ∙ ap (λ t. cells l made (cond (not free || keep k next) (cell l (element_at k free over next x) t) t)) rest_is
            ∙ ap (λ b. cells l made (cond b (cell l (element_at k free over next x) R) R)) (sym kp)
            ∙ member_tree kept l made (element_at k free over next x) o.tree R is.tree
            ∙ sym (cells_kept l made kept o.tree R)
            ∙ ap (λ xs. cells l xs R) (sym lg);
        declared =
            let step = declared_cell free l x rest u may in
            omega (arith, was.declared, step, md, is.declared);
        others =
            let step : content_count def (cell l x r) ≡ own_size def free x + content_count def r =
            ap (λ b. own_size def b x + content_count def r) may in
            omega (arith, was.others, step, mo, size);
      }

  -- the whole list, with its end
  pub list_tree : (free : Bool) (d n : ℕ) (es made : List Fragment) (dec own end : ℕ) (l : ℕ) (u left_open : Bool)
      → OpenTo k free d n es made dec own [] → free ≡ may_go_on k.definition.now l → end ≡ n + own
      → left_open ≡ (u || (free && not (keep k end))) → list_of l made left_open ≡ contents_at k d n (list_of l es u)
  list_tree free d n es made dec own end l u left_open h may en op =
      sym ((h l u (sym may)).tree
      ∙ ap (λ b. cells l made (ending l (u || (b && not (keep k (n + own)))))) (sym may)
      ∙ ap (λ m. cells l made (ending l (u || (free && not (keep k m))))) (sym en)
      ∙ ap (λ b. cells l made (ending l b)) (sym op) ∙ cells_end l made left_open)

  pub list_count : (free : Bool) (d n : ℕ) (es made : List Fragment) (dec own : ℕ) (l : ℕ) (u : Bool)
      → OpenTo k free d n es made dec own [] → free ≡ may_go_on k.definition.now l
      → dec ≡ declared_count k.definition.now (list_of l es u)
  list_count free d n es made dec own l u h may =
      let e = (h l u (sym may)).declared in
      let z : dec + 0 ≡ dec = omega arith in
      sym (e ∙ z)

  pub list_places : (free : Bool) (d n : ℕ) (es made : List Fragment) (dec own last total : ℕ) (l : ℕ) (u : Bool)
      → OpenTo k free d n es made dec own [] → free ≡ may_go_on k.definition.now l
      → last ≡ cond (free && not u) 1 0 → total ≡ own + last
      → total ≡ content_count k.definition.now (list_of l es u)
  list_places free d n es made dec own last total l u h may la to =
      to ∙ ap (λ m. own + m) (la ∙ ap (λ b. cond (b && not u) 1 0) may) ∙ sym (h l u (sym may)).others
