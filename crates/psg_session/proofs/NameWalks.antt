-- The names that a tree has, in order.
use Rattle.std.proofs.Common.{◌≡◌, inl, inr, ℕ, ◌+◌, ◌<◌, ◌≤◌, ◌||◌, Bool, true, false, List, [], ◌∷◌, ◌++◌, length, take, drop, get_or, reverse, refl, sym, ◌∙◌, ap, subst, append_assoc, append-nil, bytes_eq, arith}
use Rattle.std.specs.List.{AllByRecursion}
use Rattle.std.specs.Cmp.Lexicographic.{slice_cmp}
use Rattle.std.specs.Ordering.{nat_cmp}
use Rattle.std.specs.declared.cmp.Ordering.{Ordering}
use Rattle.std.specs.declared.cmp.Ordering.TheVariants.{Less, Equal, Greater}
use Rattle.std.proofs.lemmas.Bool.{cases_Bool, or_right, or_left}
use Rattle.std.proofs.lemmas.List.{drop_more, take_more, take-append-drop, drop_all, reverse-append, reverse-reverse, take_all}
use Rattle.std.proofs.lemmas.Map.Lookups.{exact_bytes}
use Rattle.std.proofs.lemmas.Slice.Eq.{bytes_eq-Decides}
use Rattle.psg_terms.proofs.Lists.{each_append}
use Rattle.psg_terms.specs.Names.{Name, is_among}
use Rattle.psg_grammar.specs.declared.types.Kind.{Kind}
use Rattle.psg_grammar.specs.declared.types.Item.{Item}
use Rattle.psg_grammar.specs.declared.types.Item.TheVariants as items
use Rattle.psg_grammar.specs.declared.types.Definition.{Definition}
use Rattle.psg_grammar.specs.Fragments.{Fragment, hole, ending, cell, operator, with_child, with_name, with_number, with_text, anything, observed}
use Rattle.psg_grammar.specs.Keys.{placed}
use Rattle.psg_grammar.specs.WellFormed.{Fits, IsName}
use Rattle.psg_tree.specs.declared.tree.Part.{Part}
use Rattle.psg_tree.specs.declared.tree.Part.TheVariants.{Sub, Name as NamePart, Number, Text}
use Rattle.psg_tree.specs.declared.tree.Shape.{Shape}
use Rattle.psg_tree.specs.declared.tree.Shape.TheVariants.{Op, List as ListOf}
use Rattle.psg_tree.specs.Shapes.{with_part, with_parts, list_of, tree_of}
use Rattle.psg_renaming.specs.Occurring.{occurring}
use Rattle.psg_menu.specs.Menus.{AreUsed, in_byte_order, insert_name}

-- ---- the names of parts and elements

abbrev pub part_names : List Part → List Name
part_names [] = []
part_names (p ∷ ps) = occurring (with_part (operator 0) p) ++ part_names ps

names_of_part : (f : Fragment) (p : Part) → occurring (with_part f p) ≡ occurring f ++ occurring (with_part (operator 0) p)
names_of_part f (Sub t) = refl
names_of_part f (NamePart n) = refl
names_of_part f (Number n) = sym (append-nil (occurring f))
names_of_part f (Text t) = sym (append-nil (occurring f))

names_of_parts : (f : Fragment) (ps : List Part) → occurring (with_parts f ps) ≡ occurring f ++ part_names ps
names_of_parts f [] = sym (append-nil (occurring f))
names_of_parts f (p ∷ ps) =
    names_of_parts (with_part f p) ps ∙ ap (λ x. x ++ part_names ps) (names_of_part f p)
    ∙ append_assoc (occurring f) (occurring (with_part (operator 0) p)) (part_names ps)

-- of an operator of any number
pub operator_names_are : (o : ℕ) (ps : List Part) → occurring (with_parts (operator o) ps) ≡ part_names ps
operator_names_are o ps = names_of_parts (operator o) ps

pub element_names : (l : ℕ) (es : List Fragment) (u : Bool) → occurring (list_of l es u) ≡ occurring (list_of 0 es false)
element_names l [] u = refl
element_names l (e ∷ es) u = ap (λ x. occurring e ++ x) (element_names l es u)

-- of a node that is read
pub operator_names : (s : Shape) (o : ℕ) (ps : List Part) (f : Fragment) (slice : List Part) → s ≡ Op o ps → slice ≡ ps → tree_of s ≡ f
    → occurring (with_parts (operator 0) slice) ≡ occurring f
operator_names s o ps f slice is same read =
    ap (λ x. occurring (with_parts (operator 0) x)) same ∙ operator_names_are 0 ps ∙ sym (operator_names_are o ps) ∙ ap occurring (sym (ap tree_of is) ∙ read)

pub list_names : (s : Shape) (l : ℕ) (es : List Fragment) (u : Bool) (f : Fragment) (slice : List Fragment) → s ≡ ListOf l es u → slice ≡ es → tree_of s ≡ f
    → occurring (list_of 0 slice false) ≡ occurring f
list_names s l es u f slice is same read =
    ap (λ x. occurring (list_of 0 x false)) same ∙ sym (element_names l es u) ∙ ap occurring (sym (ap tree_of is) ∙ read)

-- one more part, and one more element
pub part_gathered : (ps : List Part) (i : ℕ) (p : Part) (before between after : List Name) → i < length ps → p ≡ get_or ps i p
    → between ++ part_names (drop i ps) ≡ before ++ part_names ps → after ≡ between ++ occurring (with_part (operator 0) p)
    → after ++ part_names (drop (i + 1) ps) ≡ before ++ part_names ps
part_gathered ps i p before between after small is so_far one =
    let here : drop i ps ≡ p ∷ drop (i + 1) ps = drop_more ps i p small ∙ ap (λ x. x ∷ drop (i + 1) ps) (sym is) in
    ap (λ x. x ++ part_names (drop (i + 1) ps)) one
    ∙ append_assoc between (occurring (with_part (operator 0) p)) (part_names (drop (i + 1) ps))
    ∙ ap (λ x. between ++ part_names x) (sym here) ∙ so_far

pub element_gathered : (es : List Fragment) (i : ℕ) (e : Fragment) (before between after : List Name) → i < length es → e ≡ get_or es i e
    → between ++ occurring (list_of 0 (drop i es) false) ≡ before ++ occurring (list_of 0 es false) → after ≡ between ++ occurring e
    → after ++ occurring (list_of 0 (drop (i + 1) es) false) ≡ before ++ occurring (list_of 0 es false)
element_gathered es i e before between after small is so_far one =
    let here : drop i es ≡ e ∷ drop (i + 1) es = drop_more es i e small ∙ ap (λ x. x ∷ drop (i + 1) es) (sym is) in
    ap (λ x. x ++ occurring (list_of 0 (drop (i + 1) es) false)) one
    ∙ append_assoc between (occurring e) (occurring (list_of 0 (drop (i + 1) es) false))
    ∙ ap (λ x. between ++ occurring (list_of 0 x false)) (sym here) ∙ so_far

-- all of them
pub parts_gathered : (ps : List Part) (i : ℕ) (before after : List Name) → length ps ≤ i
    → after ++ part_names (drop i ps) ≡ before ++ part_names ps → after ≡ before ++ occurring (with_parts (operator 0) ps)
parts_gathered ps i before after end so_far =
    sym (append-nil after) ∙ ap (λ x. after ++ part_names x) (sym (drop_all i ps end)) ∙ so_far ∙ ap (λ x. before ++ x) (sym (operator_names_are 0 ps))

pub elements_gathered : (es : List Fragment) (i : ℕ) (before after : List Name) → length es ≤ i
    → after ++ occurring (list_of 0 (drop i es) false) ≡ before ++ occurring (list_of 0 es false) → after ≡ before ++ occurring (list_of 0 es false)
elements_gathered es i before after end so_far =
    sym (append-nil after) ∙ ap (λ x. after ++ occurring (list_of 0 x false)) (sym (drop_all i es end)) ∙ so_far

-- ---- the order of bytes

-- one more name, from the last one on
pub turned_more : (ns : List Name) (i : ℕ) (n : Name) → i < length ns → n ≡ get_or ns i n
    → in_byte_order (reverse (take (i + 1) ns)) ≡ insert_name n (in_byte_order (reverse (take i ns)))
turned_more ns i n small is =
    ap (λ l. in_byte_order (reverse l)) (take_more ns i n small ∙ ap (λ x. take i ns ++ x ∷ []) (sym is))
    ∙ ap in_byte_order (reverse-append (take i ns) (n ∷ []))

-- all of them
pub turned_all : (ns turned : List Name) (i : ℕ) → turned ≡ reverse ns → length turned ≤ i
    → in_byte_order (reverse (take i turned)) ≡ in_byte_order ns
turned_all ns turned i is end =
    ap (λ l. in_byte_order (reverse l)) (take_all i turned end ∙ is) ∙ ap in_byte_order (reverse-reverse ns)

module _ (n : Name) (ms : List Name) (i : ℕ) (m : Name) (small : i < length ms) (is : m ≡ get_or ms i m)
    (so_far : insert_name n ms ≡ take i ms ++ insert_name n (drop i ms)) where
  here : drop i ms ≡ m ∷ drop (i + 1) ms
  here = drop_more ms i m small ∙ ap (λ x. x ∷ drop (i + 1) ms) (sym is)

  met : (r : Ordering) → slice_cmp nat_cmp n m ≡ r
      → insert_name n ms ≡ take i ms ++ placed r n m (drop (i + 1) ms) (insert_name n (drop (i + 1) ms))
  met r e = so_far ∙ ap (λ x. take i ms ++ insert_name n x) here
      ∙ ap (λ x. take i ms ++ placed x n m (drop (i + 1) ms) (insert_name n (drop (i + 1) ms))) e

  pub before_it : slice_cmp nat_cmp n m ≡ Less → insert_name n ms ≡ take i ms ++ n ∷ drop i ms
  before_it e = met Less e ∙ ap (λ x. take i ms ++ n ∷ x) (sym here)

  pub it_is : slice_cmp nat_cmp n m ≡ Equal → insert_name n ms ≡ ms
  it_is e = met Equal e ∙ ap (λ x. take i ms ++ x) (sym here) ∙ take-append-drop i ms

  pub after_it : slice_cmp nat_cmp n m ≡ Greater → insert_name n ms ≡ take (i + 1) ms ++ insert_name n (drop (i + 1) ms)
  after_it e =
      let more : take (i + 1) ms ≡ take i ms ++ m ∷ [] = take_more ms i m small ∙ ap (λ x. take i ms ++ x ∷ []) (sym is) in
      met Greater e ∙ sym (append_assoc (take i ms) (m ∷ []) (insert_name n (drop (i + 1) ms)))
      ∙ ap (λ x. x ++ insert_name n (drop (i + 1) ms)) (sym more)

pub after_all : (n : Name) (ms : List Name) (i : ℕ) → length ms ≤ i → insert_name n ms ≡ take i ms ++ insert_name n (drop i ms)
    → insert_name n ms ≡ take (length ms) ms ++ n ∷ drop (length ms) ms
after_all n ms i end so_far =
    so_far ∙ ap (λ x. take i ms ++ insert_name n x) (drop_all i ms end) ∙ ap (λ x. x ++ n ∷ []) (take_all i ms end ∙ sym (take_all (length ms) ms (omega arith)))
    ∙ ap (λ x. take (length ms) ms ++ n ∷ x) (sym (drop_all (length ms) ms (omega arith)))

-- ---- which names these are

same_name : (n : Name) → bytes_eq n n ≡ true
same_name n = (bytes_eq-Decides n n).1 refl

inserted_itself : (n : Name) (ms : List Name) → is_among (insert_name n ms) n ≡ true
inserted_itself n [] = or_left (bytes_eq n n) false (same_name n)
inserted_itself n (m ∷ ms) = by_order (slice_cmp nat_cmp n m) refl (inserted_itself n ms) where
  by_order : (r : Ordering) → slice_cmp nat_cmp n m ≡ r → is_among (insert_name n ms) n ≡ true
      → is_among (placed r n m ms (insert_name n ms)) n ≡ true
  by_order Less e more = or_left (bytes_eq n n) (is_among (m ∷ ms) n) (same_name n)
  by_order Equal e more =
      or_left (bytes_eq m n) (is_among ms n) (subst (λ x. bytes_eq x n ≡ true) (exact_bytes n m e) (same_name n))
  by_order Greater e more = or_right (bytes_eq m n) (is_among (insert_name n ms) n) more

inserted_others : (n k : Name) (ms : List Name) → is_among ms k ≡ true → is_among (insert_name n ms) k ≡ true
inserted_others n k [] h = absurd (cc)
inserted_others n k (m ∷ ms) h = by_order (slice_cmp nat_cmp n m) (inserted_others n k ms) where
  by_order : (r : Ordering) → (is_among ms k ≡ true → is_among (insert_name n ms) k ≡ true)
      → is_among (placed r n m ms (insert_name n ms)) k ≡ true
  by_order Less more = or_right (bytes_eq n k) (is_among (m ∷ ms) k) h
  by_order Equal more = h
  by_order Greater more = elim (cases_Bool (bytes_eq m k)) [
    | inl e ↦ or_left (bytes_eq m k) (is_among (insert_name n ms) k) e
    | inr e ↦
        or_right (bytes_eq m k) (is_among (insert_name n ms) k) (more (sym (ap (λ x. x || is_among ms k) e) ∙ h))
  ]

-- all of these names are used
all_used : (used : List Name) (n : Name) (ns : List Name) → AllByRecursion (λ k. is_among used k ≡ true) ns
    → AllByRecursion (λ k. is_among (insert_name n used) k ≡ true) ns
all_used used n [] all = tt
all_used used n (k ∷ ns) all = (inserted_others n k used all.0, all_used used n ns all.1)

pub used_in_order : (ns : List Name) → AllByRecursion (λ k. is_among (in_byte_order ns) k ≡ true) ns
used_in_order [] = tt
used_in_order (n ∷ ns) = (inserted_itself n (in_byte_order ns), all_used (in_byte_order ns) n ns (used_in_order ns))

pub are_used : (f : Fragment) → AreUsed (in_byte_order (occurring f)) f
are_used f = used_in_order (occurring f)

-- ---- they are names

all_placed : (P : Name → Type 0) (r : Ordering) (n m : Name) (rest more : List Name) → P n → P m → AllByRecursion P rest → AllByRecursion P more
    → AllByRecursion P (placed r n m rest more)
all_placed P Less n m rest more h g all also = (h, (g, all))
all_placed P Equal n m rest more h g all also = (g, all)
all_placed P Greater n m rest more h g all also = (g, also)

pub all_inserted : (P : Name → Type 0) (n : Name) (ms : List Name) → P n → AllByRecursion P ms → AllByRecursion P (insert_name n ms)
all_inserted P n [] h all = (h, tt)
all_inserted P n (m ∷ ms) h all =
    all_placed P (slice_cmp nat_cmp n m) n m ms (insert_name n ms) h all.0 all.1 (all_inserted P n ms h all.1)

pub all_ordered : (P : Name → Type 0) (ns : List Name) → AllByRecursion P ns → AllByRecursion P (in_byte_order ns)
all_ordered P [] all = tt
all_ordered P (n ∷ ns) all = all_inserted P n (in_byte_order ns) all.0 (all_ordered P ns all.1)

module _ (def : Definition) where
  all_names : (f : Fragment) (more : List Item) (kind : Kind) → Fits def f more kind → AllByRecursion (IsName def) (occurring f)
  all_names (hole p) more kind h = tt
  all_names (ending l u) more kind h = tt
  all_names (cell l e r) more kind (none, is, k, found, fe, fr, z) =
      each_append (IsName def) (occurring e) (occurring r) (all_names e [] _ fe) (all_names r [] _ fr)
  all_names (operator o) more kind h = tt
  all_names (with_child f t) more kind (k, hf, ht) =
      each_append (IsName def) (occurring f) (occurring t) (all_names f (items.Slot k ∷ more) kind hf) (all_names t [] k ht)
  all_names (with_name f n) more kind (inl (s, h), name) =
      each_append (IsName def) (occurring f) (n ∷ []) (all_names f (items.Refers s ∷ more) kind h) (name, tt)
  all_names (with_name f n) more kind (inr (s, h), name) =
      each_append (IsName def) (occurring f) (n ∷ []) (all_names f (items.Declares s ∷ more) kind h) (name, tt)
  all_names (with_number f n) more kind (h, small) = all_names f (items.Number ∷ more) kind h
  all_names (with_text f t) more kind (h, text) = all_names f (items.Text ∷ more) kind h
  all_names anything more kind h = absurd h
  all_names (observed f) more kind (none, h) = all_names f [] kind h

  pub candidates_are : (f : Fragment) (kind : Kind) → Fits def f [] kind → AllByRecursion (IsName def) (in_byte_order (occurring f))
  candidates_are f kind h = all_ordered (IsName def) (occurring f) (all_names f [] kind h)
