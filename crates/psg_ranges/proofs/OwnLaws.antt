-- The range at each path is that of the node at the path.
use Rattle.std.proofs.Common.{◌≡◌, ℕ, zero, suc, ◌+◌, Bool, true, false, List, [], ◌∷◌, ◌++◌, length, map, Option, Some, None, slice_get, refl, sym, ap, ◌∙◌, subst, arith, append_assoc, append-nil, length-append}
use Rattle.std.specs.Prelude.{option_and_then}
use Rattle.std.proofs.lemmas.List.{map-append}
use Rattle.psg_grammar.specs.declared.types.Kind.{Kind}
use Rattle.psg_grammar.specs.declared.types.Kind.TheVariants as kinds
use Rattle.psg_grammar.specs.declared.types.Item.{Item}
use Rattle.psg_grammar.specs.declared.types.Operator.{Operator}
use Rattle.psg_grammar.specs.declared.types.Definition.{Definition}
use Rattle.psg_grammar.specs.Fragments.{Fragment, children_of, with_name}
use Rattle.psg_grammar.specs.Paths.{Path, node_at}
use Rattle.psg_class.specs.Terminals.{Token, word, numeral, quoted, dots}
use Rattle.psg_class.specs.Yields.{TreeYields, of_hole, of_operator, in_brackets, PartsYield, no_items, of_word, of_refers, of_declares, of_number, of_text, of_slot, of_list_slot, ListYields, no_elements, only_more, elements, SomeYield, last_element, and_more, and_elements, Yields}
use Rattle.psg_ranges.specs.declared.ranges.Range.{Range}
use Rattle.psg_ranges.specs.Forests.{Core, hole_core, operator_core, Forest, no_nodes, node, of_tree, of_parts, of_list, of_elements, names_of, nodes_of, ranges_in, from_nth, below_first, at_path, first_range}
use Rattle.psg_ranges.specs.Owns.{IsNode, a_tree, a_list, own_names, as_words, IsRangeOf, HasRanges, RangesAreOfNodes}
use Rattle.psg_ranges.specs.Walking.{core_names, core_below, list_below}
use Rattle.psg_ranges.proofs.Peeled.{Peeled, peel}
use Rattle.psg_ranges.proofs.Nodes.{list_node}

-- the nodes from that of the tree on
pub data Begun (def : Definition) (tokens : List Token) : Fragment → Forest → Type 0 where
  tree_begun : {t : Fragment} {nodes : Forest} (p level depth : ℕ) (ts before after : List Token) (y : TreeYields def t p level depth ts) (beside : Forest) → tokens ≡ before ++ (ts ++ after)
      → nodes ≡ of_tree y (length before) beside → Begun def tokens t nodes
  list_begun : {t : Fragment} {nodes : Forest} (l depth : ℕ) (ts before after : List Token) (y : ListYields def t l depth ts) (beside : Forest) → tokens ≡ before ++ (ts ++ after)
      → nodes ≡ of_list y (length before) beside → Begun def tokens t nodes

none_some : {A : Type 0} (x : A) → None ≡ Some x → ⊥
none_some x h = cc

same_some : {A : Type 0} (x y : A) → Some x ≡ Some y → x ≡ y
same_some x y h = cc

no_nth : (k : ℕ) → from_nth no_nodes k ≡ no_nodes
no_nth zero = refl
no_nth (suc k) = refl

-- the children among the parts
subs : {def : Definition} {o : Operator} {first : Bool} {f g : Fragment} {d e : ℕ} {more : List Item} {ts : List Token} → PartsYield def o first f d more g e ts → List Fragment
subs no_items = []
subs (of_word t is z) = subs z
subs (of_refers s x is z) = subs z
subs (of_declares s x is z) = subs z
subs (of_number x z) = subs z
subs (of_text x z) = subs z
subs (of_slot t depth own behind y z) = t ∷ subs z
subs (of_list_slot t depth own behind y z) = t ∷ subs z

children_in : {def : Definition} {o : Operator} {first : Bool} {f g : Fragment} {d e : ℕ} {more : List Item} {ts : List Token} (z : PartsYield def o first f d more g e ts)
    → children_of g ≡ children_of f ++ subs z
unfolding subs
children_in {f = f} no_items = sym (append-nil (children_of f))
children_in (of_word t is z) = children_in z
children_in (of_refers s x is z) = children_in z
children_in (of_declares s x is z) = children_in z
children_in (of_number x z) = children_in z
children_in (of_text x z) = children_in z
children_in {f = f} (of_slot t depth own behind y z) = children_in z ∙ append_assoc (children_of f) (t ∷ []) (subs z)
children_in {f = f} (of_list_slot t depth own behind y z) = children_in z ∙ append_assoc (children_of f) (t ∷ []) (subs z)

tree_skip : {def : Definition} {f : Fragment} {p level depth : ℕ} {ts : List Token} (y : TreeYields def f p level depth ts) (start : ℕ) (beside : Forest) (k : ℕ)
    → from_nth (of_tree y start beside) (suc k) ≡ from_nth beside k
tree_skip (of_hole phylum found holes) start beside k = refl
tree_skip (of_operator n o found is fits z) start beside k = refl
tree_skip (in_brackets phylum t u found bracketed is is' y) start beside k = tree_skip y (start + 1) beside k

list_skip : {def : Definition} {f : Fragment} {l depth : ℕ} {ts : List Token} (y : ListYields def f l depth ts) (start : ℕ) (beside : Forest) (k : ℕ)
    → from_nth (of_list y start beside) (suc k) ≡ from_nth beside k
list_skip (no_elements kind found) start beside k = refl
list_skip (only_more kind found unfinished) start beside k = refl
list_skip (elements y) start beside k = refl

module _ (def : Definition) (tokens : List Token) where
  -- a child of the number, and the nodes from it on; or neither
  abbrev Kid : List Fragment → Forest → ℕ → Type 0
  Kid ts nodes k = ((t : Fragment) → slice_get ts k ≡ Some t → Begun def tokens t (from_nth nodes k)) × (slice_get ts k ≡ None → from_nth nodes k ≡ no_nodes)

  no_kid : (k : ℕ) → Kid [] no_nodes k
  no_kid k = (λ t h. absurd (none_some t (sym (nowhere k) ∙ h)), λ h. no_nth k) where
    nowhere : (k : ℕ) → slice_get {X = Fragment} [] k ≡ None
    nowhere zero = refl
    nowhere (suc k) = refl

  one_more : (before : List Token) (t : Token) (ts after : List Token) → tokens ≡ before ++ (t ∷ ts ++ after) → tokens ≡ (before ++ t ∷ []) ++ (ts ++ after)
  one_more before t ts after are = are ∙ sym (append_assoc before (t ∷ []) (ts ++ after))

  many_more : (before own behind after : List Token) → tokens ≡ before ++ ((own ++ behind) ++ after) → tokens ≡ (before ++ own) ++ (behind ++ after)
  many_more before own behind after are = are ∙ ap (λ x. before ++ x) (append_assoc own behind after) ∙ sym (append_assoc before own (behind ++ after))

  parts_kid : {o : Operator} {first : Bool} {f g : Fragment} {d e : ℕ} {more : List Item} {ts : List Token} (z : PartsYield def o first f d more g e ts) (before after : List Token) (k : ℕ)
      → tokens ≡ before ++ (ts ++ after) → Kid (subs z) (of_parts z (length before)) k
  unfolding subs
  parts_kid no_items before after k are = no_kid k
  parts_kid (of_word {ts = ts} t is z) before after k are = subst (λ n. Kid (subs z) (of_parts z n) k) (length-append before (t ∷ [])) (parts_kid z (before ++ t ∷ []) after k (one_more before t ts after are))
  parts_kid (of_refers {ts = ts} s x is z) before after k are =
      subst (λ n. Kid (subs z) (of_parts z n) k) (length-append before (word x ∷ [])) (parts_kid z (before ++ word x ∷ []) after k (one_more before (word x) ts after are))
  parts_kid (of_declares {ts = ts} s x is z) before after k are =
      subst (λ n. Kid (subs z) (of_parts z n) k) (length-append before (word x ∷ [])) (parts_kid z (before ++ word x ∷ []) after k (one_more before (word x) ts after are))
  parts_kid (of_number {ts = ts} x z) before after k are =
      subst (λ n. Kid (subs z) (of_parts z n) k) (length-append before (numeral x ∷ [])) (parts_kid z (before ++ numeral x ∷ []) after k (one_more before (numeral x) ts after are))
  parts_kid (of_text {ts = ts} x z) before after k are =
      subst (λ n. Kid (subs z) (of_parts z n) k) (length-append before (quoted x ∷ [])) (parts_kid z (before ++ quoted x ∷ []) after k (one_more before (quoted x) ts after are))
  parts_kid (of_slot {p = p} t depth own behind y z) before after zero are = (
    λ s h. subst (λ x. Begun def tokens x (of_tree y (length before) (of_parts z (length before + length own)))) (same t s h)
        (tree_begun p _ depth own before (behind ++ after) y (of_parts z (length before + length own)) (are ∙ ap (λ x. before ++ x) (append_assoc own behind after)) refl),
    λ h. absurd (none_some t (sym h)),
  ) where
    same : (t s : Fragment) → Some t ≡ Some s → t ≡ s
    same t s h = cc
  parts_kid (of_slot t depth own behind y z) before after (suc k) are =
      subst (λ x. ((s : Fragment) → slice_get (subs z) k ≡ Some s → Begun def tokens s x) × (slice_get (subs z) k ≡ None → x ≡ no_nodes)) (sym (tree_skip y (length before) (of_parts z (length before + length own)) k))
      (subst (λ n. Kid (subs z) (of_parts z n) k) (length-append before own) (parts_kid z (before ++ own) after k (many_more before own behind after are)))
  parts_kid (of_list_slot {l = l} t depth own behind y z) before after zero are = (
    λ s h. subst (λ x. Begun def tokens x (of_list y (length before) (of_parts z (length before + length own)))) (same t s h)
        (list_begun l depth own before (behind ++ after) y (of_parts z (length before + length own)) (are ∙ ap (λ x. before ++ x) (append_assoc own behind after)) refl),
    λ h. absurd (none_some t (sym h)),
  ) where
    same : (t s : Fragment) → Some t ≡ Some s → t ≡ s
    same t s h = cc
  parts_kid (of_list_slot t depth own behind y z) before after (suc k) are =
      subst (λ x. ((s : Fragment) → slice_get (subs z) k ≡ Some s → Begun def tokens s x) × (slice_get (subs z) k ≡ None → x ≡ no_nodes)) (sym (list_skip y (length before) (of_parts z (length before + length own)) k))
      (subst (λ n. Kid (subs z) (of_parts z n) k) (length-append before own) (parts_kid z (before ++ own) after k (many_more before own behind after are)))

  -- ---- the elements of a list

  elements_kid : {f : Fragment} {l depth : ℕ} {ts : List Token} (y : SomeYield def f l depth ts) (before after : List Token) (k : ℕ) → tokens ≡ before ++ (ts ++ after)
      → Kid (children_of f) (of_elements y (length before)) k
  elements_kid (last_element {depth = depth} {e = e} {ts = ts} kind found y) before after zero are =
      (λ s h. subst (λ x. Begun def tokens x (of_tree y (length before) no_nodes)) (same_some e s h) (tree_begun kind.element 0 depth ts before after y no_nodes are refl), λ h. absurd (none_some e (sym h)))
  elements_kid (last_element kind found y) before after (suc k) are =
      subst (λ x. ((s : Fragment) → slice_get {X = Fragment} [] k ≡ Some s → Begun def tokens s x) × (slice_get {X = Fragment} [] k ≡ None → x ≡ no_nodes)) (sym (tree_skip y (length before) no_nodes k)) (no_kid k)
  elements_kid (and_more {depth = depth} {e = e} ts kind separator found unfinished is y) before after zero are = (
    λ s h. subst (λ x. Begun def tokens x (of_tree y (length before) no_nodes)) (same_some e s h)
        (tree_begun kind.element 0 depth ts before ((separator ∷ dots ∷ []) ++ after) y no_nodes (are ∙ ap (λ x. before ++ x) (append_assoc ts (separator ∷ dots ∷ []) after)) refl),
    λ h. absurd (none_some e (sym h)),
  )
  elements_kid (and_more ts kind separator found unfinished is y) before after (suc k) are =
      subst (λ x. ((s : Fragment) → slice_get {X = Fragment} [] k ≡ Some s → Begun def tokens s x) × (slice_get {X = Fragment} [] k ≡ None → x ≡ no_nodes)) (sym (tree_skip y (length before) no_nodes k)) (no_kid k)
  elements_kid (and_elements {e = e} kind m n own behind separator found is y z) before after zero are = (
    λ s h. subst (λ x. Begun def tokens x (of_tree y (length before) (of_elements z (length before + length own + 1)))) (same_some e s h)
        (tree_begun kind.element 0 m own before ((separator ∷ behind) ++ after) y (of_elements z (length before + length own + 1)) (are ∙ ap (λ x. before ++ x) (append_assoc own (separator ∷ behind) after)) refl),
    λ h. absurd (none_some e (sym h)),
  )
  elements_kid (and_elements {r = r} kind m n own behind separator found is y z) before after (suc k) are =
      let front : List Token = own ++ separator ∷ [] in
      let whole : tokens ≡ before ++ ((front ++ behind) ++ after) = are ∙ ap (λ x. before ++ (x ++ after)) (sym (append_assoc own (separator ∷ []) behind)) in
      let long : length (before ++ front) ≡ length before + length own + 1 =
      let a = length-append before front in let b = length-append own (separator ∷ []) in omega (arith, a, b) in
      subst (λ x. ((s : Fragment) → slice_get (children_of r) k ≡ Some s → Begun def tokens s x) × (slice_get (children_of r) k ≡ None → x ≡ no_nodes))
      (sym (tree_skip y (length before) (of_elements z (length before + length own + 1)) k))
      (subst (λ n. Kid (children_of r) (of_elements z n) k) long (elements_kid z (before ++ front) after k (many_more before front behind after whole)))

  -- ---- the children of a node

  core_kid : {f : Fragment} {p : ℕ} {ts : List Token} (c : Core def f p ts) (before after : List Token) (k : ℕ) → tokens ≡ before ++ (ts ++ after)
      → Kid (children_of f) (core_below c (length before)) k
  core_kid (hole_core phylum found holes) before after k are = no_kid k
  core_kid (operator_core n o found is z) before after k are =
      subst (λ ts. Kid ts (of_parts z (length before)) k) (sym (children_in z)) (parts_kid z before after k are)

  list_kid : {f : Fragment} {l depth : ℕ} {ts : List Token} (y : ListYields def f l depth ts) (before after : List Token) (k : ℕ) → tokens ≡ before ++ (ts ++ after)
      → Kid (children_of f) (list_below y (length before)) k
  list_kid (no_elements kind found) before after k are = no_kid k
  list_kid (only_more kind found unfinished) before after k are = no_kid k
  list_kid (elements y) before after k are = elements_kid y before after k are

  -- the tokens with the brackets around a core
  opened_are : (before opens own closes after ts : List Token) → ts ≡ opens ++ (own ++ closes) → tokens ≡ before ++ (ts ++ after)
      → tokens ≡ (before ++ opens) ++ (own ++ (closes ++ after))
  opened_are before opens own closes after ts e are =
      are ∙ ap (λ x. before ++ (x ++ after)) e
      ∙ ap (λ x. before ++ x) (append_assoc opens (own ++ closes) after ∙ ap (λ x. opens ++ x) (append_assoc own closes after))
      ∙ sym (append_assoc before opens (own ++ (closes ++ after)))

  kids : (t : Fragment) (nodes : Forest) → Begun def tokens t nodes → (k : ℕ) → Kid (children_of t) (below_first nodes) k
  kids t nodes (tree_begun p level depth ts before after y beside are is) k =
      let q = peel y in
      let long : length (before ++ q.opens) ≡ length before + length q.opens = length-append before q.opens in
      let at : below_first nodes ≡ core_below q.core (length (before ++ q.opens)) =
      ap below_first (is ∙ q.forest (length before) beside) ∙ ap (core_below q.core) (sym long) in
      subst (λ x. Kid (children_of t) x k) (sym at) (core_kid q.core (before ++ q.opens) (q.closes ++ after) k (opened_are before q.opens q.own q.closes after ts q.are are))
  kids t nodes (list_begun l depth ts before after y beside are is) k =
      let at : below_first nodes ≡ list_below y (length before) = ap below_first (is ∙ sym (list_node y (length before) beside)) in
      subst (λ x. Kid (children_of t) x k) (sym at) (list_kid y before after k are)

  -- ---- names

  get_seam : (xs : List Token) (y : Token) (ys : List Token) → slice_get (xs ++ y ∷ ys) (length xs) ≡ Some y
  get_seam [] y ys = refl
  get_seam (x ∷ xs) y ys = get_seam xs y ys

  more_words : (ws : List (List ℕ)) (x : List ℕ) → as_words (ws ++ x ∷ []) ≡ as_words ws ++ Some (word x) ∷ []
  more_words ws x = map-append (λ z. Some (word z)) ws (x ∷ [])

  -- one more name
  name_put : (f g : Fragment) (x : List ℕ) (before more : List Token) (rest : List (Option Token)) → tokens ≡ before ++ (word x ∷ more)
      → as_words (own_names g) ≡ as_words (own_names f ++ x ∷ []) ++ rest → as_words (own_names g) ≡ as_words (own_names f) ++ slice_get tokens (length before) ∷ rest
  name_put f g x before more rest are e =
      e ∙ ap (λ z. z ++ rest) (more_words (own_names f) x) ∙ append_assoc (as_words (own_names f)) (Some (word x) ∷ []) rest
      ∙ ap (λ z. as_words (own_names f) ++ z ∷ rest) (sym (ap (λ ts. slice_get ts (length before)) are ∙ get_seam before (word x) more))

  parts_named : {o : Operator} {first : Bool} {f g : Fragment} {d e : ℕ} {more : List Item} {ts : List Token} (z : PartsYield def o first f d more g e ts) (before after : List Token)
      → tokens ≡ before ++ (ts ++ after) → as_words (own_names g) ≡ as_words (own_names f) ++ map (slice_get tokens) (names_of z (length before))
  parts_named {f = f} no_items before after are = sym (append-nil (as_words (own_names f)))
  parts_named {f = f} {g = g} (of_word {ts = ts} t is z) before after are =
      subst (λ n. as_words (own_names g) ≡ as_words (own_names f) ++ map (slice_get tokens) (names_of z n)) (length-append before (t ∷ [])) (parts_named z (before ++ t ∷ []) after (one_more before t ts after are))
  parts_named {f = f} {g = g} (of_refers {ts = ts} s x is z) before after are =
      name_put f g x before (ts ++ after) (map (slice_get tokens) (names_of z (length before + 1))) are
      (subst (λ n. as_words (own_names g) ≡ as_words (own_names f ++ x ∷ []) ++ map (slice_get tokens) (names_of z n)) (length-append before (word x ∷ [])) (parts_named z (before ++ word x ∷ []) after (one_more before (word x) ts after are)))
  parts_named {f = f} {g = g} (of_declares {ts = ts} s x is z) before after are =
      name_put f g x before (ts ++ after) (map (slice_get tokens) (names_of z (length before + 1))) are
      (subst (λ n. as_words (own_names g) ≡ as_words (own_names f ++ x ∷ []) ++ map (slice_get tokens) (names_of z n)) (length-append before (word x ∷ [])) (parts_named z (before ++ word x ∷ []) after (one_more before (word x) ts after are)))
  parts_named {f = f} {g = g} (of_number {ts = ts} x z) before after are =
      subst (λ n. as_words (own_names g) ≡ as_words (own_names f) ++ map (slice_get tokens) (names_of z n)) (length-append before (numeral x ∷ [])) (parts_named z (before ++ numeral x ∷ []) after (one_more before (numeral x) ts after are))
  parts_named {f = f} {g = g} (of_text {ts = ts} x z) before after are =
      subst (λ n. as_words (own_names g) ≡ as_words (own_names f) ++ map (slice_get tokens) (names_of z n)) (length-append before (quoted x ∷ [])) (parts_named z (before ++ quoted x ∷ []) after (one_more before (quoted x) ts after are))
  parts_named {f = f} {g = g} (of_slot t depth own behind y z) before after are =
      subst (λ n. as_words (own_names g) ≡ as_words (own_names f) ++ map (slice_get tokens) (names_of z n)) (length-append before own) (parts_named z (before ++ own) after (many_more before own behind after are))
  parts_named {f = f} {g = g} (of_list_slot t depth own behind y z) before after are =
      subst (λ n. as_words (own_names g) ≡ as_words (own_names f) ++ map (slice_get tokens) (names_of z n)) (length-append before own) (parts_named z (before ++ own) after (many_more before own behind after are))

  core_named : {f : Fragment} {p : ℕ} {ts : List Token} (c : Core def f p ts) (before after : List Token) → tokens ≡ before ++ (ts ++ after)
      → map (slice_get tokens) (core_names c (length before)) ≡ as_words (own_names f)
  core_named (hole_core phylum found holes) before after are = refl
  core_named (operator_core n o found is z) before after are = sym (parts_named z before after are)

  some_unnamed : {f : Fragment} {l depth : ℕ} {ts : List Token} → SomeYield def f l depth ts → [] ≡ as_words (own_names f)
  some_unnamed (last_element kind found y) = refl
  some_unnamed (and_more ts kind separator found unfinished is y) = refl
  some_unnamed (and_elements kind m n own behind separator found is y z) = refl

  list_unnamed : {f : Fragment} {l depth : ℕ} {ts : List Token} → ListYields def f l depth ts → [] ≡ as_words (own_names f)
  list_unnamed (no_elements kind found) = refl
  list_unnamed (only_more kind found unfinished) = refl
  list_unnamed (elements y) = some_unnamed y

  -- ---- the range of a node

  abbrev range_of : ℕ → ℕ → List ℕ → Forest → Range
  range_of start end names below = record { start = start; end = end; nodes = suc (length (ranges_in below)); names = names }

  begun_range : (t : Fragment) (nodes : Forest) → Begun def tokens t nodes → (r : Range) × (first_range nodes ≡ Some r) × IsRangeOf def tokens t r
  begun_range t nodes (tree_begun p level depth ts before after y beside are is) =
      let q = peel y in
      let start : ℕ = length before + length q.opens in
      let long : length (before ++ q.opens) ≡ start = length-append before q.opens in
      let all : tokens ≡ (before ++ q.opens) ++ (q.own ++ (q.closes ++ after)) = opened_are before q.opens q.own q.closes after ts q.are are in (
        range_of start (start + length q.own) (core_names q.core start) (core_below q.core start),
        ap first_range (is ∙ q.forest (length before) beside),
        record {
          before = before ++ q.opens;
          own = q.own;
          after = q.closes ++ after;
          are = all;
          is = a_tree q.core;
          starts = sym long;
          ends = ap (λ n. n + length q.own) (sym long);
          named =
              ap (λ n. map (slice_get tokens) (core_names q.core n)) (sym long)
              ∙ core_named q.core (before ++ q.opens) (q.closes ++ after) all;
        },
      )
  begun_range t nodes (list_begun l depth ts before after y beside are is) = (
    range_of (length before) (length before + length ts) [] (list_below y (length before)),
    ap first_range (is ∙ sym (list_node y (length before) beside)),
    record {
      before = before;
      own = ts;
      after = after;
      are = are;
      is = a_list y;
      starts = refl;
      ends = refl;
      named = list_unnamed y;
    },
  )

  -- ---- paths

  no_path : (path : Path) → at_path no_nodes path ≡ no_nodes
  no_path [] = refl
  no_path (k ∷ path) = ap (λ x. at_path x path) (no_nth k) ∙ no_path path

  abbrev Led : Option Fragment → Forest → Type 0
  Led o nodes = ((g : Fragment) → o ≡ Some g → Begun def tokens g nodes) × (o ≡ None → nodes ≡ no_nodes)

  led_step : (k : ℕ) (path : Path) (t : Fragment) (nodes : Forest) → Kid (children_of t) (below_first nodes) k
      → ((u : Fragment) (below : Forest) → Begun def tokens u below → Led (node_at u path) (at_path below path))
      → (o : Option Fragment) → slice_get (children_of t) k ≡ o → Led (option_and_then (λ u. node_at u path) o) (at_path (from_nth (below_first nodes) k) path)
  led_step k path t nodes kid go None e = (λ g h. absurd (none_some g h), λ h. ap (λ x. at_path x path) (kid.1 e) ∙ no_path path)
  led_step k path t nodes kid go (Some u) e = go u (from_nth (below_first nodes) k) (kid.0 u e)

  led : (path : Path) (t : Fragment) (nodes : Forest) → Begun def tokens t nodes → Led (node_at t path) (at_path nodes path)
  led [] t nodes b = (λ g e. subst (λ x. Begun def tokens x nodes) (same_some t g e) b, λ e. absurd (none_some t (sym e)))
  led (k ∷ path) t nodes b = led_step k path t nodes (kids t nodes b k) (λ u below c. led path u below c) (slice_get (children_of t) k) refl

  begun_has : (t : Fragment) (nodes : Forest) → Begun def tokens t nodes → HasRanges def tokens t nodes
  begun_has t nodes b = record {
    there = λ path g e. begun_range g (at_path nodes path) ((led path t nodes b).0 g e);
    none = λ path e. ap first_range ((led path t nodes b).1 e);
  }

pub ranges_are : (def : Definition) → RangesAreOfNodes def
ranges_are def f (kinds.Phylum p) level depth ts y =
    begun_has def ts f (of_tree y 0 no_nodes) (tree_begun p level depth ts [] [] y no_nodes (sym (append-nil ts)) refl)
ranges_are def f (kinds.List l) level depth ts y =
    begun_has def ts f (of_list y 0 no_nodes) (list_begun l depth ts [] [] y no_nodes (sym (append-nil ts)) refl)
