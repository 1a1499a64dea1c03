-- A new operator's node: its parts, its children, and the steps that pass the limit.
use Rattle.std.proofs.Common.{◌≡◌, ◌⊎◌, inl, inr, ℕ, List, [], ◌∷◌, ◌++◌, map, length, Some, slice_get, refl, ap, ap₂, sym, ◌∙◌, subst, append_assoc, append-nil, arith}
use Rattle.std.specs.List.{AllByRecursion}
use Rattle.std.proofs.lemmas.Str.{IsUtf8-nil}
use Rattle.psg_terms.specs.Names.{Name}
use Rattle.psg_terms.specs.Relations.{IsIn, first, later}
use Rattle.psg_grammar.specs.declared.types.Kind.{Kind}
use Rattle.psg_grammar.specs.declared.types.Kind.TheVariants as kinds
use Rattle.psg_grammar.specs.declared.types.Item.{Item}
use Rattle.psg_grammar.specs.declared.types.Item.TheVariants as items
use Rattle.psg_grammar.specs.declared.types.Operator.{Operator}
use Rattle.psg_grammar.specs.declared.types.Definition.{Definition}
use Rattle.psg_grammar.specs.Fragments.{Fragment, operator, with_child, with_name, with_number, with_text, children_of, top_operator}
use Rattle.psg_grammar.specs.Insertion.{Leaf, a_name, a_number, a_text, AreLeaves, blank, filled, fresh_operator}
use Rattle.psg_grammar.specs.Kinds.{IsOfKind}
use Rattle.psg_grammar.specs.Lookups.{items_of, operator_at, part_items}
use Rattle.psg_grammar.specs.WellFormed.{IsName}
use Rattle.psg_eval.specs.declared.summary.SummaryParts.{SummaryParts}
use Rattle.psg_eval.specs.Summaries.{AllSummaries, AreSummariesOf, IsSummary, StaysWithin, TakesAt, are_names, slot_kinds}
use Rattle.psg_eval.specs.Trees.{HasParts, IsNode, own_names, seen_in}
use Rattle.psg_renaming.specs.Occurring.{leaf_names}
use Rattle.psg_menu.specs.Trials.{AreBlanks, AreNamedLeaves}
use Rattle.psg_menu.proofs.WideTrees.{OwnPasses, WideBelow, WideTree, node_parts, node_wide}

module _ (def : Definition) where
  abbrev pub slots : List Item → List Kind
  slots is = slot_kinds def is

  abbrev pub blanks : List Kind → List Fragment
  blanks ks = map (blank def) ks

  -- of these kinds a new tree is too wide
  abbrev pub WideBlank : List Kind → Type 0
  WideBlank ks = (k : Kind) × IsIn k ks × WideTree def (blank def k)

  -- what is said of an operator with some of its parts, when all others are added
  pub record Filled (f whole : Fragment) (is : List Item) (leaves : List Leaf) : Type 0 where
    pub parts : HasParts def f is → HasParts def whole []
    pub names : own_names whole ≡ own_names f ++ leaf_names leaves
    pub children : children_of whole ≡ children_of f ++ blanks (slots is)
    pub top : top_operator whole ≡ top_operator f
    pub below : WideBelow def whole → WideBelow def f ⊎ WideBlank (slots is)
    pub keeps : WideBelow def f → WideBelow def whole
    pub wide : WideBlank (slots is) → WideBelow def whole

  filled_none : (f : Fragment) → Filled f f [] []
  filled_none f = record {
    parts = λ h. h;
    names = sym (append-nil (own_names f));
    children = sym (append-nil (children_of f));
    top = refl;
    below = inl;
    keeps = λ w. w;
    wide = λ (k, i, w). absurd (elim i [ ]);
  }

  filled_slot : (f whole : Fragment) (k : Kind) (is : List Item) (leaves : List Leaf) → Filled (with_child f (blank def k)) whole is leaves → Filled f whole (items.Slot k ∷ is) leaves
  filled_slot f whole k is leaves more = record {
    parts = λ h. more.parts (k, h);
    names = more.names;
    children = more.children ∙ append_assoc (children_of f) (blank def k ∷ []) (blanks (slots is));
    top = more.top;
    below = λ w. elim (more.below w) [
      | inl a ↦ elim a [ inl b ↦ inl b | inr b ↦ inr (k, first, b) ]
      | inr a ↦ inr (a.0, later a.1, a.2)
    ];
    keeps = λ w. more.keeps (inl w);
    wide = λ (j, i, w). slot_wide more j i w;
  } where
    slot_wide : Filled (with_child f (blank def k)) whole is leaves → (j : Kind) → IsIn j (k ∷ slots is) → WideTree def (blank def j) → WideBelow def whole
    slot_wide more j first w = more.keeps (inr w)
    slot_wide more j (later i) w = more.wide (j, i, w)

  filled_name : (f whole : Fragment) (n : Name) (i : Item) (is : List Item) (leaves : List Leaf) → slots (i ∷ is) ≡ slots is → (HasParts def f (i ∷ is) → HasParts def (with_name f n) is)
      → Filled (with_name f n) whole is leaves → Filled f whole (i ∷ is) (a_name n ∷ leaves)
  filled_name f whole n i is leaves e fits more = record {
    parts = λ h. more.parts (fits h);
    names = more.names ∙ append_assoc (own_names f) (n ∷ []) (leaf_names leaves);
    children = more.children ∙ ap (λ ks. children_of f ++ blanks ks) (sym e);
    top = more.top;
    below = λ w. subst (λ ks. WideBelow def f ⊎ WideBlank ks) (sym e) (more.below w);
    keeps = more.keeps;
    wide = λ w. more.wide (subst WideBlank e w);
  }

  filled_number : (f whole : Fragment) (n : ℕ) (is : List Item) (leaves : List Leaf) → Filled (with_number f n) whole is leaves → Filled f whole (items.Number ∷ is) (a_number n ∷ leaves)
  filled_number f whole n is leaves more = record {
    parts = more.parts;
    names = more.names;
    children = more.children;
    top = more.top;
    below = more.below;
    keeps = more.keeps;
    wide = more.wide;
  }

  filled_text : (f whole : Fragment) (n : Name) (is : List Item) (leaves : List Leaf) → Filled (with_text f n) whole is leaves → Filled f whole (items.Text ∷ is) (a_text n ∷ leaves)
  filled_text f whole n is leaves more = record {
    parts = more.parts;
    names = more.names;
    children = more.children;
    top = more.top;
    below = more.below;
    keeps = more.keeps;
    wide = more.wide;
  }

  all_filled : (f : Fragment) (is : List Item) (leaves : List Leaf) → AreLeaves def is leaves → Filled f (filled def f is leaves) is leaves
  all_filled f [] [] h = filled_none f
  all_filled f [] (leaf ∷ leaves) h = absurd h
  all_filled f (items.Slot k ∷ is) leaves h = filled_slot f (filled def (with_child f (blank def k)) is leaves) k is leaves (all_filled (with_child f (blank def k)) is leaves h)
  all_filled f (items.Refers s ∷ is) (a_name n ∷ leaves) (name, h) =
      filled_name f (filled def (with_name f n) is leaves) n (items.Refers s) is leaves refl (λ p. inl (s, p)) (all_filled (with_name f n) is leaves h)
  all_filled f (items.Declares s ∷ is) (a_name n ∷ leaves) (name, h) =
      filled_name f (filled def (with_name f n) is leaves) n (items.Declares s) is leaves refl (λ p. inr (s, p)) (all_filled (with_name f n) is leaves h)
  all_filled f (items.Number ∷ is) (a_number n ∷ leaves) (small, h) = filled_number f (filled def (with_number f n) is leaves) n is leaves (all_filled (with_number f n) is leaves h)
  all_filled f (items.Text ∷ is) (a_text n ∷ leaves) (utf8, h) = filled_text f (filled def (with_text f n) is leaves) n is leaves (all_filled (with_text f n) is leaves h)
  all_filled f (items.Refers s ∷ is) [] h = absurd h
  all_filled f (items.Refers s ∷ is) (a_number n ∷ leaves) h = absurd h
  all_filled f (items.Refers s ∷ is) (a_text n ∷ leaves) h = absurd h
  all_filled f (items.Declares s ∷ is) [] h = absurd h
  all_filled f (items.Declares s ∷ is) (a_number n ∷ leaves) h = absurd h
  all_filled f (items.Declares s ∷ is) (a_text n ∷ leaves) h = absurd h
  all_filled f (items.Number ∷ is) [] h = absurd h
  all_filled f (items.Number ∷ is) (a_name n ∷ leaves) h = absurd h
  all_filled f (items.Number ∷ is) (a_text n ∷ leaves) h = absurd h
  all_filled f (items.Text ∷ is) [] h = absurd h
  all_filled f (items.Text ∷ is) (a_name n ∷ leaves) h = absurd h
  all_filled f (items.Text ∷ is) (a_number n ∷ leaves) h = absurd h
  all_filled f (items.Word w ∷ is) leaves h = absurd h
  all_filled f (items.Space ∷ is) leaves h = absurd h
  all_filled f (items.Tight ∷ is) leaves h = absurd h
  all_filled f (items.Line ∷ is) leaves h = absurd h
  all_filled f (items.In ∷ is) leaves h = absurd h
  all_filled f (items.Out ∷ is) leaves h = absurd h

  part_slots : (is : List Item) → slots (part_items is) ≡ slots is
  part_slots [] = refl
  part_slots (items.Slot k ∷ is) = ap (λ ks. k ∷ ks) (part_slots is)
  part_slots (items.Refers s ∷ is) = part_slots is
  part_slots (items.Declares s ∷ is) = part_slots is
  part_slots (items.Number ∷ is) = part_slots is
  part_slots (items.Text ∷ is) = part_slots is
  part_slots (items.Word w ∷ is) = part_slots is
  part_slots (items.Space ∷ is) = part_slots is
  part_slots (items.Tight ∷ is) = part_slots is
  part_slots (items.Line ∷ is) = part_slots is
  part_slots (items.In ∷ is) = part_slots is
  part_slots (items.Out ∷ is) = part_slots is

  -- ---- summaries of blanks

  blank_kind : (k : Kind) (s : SummaryParts) → IsOfKind def (blank def k) s.kind → s.kind ≡ k
  blank_kind (kinds.Phylum p) s h = h
  blank_kind (kinds.List l) s h = h

  blank_seen : (k : Kind) → seen_in (blank def k) ≡ 0
  blank_seen (kinds.Phylum p) = refl
  blank_seen (kinds.List l) = refl

  pub blanks_kinds : (ks : List Kind) (ss : List SummaryParts) → AreBlanks def ks ss → map (λ (s : SummaryParts). s.kind) ss ≡ ks
  blanks_kinds [] [] h = refl
  blanks_kinds [] (s ∷ ss) h = absurd h
  blanks_kinds (k ∷ ks) [] h = absurd h
  blanks_kinds (k ∷ ks) (s ∷ ss) (one, more) = ap₂ (λ a b. a ∷ b) (blank_kind k s one.of.kind) (blanks_kinds ks ss more)

  pub blanks_usual : (ks : List Kind) (ss : List SummaryParts) → AreBlanks def ks ss → AllByRecursion (IsSummary def) ss
  blanks_usual [] [] h = tt
  blanks_usual [] (s ∷ ss) h = absurd h
  blanks_usual (k ∷ ks) [] h = absurd h
  blanks_usual (k ∷ ks) (s ∷ ss) (one, more) = (one.usual, blanks_usual ks ss more)

  pub blanks_all : (ks : List Kind) (ss : List SummaryParts) → AreBlanks def ks ss → AllSummaries def (blanks ks) ss
  blanks_all [] [] h = tt
  blanks_all [] (s ∷ ss) h = absurd h
  blanks_all (k ∷ ks) [] h = absurd h
  blanks_all (k ∷ ks) (s ∷ ss) (one, more) = (one.of, blanks_all ks ss more)

  pub blanks_silent : (ks : List Kind) (ss : List SummaryParts) → AreBlanks def ks ss → AllByRecursion (λ (s : SummaryParts). s.seen ≡ 0) ss
  blanks_silent [] [] h = tt
  blanks_silent [] (s ∷ ss) h = absurd h
  blanks_silent (k ∷ ks) [] h = absurd h
  blanks_silent (k ∷ ks) (s ∷ ss) (one, more) = (one.of.seen ∙ blank_seen k, blanks_silent ks ss more)

  blank_within : (k : Kind) → StaysWithin def (blank def k) → WideTree def (blank def k) → ⊥
  blank_within (kinds.Phylum p) h (n, l, passes) = h n l passes
  blank_within (kinds.List l) h (n, m, passes) = h n m passes

  blanks_within : (ks : List Kind) (ss : List SummaryParts) → AreBlanks def ks ss → WideBlank ks → ⊥
  blanks_within [] [] h (k, i, w) = elim i [ ]
  blanks_within [] (s ∷ ss) h w = absurd h
  blanks_within (k ∷ ks) [] h w = absurd h
  blanks_within (k ∷ ks) (s ∷ ss) (one, more) (j, i, w) = by (blanks_within ks ss more) j i w where
    by : (WideBlank ks → ⊥) → (j : Kind) → IsIn j (k ∷ ks) → WideTree def (blank def j) → ⊥
    by rest j first w = blank_within k one.within w
    by rest j (later i) w = rest (j, i, w)

  -- a step of a blank passes the limit
  pub blank_wide : (k : Kind) → OwnPasses def (blank def k) → WideTree def (blank def k)
  blank_wide (kinds.Phylum p) h = h
  blank_wide (kinds.List l) h = h

  -- ---- the operator

  module _ (o : ℕ) (op : Operator) (found : slice_get def.operators o ≡ Some op) (names : List Name) (leaves : List Leaf) (named : AreNamedLeaves def o names leaves) where
    abbrev fresh : Fragment
    fresh = fresh_operator def o leaves

    items_are : items_of (operator_at def o) ≡ part_items op.items
    items_are = ap items_of found

    whole : Filled (operator o) fresh (items_of (operator_at def o)) leaves
    whole = all_filled (operator o) (items_of (operator_at def o)) leaves named.are_leaves

    slots_are : slots (items_of (operator_at def o)) ≡ slots op.items
    slots_are = ap slots items_are ∙ part_slots op.items

    pub new_node : IsNode def o names fresh
    new_node = record {
      top = whole.top;
      parts = whole.parts (op, found, items_are);
      own = whole.names ∙ named.named;
    }

    pub new_children : (ss : List SummaryParts) → AreBlanks def (slots op.items) ss → AreSummariesOf def fresh ss
    new_children ss h = subst (λ cs. AllSummaries def cs ss) (sym (whole.children ∙ ap blanks slots_are)) (blanks_all (slots op.items) ss h)

    -- where no step of a blank passes the limit, a step of the node itself does
    pub new_own : (ss : List SummaryParts) → AreBlanks def (slots op.items) ss → WideTree def fresh → OwnPasses def fresh
    new_own ss h w = elim (node_parts def fresh [] new_node.parts w) [
      | inl a ↦ elim (whole.below a) [
        | inl b ↦ absurd b
        | inr b ↦ absurd (blanks_within (slots op.items) ss h (subst WideBlank slots_are b))
      ]
      | inr a ↦ a
    ]

    pub new_wide : OwnPasses def fresh → WideTree def fresh
    new_wide h = node_wide def fresh [] new_node.parts (inr h)

    pub new_blank : WideBlank (slots op.items) → WideTree def fresh
    new_blank h = node_wide def fresh [] new_node.parts (inl (whole.wide (subst WideBlank (sym slots_are) h)))

  pub new_takes : (o : ℕ) (op : Operator) (names : List Name) (ss : List SummaryParts) → slice_get def.operators o ≡ Some op → length (are_names def op.items) ≡ length names → AreBlanks def (slots op.items) ss
      → TakesAt def o names ss
  new_takes o op names ss found many h =
      (op, found, record { names_fit = many; kinds_fit = blanks_kinds (slots op.items) ss h; summaries = blanks_usual (slots op.items) ss h })

  -- ---- some leaves with these names

  pub record SomeLeaves (is : List Item) (names : List Name) : Type 0 where
    pub leaves : List Leaf
    pub are : AreLeaves def (part_items is) leaves
    pub named : leaf_names leaves ≡ names

  some_leaves : (is : List Item) (names : List Name) → AllByRecursion (IsName def) names → length (are_names def is) ≡ length names → SomeLeaves is names
  some_leaves [] [] h e = record { leaves = []; are = tt; named = refl }
  some_leaves [] (n ∷ names) h e = absurd (omega (arith, e))
  some_leaves (items.Refers s ∷ is) [] h e = absurd (omega (arith, e))
  some_leaves (items.Refers s ∷ is) (n ∷ names) (one, all) e =
      let more = some_leaves is names all (omega (arith, e)) in
      record { leaves = a_name n ∷ more.leaves; are = (one, more.are); named = ap (λ ns. n ∷ ns) more.named }
  some_leaves (items.Declares s ∷ is) [] h e = absurd (omega (arith, e))
  some_leaves (items.Declares s ∷ is) (n ∷ names) (one, all) e =
      let more = some_leaves is names all (omega (arith, e)) in
      record { leaves = a_name n ∷ more.leaves; are = (one, more.are); named = ap (λ ns. n ∷ ns) more.named }
  some_leaves (items.Slot k ∷ is) names h e = let more = some_leaves is names h e in record { leaves = more.leaves; are = more.are; named = more.named }
  some_leaves (items.Number ∷ is) names h e =
      let more = some_leaves is names h e in record { leaves = a_number 0 ∷ more.leaves; are = (omega arith, more.are); named = more.named }
  some_leaves (items.Text ∷ is) names h e =
      let more = some_leaves is names h e in record { leaves = a_text [] ∷ more.leaves; are = (IsUtf8-nil, more.are); named = more.named }
  some_leaves (items.Word w ∷ is) names h e = let more = some_leaves is names h e in record { leaves = more.leaves; are = more.are; named = more.named }
  some_leaves (items.Space ∷ is) names h e = let more = some_leaves is names h e in record { leaves = more.leaves; are = more.are; named = more.named }
  some_leaves (items.Tight ∷ is) names h e = let more = some_leaves is names h e in record { leaves = more.leaves; are = more.are; named = more.named }
  some_leaves (items.Line ∷ is) names h e = let more = some_leaves is names h e in record { leaves = more.leaves; are = more.are; named = more.named }
  some_leaves (items.In ∷ is) names h e = let more = some_leaves is names h e in record { leaves = more.leaves; are = more.are; named = more.named }
  some_leaves (items.Out ∷ is) names h e = let more = some_leaves is names h e in record { leaves = more.leaves; are = more.are; named = more.named }

  pub leaves_there : (o : ℕ) (op : Operator) (names : List Name) → slice_get def.operators o ≡ Some op → AllByRecursion (IsName def) names → length (are_names def op.items) ≡ length names
      → (leaves : List Leaf) × AreNamedLeaves def o names leaves
  leaves_there o op names found all many =
      let some = some_leaves op.items names all many in
      (some.leaves, record { are_leaves = subst (λ x. AreLeaves def (items_of x) some.leaves) (sym found) some.are; named = some.named })
