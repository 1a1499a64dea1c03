-- The rows of a step's relation are canonical and have the sorts of the step's columns.
use Rattle.std.proofs.Common.{◌≡◌, ◌⊎◌, inl, inr, ℕ, zero, suc, ◌<◌, ◌≤◌, Bool, true, false, cond, List, [], ◌∷◌, ◌++◌, map, drop, length, length-append, Option, Some, slice_get, refl, ap, sym, ◌∙◌, subst, append_assoc, append-nil, arith}
use Rattle.std.specs.Prelude.{nat_lt, option_and_then}
use Rattle.std.specs.List.{AllByRecursion}
use Rattle.std.proofs.lemmas.Bool.{cases_lt, le-ltb, lt-ltb}
use Rattle.psg_terms.specs.Terms.{Term}
use Rattle.psg_terms.specs.Signature.{HasSort, HaveSorts}
use Rattle.psg_terms.specs.Relations.{IsIn, IsRelation, first}
use Rattle.psg_terms.proofs.InstanceLaws.{Takes-substitute}
use Rattle.psg_terms.proofs.Lists.{each_at}
use Rattle.psg_grammar.specs.declared.types.Kind.{Kind}
use Rattle.psg_grammar.specs.declared.types.Kind.TheVariants as kinds
use Rattle.psg_grammar.specs.declared.types.Item.{Item}
use Rattle.psg_grammar.specs.declared.types.Item.TheVariants as items
use Rattle.psg_grammar.specs.declared.types.ListKind.{ListKind}
use Rattle.psg_grammar.specs.declared.types.Operator.{Operator}
use Rattle.psg_grammar.specs.declared.types.Definition.{Definition}
use Rattle.psg_grammar.specs.Fragments.{Fragment, hole, ending, cell, operator, with_child, with_name, with_number, with_text, anything, observed, children_of, top_operator}
use Rattle.psg_grammar.specs.Keys.{Key}
use Rattle.psg_grammar.specs.Kinds.{IsOfKind}
use Rattle.psg_grammar.specs.Legal.{AreEntities, Entities}
use Rattle.psg_grammar.specs.Lookups.{is_scope, key_at, operator_at, part_items}
use Rattle.psg_grammar.specs.Open.{Choice, Holds, IsOfCellRow, IsOfHoleRow, IsOfNilRow}
use Rattle.psg_grammar.specs.Regions.{names_inside, names_of}
use Rattle.psg_grammar.specs.Relations.{IsPossible, IsPossibleInside}
use Rattle.psg_grammar.specs.Sound.{AreColumns, HasKindSort, IsHoleRow, IsItem, IsListKind, IsRow, IsSound, IsTermOf}
use Rattle.psg_grammar.specs.Steps.{IsStepRelation, adding, children_count, closing, first_children}
use Rattle.psg_grammar.specs.WellFormed.{Fits, IsPlain}
use Rattle.psg_grammar.proofs.SoundParts.{list_sound, operator_sound}
use Rattle.psg_eval.specs.Glues.{outer_names}
use Rattle.psg_eval.specs.Partials.{AreKindSorts}
use Rattle.psg_eval.specs.Summaries.{slot_kinds}
use Rattle.psg_eval.proofs.RegionSteps.{all_children}
use Rattle.psg_cache.proofs.Evaluations.{kind_fits}
use Rattle.psg_cache.proofs.OpenTrees.{holds_flat}
use Rattle.psg_cache.proofs.RealTrees.{IsReal, IsSpine, real_tree}
use Rattle.psg_explain.specs.Given.{keys_at}
use Rattle.psg_explain.specs.Refutations.{AreClaimed, AreColumnSorts, AreSortsOfKeys, adding as sorts_adding, closing as sorts_closing, kinds_below, kinds_of_cell, kinds_of_slots}
use Rattle.psg_explain.proofs.CoverLaws.{sorts_put, sorts_same}
use Rattle.psg_explain.proofs.FormedParts.{all_parts, operator_of}
use Rattle.psg_explain.proofs.KeySpaces.{first_spaces, key_sorts_of, ordered_spaces, spaces_inside, spaces_outside}
use Rattle.psg_explain.proofs.PlanLaws.{IsFront, IsWalked}
use Rattle.psg_explain.proofs.SortLaws.{parts_slots, push_kind}

same_op : (a b : Operator) → Some a ≡ Some b → a ≡ b
same_op a b e = cc

same_list : (a b : ListKind) → Some a ≡ Some b → a ≡ b
same_list a b e = cc

drop_more : {X : Type 0} (n : ℕ) (xs : List X) (x : X) → n ≤ length xs → drop n (xs ++ x ∷ []) ≡ drop n xs ++ x ∷ []
drop_more zero xs x h = refl
drop_more (suc n) [] x h = absurd (omega (arith, h))
drop_more (suc n) (y ∷ xs) x h = drop_more n xs x (omega (arith, h))

drop_past : {X : Type 0} (n : ℕ) (xs : List X) → length xs ≤ n → drop n xs ≡ []
drop_past zero [] h = refl
drop_past (suc n) [] h = refl
drop_past zero (x ∷ xs) h = absurd (omega (arith, h))
drop_past (suc n) (x ∷ xs) h = drop_past n xs (omega (arith, h))

module _ (def : Definition) (sound : IsSound def) where
  have_push : (ts : List Term) (ss : List ℕ) (t : Term) (s : ℕ) → HaveSorts def.signature ts ss → HasSort def.signature t s → HaveSorts def.signature (ts ++ t ∷ []) (ss ++ s ∷ [])
  have_push [] [] t s h p = (p, tt)
  have_push [] (r ∷ ss) t s h p = absurd h
  have_push (u ∷ ts) [] t s h p = absurd h
  have_push (u ∷ ts) (r ∷ ss) t s (q, h) p = (q, have_push ts ss t s h p)

  have_append : (ts us : List Term) (ss rs : List ℕ) → HaveSorts def.signature ts ss → HaveSorts def.signature us rs → HaveSorts def.signature (ts ++ us) (ss ++ rs)
  have_append [] us [] rs h k = k
  have_append [] us (s ∷ ss) rs h k = absurd h
  have_append (t ∷ ts) us [] rs h k = absurd h
  have_append (t ∷ ts) us (s ∷ ss) rs (p, h) k = (p, have_append ts us ss rs h k)

  -- ---- an operator's node with its first n children

  -- what is known of the values of a node whose parts from here on are still to come: its own, those of the parts, and
  -- those that are seen in place of children
  pub record HasValues (kind : Kind) (all : List Kind) (n : ℕ) (more : List Item) (columns : List Term) (v : Term) (before after : List Term) : Type 0 where
    pub sort : ℕ
    pub kind_sort : HasKindSort def kind sort
    pub value : HasSort def.signature v sort
    pub sorts : List ℕ
    pub are_columns : AreColumns def more sorts
    pub sorted : HaveSorts def.signature columns sorts
    pub seen : List Term
    pub before_is : before ≡ seen ++ after
    pub seen_sorts : List ℕ
    pub are_seen : AreKindSorts def (drop n all) seen_sorts
    pub seen_sorted : HaveSorts def.signature seen seen_sorts

  abbrev kinds_at_top : Fragment → List Kind
  kinds_at_top f = kinds_of_slots def (option_and_then (operator_at def) (top_operator f))

  row_values : (o : ℕ) (op : Operator) → slice_get def.operators o ≡ Some op → (n : ℕ) (c : ℕ) (g : Entities) (columns : List Term) (v : Term) (before after : List Term) → Holds def g (operator o) c columns v before after
      → HasValues (kinds.Phylum op.phylum) [] n (part_items op.items) columns v before after
  row_values o op found n c g columns v before after (same, row) =
      let shape = operator_sound def sound o op found in
      let is : row.op ≡ op = same_op row.op op (sym row.found ∙ found) in
      let chosen : slice_get op.rows c ≡ Some row.row = ap (λ (x : Operator). slice_get x.rows c) (sym is) ∙ row.chosen in
      let sorted = each_at (IsRow def shape.sort shape.columns) op.rows shape.each_row c row.row chosen in
      record {
        sort = shape.sort;
        kind_sort = shape.phylum_sort;
        value = subst (λ (t : Term). HasSort def.signature t shape.sort) (sym row.value.head) (Takes-substitute def.signature row.value.terms row.value.grounding.sorted row.row.head [] shape.sort sorted.of_head.0);
        sorts = shape.columns;
        are_columns = shape.are_columns;
        sorted = subst (λ (l : List Term). HaveSorts def.signature l shape.columns) (sym row.value.rest) (sorts_put def.signature row.value.terms row.value.grounding.sorted row.row.columns shape.columns sorted.of_columns);
        seen = [];
        before_is = same;
        seen_sorts = [];
        are_seen = drop_none n;
        seen_sorted = tt;
      }
    where
      drop_none : (k : ℕ) → AreKindSorts def (drop k []) []
      drop_none zero = refl
      drop_none (suc k) = refl

  -- a child that is there shows nothing, and one that is not shows its value
  child_there : (b : Bool) → b ≡ true → (t : Fragment) → IsReal t → (inner : Entities) (d : Choice (cond b t anything)) (u : Term) (mid after : List Term) → Holds def inner (cond b t anything) d [] u mid after → mid ≡ after
  child_there true z t real inner d u mid after k = holds_flat def t real inner d [] u mid after k
  child_there false z t real inner d u mid after k = absurd (cc)

  child_gone : (b : Bool) → b ≡ false → (t : Fragment) (inner : Entities) (d : Choice (cond b t anything)) (u : Term) (mid after : List Term) → Holds def inner (cond b t anything) d [] u mid after → mid ≡ u ∷ after
  child_gone true z t inner d u mid after k = absurd (cc)
  child_gone false z t inner d u mid after k = k.1

  values_there : (kind : Kind) (all : List Kind) (k : Kind) (n : ℕ) (more : List Item) (columns : List Term) (v u : Term) (before mid after : List Term) → HasValues kind all n (items.Slot k ∷ more) (u ∷ columns) v before mid
      → mid ≡ after → length all < n → HasValues kind (all ++ k ∷ []) n more columns v before after
  values_there kind all k n more columns v u before mid after w flat lt =
      let (s, rest, e, is, others) = w.are_columns in
      let both : HaveSorts def.signature (u ∷ columns) (s ∷ rest) = subst (HaveSorts def.signature (u ∷ columns)) e w.sorted in
      let long = length-append all (k ∷ []) in
      let gone : drop n all ≡ drop n (all ++ k ∷ []) = drop_past n all (omega (arith, lt)) ∙ sym (drop_past n (all ++ k ∷ []) (omega (arith, lt, long))) in
      record {
        sort = w.sort;
        kind_sort = w.kind_sort;
        value = w.value;
        sorts = rest;
        are_columns = others;
        sorted = both.1;
        seen = w.seen;
        before_is = w.before_is ∙ ap (λ (l : List Term). w.seen ++ l) flat;
        seen_sorts = w.seen_sorts;
        are_seen = subst (λ (l : List Kind). AreKindSorts def l w.seen_sorts) gone w.are_seen;
        seen_sorted = w.seen_sorted;
      }

  values_gone : (kind : Kind) (all : List Kind) (k : Kind) (n : ℕ) (more : List Item) (columns : List Term) (v u : Term) (before mid after : List Term) → HasValues kind all n (items.Slot k ∷ more) (u ∷ columns) v before mid
      → mid ≡ u ∷ after → n ≤ length all → HasValues kind (all ++ k ∷ []) n more columns v before after
  values_gone kind all k n more columns v u before mid after w shown le =
      let (s, rest, e, is, others) = w.are_columns in
      let both : HaveSorts def.signature (u ∷ columns) (s ∷ rest) = subst (HaveSorts def.signature (u ∷ columns)) e w.sorted in
      record {
        sort = w.sort;
        kind_sort = w.kind_sort;
        value = w.value;
        sorts = rest;
        are_columns = others;
        sorted = both.1;
        seen = w.seen ++ u ∷ [];
        before_is = w.before_is ∙ ap (λ (l : List Term). w.seen ++ l) shown ∙ sym (append_assoc w.seen (u ∷ []) after);
        seen_sorts = w.seen_sorts ++ s ∷ [];
        are_seen = subst (λ (l : List Kind). AreKindSorts def l (w.seen_sorts ++ s ∷ [])) (sym (drop_more n all k le)) (push_kind def (drop n all) w.seen_sorts k s w.are_seen is);
        seen_sorted = have_push w.seen w.seen_sorts u s w.seen_sorted both.0;
      }

  values_refers : (kind : Kind) (all : List Kind) (s n : ℕ) (more : List Item) (columns : List Term) (v t : Term) (before after : List Term) → HasValues kind all n (items.Refers s ∷ more) (t ∷ columns) v before after → HasValues kind all n more columns v before after
  values_refers kind all s n more columns v t before after w =
      let (r, rest, e, is, others) = w.are_columns in
      let both : HaveSorts def.signature (t ∷ columns) (r ∷ rest) = subst (HaveSorts def.signature (t ∷ columns)) e w.sorted in
      record { sort = w.sort; kind_sort = w.kind_sort; value = w.value; sorts = rest; are_columns = others; sorted = both.1; seen = w.seen; before_is = w.before_is; seen_sorts = w.seen_sorts; are_seen = w.are_seen; seen_sorted = w.seen_sorted }

  values_declares : (kind : Kind) (all : List Kind) (s n : ℕ) (more : List Item) (columns : List Term) (v t : Term) (before after : List Term) → HasValues kind all n (items.Declares s ∷ more) (t ∷ columns) v before after → HasValues kind all n more columns v before after
  values_declares kind all s n more columns v t before after w =
      let (r, rest, e, is, others) = w.are_columns in
      let both : HaveSorts def.signature (t ∷ columns) (r ∷ rest) = subst (HaveSorts def.signature (t ∷ columns)) e w.sorted in
      record { sort = w.sort; kind_sort = w.kind_sort; value = w.value; sorts = rest; are_columns = others; sorted = both.1; seen = w.seen; before_is = w.before_is; seen_sorts = w.seen_sorts; are_seen = w.are_seen; seen_sorted = w.seen_sorted }

  values_literal : (kind : Kind) (all : List Kind) (i : Item) (n : ℕ) (more : List Item) (columns : List Term) (v : Term) (before after : List Term) → ((sorts : List ℕ) → AreColumns def (i ∷ more) sorts → AreColumns def more sorts)
      → HasValues kind all n (i ∷ more) columns v before after → HasValues kind all n more columns v before after
  values_literal kind all i n more columns v before after skip w =
      record { sort = w.sort; kind_sort = w.kind_sort; value = w.value; sorts = w.sorts; are_columns = skip w.sorts w.are_columns; sorted = w.sorted; seen = w.seen; before_is = w.before_is; seen_sorts = w.seen_sorts; are_seen = w.are_seen; seen_sorted = w.seen_sorted }

  -- what is known of the values of a node's parts, with its first children
  abbrev pub Told : Fragment → Kind → List Kind → List Item → Type 0
  Told f kind all more = (n : ℕ) (g : Entities) (c : Choice (first_children n f)) (columns : List Term) (v : Term) (before after : List Term) → Holds def g (first_children n f) c columns v before after → HasValues kind all n more columns v before after

  told_child : (f t : Fragment) → IsReal t → (kind k : Kind) (all : List Kind) (more : List Item) → length all ≡ length (children_of f) → Told f kind all (items.Slot k ∷ more) → Told (with_child f t) kind (all ++ k ∷ []) more
  told_child f t real kind k all more many told n g c columns v before after (u, mid, inner, hf, are, agree, ht) = by (cases_lt (length (children_of f)) n)
    where
      w : HasValues kind all n (items.Slot k ∷ more) (u ∷ columns) v before mid
      w = told n g c.0 (u ∷ columns) v before mid hf

      by : (length (children_of f) < n) ⊎ (n ≤ length (children_of f)) → HasValues kind (all ++ k ∷ []) n more columns v before after
      by (inl lt) = values_there kind all k n more columns v u before mid after w
          (child_there (nat_lt (length (children_of f)) n) (lt-ltb (length (children_of f)) n lt) t real inner c.1 u mid after ht) (omega (arith, lt, many))
      by (inr le) = values_gone kind all k n more columns v u before mid after w
          (child_gone (nat_lt (length (children_of f)) n) (le-ltb (length (children_of f)) n le) t inner c.1 u mid after ht) (omega (arith, le, many))

  -- the kinds of the children of the parts
  front_values : (f : Fragment) → IsFront f → (more : List Item) (kind : Kind) → Fits def f more kind → IsPlain f
      → (all : List Kind) × (length all ≡ length (children_of f)) × (all ++ slot_kinds def more ≡ kinds_at_top f) × Told f kind all more
  front_values (operator o) i more kind (op, found, e, k) plain = (
    [],
    refl,
    ap (slot_kinds def) e ∙ parts_slots def op.items ∙ sym (ap (kinds_of_slots def) found),
    λ n g c columns v before after h.
        subst (λ (x : Kind). HasValues x [] n more columns v before after) (sym k)
        (subst (λ (l : List Item). HasValues (kinds.Phylum op.phylum) [] n l columns v before after) (sym e) (row_values o op found n c g columns v before after h)),
  )
  front_values (with_child f t) (i, j) more kind (k, hf, ht) plain =
      let (all, many, slots, told) = front_values f i (items.Slot k ∷ more) kind hf plain.0 in
      let longer = length-append all (k ∷ []) in
      let grown = length-append (children_of f) (t ∷ []) in
      (all ++ k ∷ [], omega (arith, longer, grown, many), append_assoc all (k ∷ []) (slot_kinds def more) ∙ slots, told_child f t (real_tree def t [] k ht plain.1) kind k all more many told)
  front_values (with_name f m) i more kind (inl (s, h), name) plain =
      let (all, many, slots, told) = front_values f i (items.Refers s ∷ more) kind h plain in
      (all, many, slots, λ n g c columns v before after hold. values_refers kind all s n more columns v (g (key_at def (first_children n f) m)) before after (told n g c (g (key_at def (first_children n f) m) ∷ columns) v before after hold))
  front_values (with_name f m) i more kind (inr (s, h), name) plain =
      let (all, many, slots, told) = front_values f i (items.Declares s ∷ more) kind h plain in
      (all, many, slots, λ n g c columns v before after hold. values_declares kind all s n more columns v (g (key_at def (first_children n f) m)) before after (told n g c (g (key_at def (first_children n f) m) ∷ columns) v before after hold))
  front_values (with_number f m) i more kind (h, small) plain =
      let (all, many, slots, told) = front_values f i (items.Number ∷ more) kind h plain in
      (all, many, slots, λ n g c columns v before after hold. values_literal kind all items.Number n more columns v before after (λ ss k. k) (told n g c columns v before after hold))
  front_values (with_text f m) i more kind (h, text) plain =
      let (all, many, slots, told) = front_values f i (items.Text ∷ more) kind h plain in
      (all, many, slots, λ n g c columns v before after hold. values_literal kind all items.Text n more columns v before after (λ ss k. k) (told n g c columns v before after hold))
  front_values (hole p) i more kind h plain = absurd i
  front_values (ending l u) i more kind h plain = absurd i
  front_values (cell l e r) i more kind h plain = absurd i
  front_values anything i more kind h plain = absurd i
  front_values (observed f) i more kind h plain = absurd i

  -- ---- any node

  -- the value and the seen values of a node with its first children are of these sorts
  pub record HasSorted (kind : Kind) (wanted : List Kind) (v : Term) (before after : List Term) : Type 0 where
    pub sort : ℕ
    pub kind_sort : HasKindSort def kind sort
    pub value : HasSort def.signature v sort
    pub seen : List Term
    pub before_is : before ≡ seen ++ after
    pub seen_sorts : List ℕ
    pub are_seen : AreKindSorts def wanted seen_sorts
    pub seen_sorted : HaveSorts def.signature seen seen_sorts

  bare_value : (kind : Kind) (v : Term) (before after : List Term) (s : ℕ) → HasKindSort def kind s → HasSort def.signature v s → before ≡ after → HasSorted kind [] v before after
  bare_value kind v before after s k p e = record { sort = s; kind_sort = k; value = p; seen = []; before_is = e; seen_sorts = []; are_seen = refl; seen_sorted = tt }

  hole_value : (kind : Kind) (r : ℕ) (v : Term) → IsOfHoleRow def kind r v → (s : ℕ) × HasKindSort def kind s × HasSort def.signature v s
  hole_value kind r v h =
      let is = each_at (IsHoleRow def) def.hole_rows sound.hole_rows r h.row h.chosen in
      let (f, ground, e) = h.value in
      (is.sort, subst (λ (k : Kind). HasKindSort def k is.sort) h.same is.kind_sort, subst (λ (t : Term). HasSort def.signature t is.sort) (sym e) (Takes-substitute def.signature f ground.sorted h.row.term [] is.sort is.term.0))

  nil_value : (l r : ℕ) (v : Term) → IsOfNilRow def l r v → (s : ℕ) × HasKindSort def (kinds.List l) s × HasSort def.signature v s
  nil_value l r v h =
      let list = list_sound def sound l h.kind h.list in
      let is = each_at (λ (t : Term). IsTermOf def t h.kind.sort.0) h.kind.nil_rows list.nils r h.row h.chosen in
      let (f, ground, e) = h.value in
      (h.kind.sort.0, (h.kind, h.list, refl), subst (λ (t : Term). HasSort def.signature t h.kind.sort.0) (sym e) (Takes-substitute def.signature f ground.sorted h.row [] h.kind.sort.0 is.0))

  module _ (l r : ℕ) (v one others : Term) (h : IsOfCellRow def l r v one others) where
    cell_list : IsListKind def h.kind
    cell_list = list_sound def sound l h.kind h.list

    cell_sorted : HasSort def.signature v h.kind.sort.0 × HaveSorts def.signature (one ∷ others ∷ []) (cell_list.element ∷ h.kind.sort.0 ∷ [])
    cell_sorted =
        let is = each_at (IsRow def h.kind.sort.0 (cell_list.element ∷ h.kind.sort.0 ∷ [])) h.kind.cell_rows cell_list.cells r h.row h.chosen in (
          subst (λ (t : Term). HasSort def.signature t h.kind.sort.0) (sym h.value.head) (Takes-substitute def.signature h.value.terms h.value.grounding.sorted h.row.head [] h.kind.sort.0 is.of_head.0),
          subst (λ (x : List Term). HaveSorts def.signature x (cell_list.element ∷ h.kind.sort.0 ∷ [])) (sym h.value.rest)
              (sorts_put def.signature h.value.terms h.value.grounding.sorted h.row.columns (cell_list.element ∷ h.kind.sort.0 ∷ []) is.of_columns),
        )

  cell_wanted : (l : ℕ) (k : ListKind) → slice_get def.lists l ≡ Some k → (element : ℕ) → HasKindSort def (kinds.Phylum k.element) element → AreKindSorts def (kinds.Phylum k.element ∷ kinds.List l ∷ []) (element ∷ k.sort.0 ∷ [])
  cell_wanted l k found element is = (element, k.sort.0 ∷ [], refl, is, (k.sort.0, [], refl, (k, found, refl), refl))

  front_sorted : (f : Fragment) → IsFront f → (kind : Kind) → Fits def f [] kind → IsPlain f → (n : ℕ) (g : Entities) (c : Choice (first_children n f)) (v : Term) (before after : List Term)
      → Holds def g (first_children n f) c [] v before after → HasSorted kind (drop n (kinds_at_top f)) v before after
  front_sorted f i kind fits plain n g c v before after h =
      let (all, many, slots, told) = front_values f i [] kind fits plain in
      let w = told n g c [] v before after h in
      record {
        sort = w.sort;
        kind_sort = w.kind_sort;
        value = w.value;
        seen = w.seen;
        before_is = w.before_is;
        seen_sorts = w.seen_sorts;
        are_seen = subst (λ (l : List Kind). AreKindSorts def (drop n l) w.seen_sorts) (sym (append-nil all) ∙ slots) w.are_seen;
        seen_sorted = w.seen_sorted;
      }

  pub node_values : (f : Fragment) (kind : Kind) → Fits def f [] kind → IsPlain f → IsWalked f → (n : ℕ) → n ≤ children_count f → (g : Entities) (c : Choice (first_children n f)) (v : Term) (before after : List Term) → Holds def g (first_children n f) c [] v before after
      → HasSorted kind (drop n (kinds_below def f)) v before after
  node_values (hole p) kind (a, e, lt, some) plain i zero le g c v before after (none, same, h) =
      let (s, k, p') = hole_value (kinds.Phylum p) c v h in bare_value kind v before after s (subst (λ (x : Kind). HasKindSort def x s) (sym e) k) p' same
  node_values (hole p) kind fits plain i (suc n) le g c v before after h = absurd (omega (arith, le))
  node_values (ending l true) kind (a, e, b) plain i zero le g c v before after (none, same, h) =
      let (s, k, p') = hole_value (kinds.List l) c v h in bare_value kind v before after s (subst (λ (x : Kind). HasKindSort def x s) (sym e) k) p' same
  node_values (ending l false) kind (a, e, b) plain i zero le g c v before after (none, same, h) =
      let (s, k, p') = nil_value l c v h in bare_value kind v before after s (subst (λ (x : Kind). HasKindSort def x s) (sym e) k) p' same
  node_values (ending l u) kind fits plain i (suc n) le g c v before after h = absurd (omega (arith, le))
  node_values (cell l e r) kind (a, b, k, found, fe, fr, z) plain i zero le g c v before after (none, one, others, mid, inner, row, are, agree, (p, m), (q, o)) =
      let (value, sorted) = cell_sorted l c.0 v one others row in
      record {
        sort = row.kind.sort.0;
        kind_sort = subst (λ (x : Kind). HasKindSort def x row.kind.sort.0) (sym b) (row.kind, row.list, refl);
        value = value;
        seen = one ∷ others ∷ [];
        before_is = m ∙ ap (λ (x : List Term). one ∷ x) o;
        seen_sorts = (cell_list l c.0 v one others row).element ∷ row.kind.sort.0 ∷ [];
        are_seen = subst (λ (x : Option ListKind). AreKindSorts def (kinds_of_cell l x) ((cell_list l c.0 v one others row).element ∷ row.kind.sort.0 ∷ [])) (sym row.list)
            (cell_wanted l row.kind row.list (cell_list l c.0 v one others row).element (cell_list l c.0 v one others row).element_sort);
        seen_sorted = sorted;
      }
  node_values (cell l e r) kind (a, b, k, found, fe, fr, z) plain i (suc zero) le g c v before after (none, one, others, mid, inner, row, are, agree, he, (q, o)) =
      let (value, sorted) = cell_sorted l c.0 v one others row in
      let flat = holds_flat def e (real_tree def e [] (kinds.Phylum k.element) fe plain.0) inner c.1 [] one before mid he in
      record {
        sort = row.kind.sort.0;
        kind_sort = subst (λ (x : Kind). HasKindSort def x row.kind.sort.0) (sym b) (row.kind, row.list, refl);
        value = value;
        seen = others ∷ [];
        before_is = flat ∙ o;
        seen_sorts = row.kind.sort.0 ∷ [];
        are_seen = subst (λ (x : Option ListKind). AreKindSorts def (drop 1 (kinds_of_cell l x)) (row.kind.sort.0 ∷ [])) (sym row.list) (row.kind.sort.0, [], refl, (row.kind, row.list, refl), refl);
        seen_sorted = sorted.1;
      }
  node_values (cell l e r) kind (a, b, k, found, fe, fr, z) plain i (suc (suc zero)) le g c v before after (none, one, others, mid, inner, row, are, agree, he, hr) =
      let (value, sorted) = cell_sorted l c.0 v one others row in
      let flat = holds_flat def e (real_tree def e [] (kinds.Phylum k.element) fe plain.0) inner c.1 [] one before mid he in
      let behind = holds_flat def r (real_tree def r [] (kinds.List l) fr plain.1) g c.2 [] others mid after hr in
      record {
        sort = row.kind.sort.0;
        kind_sort = subst (λ (x : Kind). HasKindSort def x row.kind.sort.0) (sym b) (row.kind, row.list, refl);
        value = value;
        seen = [];
        before_is = flat ∙ behind;
        seen_sorts = [];
        are_seen = subst (λ (x : Option ListKind). AreKindSorts def (drop 2 (kinds_of_cell l x)) []) (sym row.list) refl;
        seen_sorted = tt;
      }
  node_values (cell l e r) kind fits plain i (suc (suc (suc n))) le g c v before after h = absurd (omega (arith, le))
  node_values (operator o) kind fits plain i n le g c v before after h = front_sorted (operator o) i kind fits plain n g c v before after h
  node_values (with_child f t) kind fits plain i n le g c v before after h = front_sorted (with_child f t) i kind fits plain n g c v before after h
  node_values (with_name f m) kind fits plain i n le g c v before after h = front_sorted (with_name f m) i kind fits plain n g c v before after h
  node_values (with_number f m) kind fits plain i n le g c v before after h = front_sorted (with_number f m) i kind fits plain n g c v before after h
  node_values (with_text f m) kind fits plain i n le g c v before after h = front_sorted (with_text f m) i kind fits plain n g c v before after h
  node_values anything kind fits plain i n le g c v before after h = absurd i
  node_values (observed f) kind fits plain i n le g c v before after h = absurd i

  -- ---- the sorts of a step's columns are there

  slots_sorted : (xs : List Item) → AllByRecursion (IsItem def) xs → (sorts : List ℕ) × AreKindSorts def (slot_kinds def xs) sorts
  slots_sorted [] h = ([], refl)
  slots_sorted (items.Slot k ∷ xs) ((s, is), h) = let (sorts, are) = slots_sorted xs h in (s ∷ sorts, (s, sorts, refl, is, are))
  slots_sorted (items.Refers s ∷ xs) (p, h) = slots_sorted xs h
  slots_sorted (items.Declares s ∷ xs) (p, h) = slots_sorted xs h
  slots_sorted (items.Number ∷ xs) (p, h) = slots_sorted xs h
  slots_sorted (items.Text ∷ xs) (p, h) = slots_sorted xs h
  slots_sorted (items.Word w ∷ xs) (p, h) = slots_sorted xs h
  slots_sorted (items.Space ∷ xs) (p, h) = slots_sorted xs h
  slots_sorted (items.Tight ∷ xs) (p, h) = slots_sorted xs h
  slots_sorted (items.Line ∷ xs) (p, h) = slots_sorted xs h
  slots_sorted (items.In ∷ xs) (p, h) = slots_sorted xs h
  slots_sorted (items.Out ∷ xs) (p, h) = slots_sorted xs h

  dropped_sorts : (n : ℕ) (ks : List Kind) (sorts : List ℕ) → AreKindSorts def ks sorts → (left : List ℕ) × AreKindSorts def (drop n ks) left
  dropped_sorts zero ks sorts h = (sorts, h)
  dropped_sorts (suc n) [] sorts h = ([], refl)
  dropped_sorts (suc n) (k ∷ ks) sorts (s, rest, e, is, h) = dropped_sorts n ks rest h

  front_spine : (f : Fragment) → IsFront f → IsSpine f
  front_spine (operator o) i = tt
  front_spine (with_child f t) (i, j) = front_spine f i
  front_spine (with_name f n) i = front_spine f i
  front_spine (with_number f n) i = front_spine f i
  front_spine (with_text f n) i = front_spine f i
  front_spine (hole p) i = absurd i
  front_spine (ending l u) i = absurd i
  front_spine (cell l e r) i = absurd i
  front_spine anything i = absurd i
  front_spine (observed f) i = absurd i

  top_sorted : (f : Fragment) (kind : Kind) → IsFront f → Fits def f [] kind → (sorts : List ℕ) × AreKindSorts def (kinds_at_top f) sorts
  top_sorted f kind i fits =
      let it = operator_of def f [] (all_parts def f kind fits (front_spine f i)) in
      let (sorts, are) = slots_sorted it.op.items (operator_sound def sound it.o it.op it.found).each_item in
      (sorts, subst (λ (o : Option Operator). AreKindSorts def (kinds_of_slots def o) sorts) (sym (ap (option_and_then (operator_at def)) it.top ∙ it.found)) are)

  below_sorted : (f : Fragment) (kind : Kind) → Fits def f [] kind → IsWalked f → (sorts : List ℕ) × AreKindSorts def (kinds_below def f) sorts
  below_sorted (hole p) kind fits i = ([], refl)
  below_sorted (ending l u) kind fits i = ([], refl)
  below_sorted (cell l e r) kind (a, b, k, found, fe, fr, z) i =
      let list = list_sound def sound l k found in
      (list.element ∷ k.sort.0 ∷ [], subst (λ (x : Option ListKind). AreKindSorts def (kinds_of_cell l x) (list.element ∷ k.sort.0 ∷ [])) (sym found) (cell_wanted l k found list.element list.element_sort))
  below_sorted (operator o) kind fits i = top_sorted (operator o) kind i fits
  below_sorted (with_child f t) kind fits i = top_sorted (with_child f t) kind i fits
  below_sorted (with_name f n) kind fits i = top_sorted (with_name f n) kind i fits
  below_sorted (with_number f n) kind fits i = top_sorted (with_number f n) kind i fits
  below_sorted (with_text f n) kind fits i = top_sorted (with_text f n) kind i fits
  below_sorted anything kind fits i = absurd i
  below_sorted (observed f) kind fits i = absurd i

  operator_kind : (f : Fragment) (kind : Kind) → IsFront f → IsOfKind def f kind → (s : ℕ) × HasKindSort def kind s
  operator_kind (operator o) kind i (op, found, e) = let is = operator_sound def sound o op found in (is.sort, subst (λ (x : Kind). HasKindSort def x is.sort) (sym e) is.phylum_sort)
  operator_kind (with_child f t) kind (i, j) h = operator_kind f kind i h
  operator_kind (with_name f n) kind i h = operator_kind f kind i h
  operator_kind (with_number f n) kind i h = operator_kind f kind i h
  operator_kind (with_text f n) kind i h = operator_kind f kind i h
  operator_kind (hole p) kind i h = absurd i
  operator_kind (ending l u) kind i h = absurd i
  operator_kind (cell l e r) kind i h = absurd i
  operator_kind anything kind i h = absurd i
  operator_kind (observed f) kind i h = absurd i

  some_there : {X : Type 0} (xs : List X) (n : ℕ) → n < length xs → (x : X) × (slice_get xs n ≡ Some x)
  some_there [] n h = absurd (omega (arith, h))
  some_there (x ∷ xs) zero h = (x, refl)
  some_there (x ∷ xs) (suc n) h = some_there xs n (omega (arith, h))

  kind_sorted : (f : Fragment) (kind : Kind) → Fits def f [] kind → IsPlain f → IsWalked f → (s : ℕ) × HasKindSort def kind s
  kind_sorted (hole p) kind (a, e, lt, some) plain i =
      let (ph, at) = some_there def.phyla p lt in (ph.sort.0, subst (λ (x : Kind). HasKindSort def x ph.sort.0) (sym e) (ph, at, refl))
  kind_sorted (ending l u) kind (a, e, (k, at, un)) plain i = (k.sort.0, subst (λ (x : Kind). HasKindSort def x k.sort.0) (sym e) (k, at, refl))
  kind_sorted (cell l x r) kind (a, e, k, at, fe, fr, z) plain i = (k.sort.0, subst (λ (y : Kind). HasKindSort def y k.sort.0) (sym e) (k, at, refl))
  kind_sorted (operator o) kind fits plain i = operator_kind (operator o) kind i (kind_fits def (operator o) [] kind fits plain)
  kind_sorted (with_child f t) kind fits plain i = operator_kind (with_child f t) kind i (kind_fits def (with_child f t) [] kind fits plain)
  kind_sorted (with_name f n) kind fits plain i = operator_kind (with_name f n) kind i (kind_fits def (with_name f n) [] kind fits plain)
  kind_sorted (with_number f n) kind fits plain i = operator_kind (with_number f n) kind i (kind_fits def (with_number f n) [] kind fits plain)
  kind_sorted (with_text f n) kind fits plain i = operator_kind (with_text f n) kind i (kind_fits def (with_text f n) [] kind fits plain)
  kind_sorted anything kind fits plain i = absurd i
  kind_sorted (observed f) kind fits plain i = absurd i

  entities_sorted : (g : Entities) → AreEntities def g → (ks : List Key) (ss : List ℕ) → AreSortsOfKeys def ks ss → HaveSorts def.signature (map g ks) ss
  entities_sorted g are [] ss e = subst (HaveSorts def.signature []) (sym e) tt
  entities_sorted g are (k ∷ ks) ss (s, rest, e, (space, at, is), h) =
      subst (HaveSorts def.signature (map g (k ∷ ks))) (sym e) (subst (HasSort def.signature (g k)) is (are.sorted k space at), entities_sorted g are ks rest h)

  scope_front : (f : Fragment) → IsWalked f → is_scope def f ≡ true → IsFront f
  scope_front (operator o) i e = tt
  scope_front (with_child f t) i e = i
  scope_front (with_name f n) i e = i
  scope_front (with_number f n) i e = i
  scope_front (with_text f n) i e = i
  scope_front (hole p) i e = absurd (cc)
  scope_front (ending l u) i e = absurd (cc)
  scope_front (cell l x r) i e = absurd (cc)
  scope_front anything i e = absurd i
  scope_front (observed f) i e = absurd i

  module _ (f : Fragment) (kind : Kind) (fits : Fits def f [] kind) (plain : IsPlain f) (walked : IsWalked f) where
    inside_keys : (n : ℕ) → (sorts : List ℕ) × AreSortsOfKeys def (keys_at def f n) sorts
    inside_keys n = key_sorts_of def (keys_at def f n) (ordered_spaces def (names_inside def (first_children n f)) (first_spaces def n f (spaces_inside def sound f [] kind fits plain)))

    outside_keys : (sorts : List ℕ) × AreSortsOfKeys def (names_of def f) sorts
    outside_keys = key_sorts_of def (names_of def f) (ordered_spaces def (outer_names def f) (spaces_outside def sound f kind fits plain))

    columns_there : (n : ℕ) → (sorts : List ℕ) × AreColumnSorts def f (drop n (kinds_below def f)) (keys_at def f n) sorts
    columns_there n =
        let (v, of_v) = kind_sorted f kind fits plain walked in
        let (below, are_below) = below_sorted f kind fits walked in
        let (others, are_others) = dropped_sorts n (kinds_below def f) below are_below in
        let (entities, are) = inside_keys n in
        ((v ∷ others) ++ entities, record { kind = kind; of_kind = kind_fits def f [] kind fits plain; value = v; kind_sort = of_v; others = others; are_others = are_others; entities = entities; are_entities = are; all = refl })

    closed_there : (sorts : List ℕ) × AreColumnSorts def f [] (names_of def f) sorts
    closed_there =
        let (v, of_v) = kind_sorted f kind fits plain walked in
        let (entities, are) = outside_keys in
        ((v ∷ []) ++ entities, record { kind = kind; of_kind = kind_fits def f [] kind fits plain; value = v; kind_sort = of_v; others = []; are_others = refl; entities = entities; are_entities = are; all = refl })

    -- possible columns have them
    columns_sorted : (n : ℕ) → n ≤ children_count f → (c : Choice (first_children n f)) (columns : List Term) → IsPossibleInside def (first_children n f) c columns
        → (sorts : List ℕ) × AreColumnSorts def f (drop n (kinds_below def f)) (keys_at def f n) sorts × HaveSorts def.signature columns sorts
    columns_sorted n le c columns p =
        let w = node_values f kind fits plain walked n le p.inside c p.value p.seen [] p.holds in
        let (entities, are) = inside_keys n in
        let seen : p.seen ≡ w.seen = w.before_is ∙ append-nil w.seen in
        let whole : columns ≡ (p.value ∷ w.seen) ++ map p.inside (keys_at def f n) = p.columns_are ∙ ap (λ (l : List Term). (p.value ∷ l) ++ map p.inside (keys_at def f n)) seen in (
          (w.sort ∷ w.seen_sorts) ++ entities,
          record { kind = kind; of_kind = kind_fits def f [] kind fits plain; value = w.sort; kind_sort = w.kind_sort; others = w.seen_sorts; are_others = w.are_seen; entities = entities; are_entities = are; all = refl },
          subst (λ (l : List Term). HaveSorts def.signature l ((w.sort ∷ w.seen_sorts) ++ entities)) (sym whole)
              (have_append (p.value ∷ w.seen) (map p.inside (keys_at def f n)) (w.sort ∷ w.seen_sorts) entities (w.value, w.seen_sorted) (entities_sorted p.inside p.entities (keys_at def f n) entities are)),
        )

    closed_sorted : IsFront f → (c : Choice f) (columns : List Term) → IsPossible def f c columns → (sorts : List ℕ) × AreColumnSorts def f [] (names_of def f) sorts × HaveSorts def.signature columns sorts
    closed_sorted i c columns p =
        let all : first_children (children_count f) f ≡ f = all_children def f (all_parts def f kind fits (front_spine f i)) in
        let (d, holds) = subst (λ (x : Fragment). (d : Choice x) × Holds def p.judged.inner x d [] p.value p.seen []) (sym all) (c, p.judged.holds) in
        let w = node_values f kind fits plain walked (children_count f) (omega arith) p.judged.inner d p.value p.seen [] holds in
        let (entities, are) = outside_keys in
        let seen : p.seen ≡ [] = holds_flat def f (real_tree def f [] kind fits plain) p.judged.inner c [] p.value p.seen [] p.judged.holds in
        let whole : columns ≡ (p.value ∷ []) ++ map p.outside (names_of def f) = p.columns_are ∙ ap (λ (l : List Term). (p.value ∷ l) ++ map p.outside (names_of def f)) seen in (
          (w.sort ∷ []) ++ entities,
          record { kind = kind; of_kind = kind_fits def f [] kind fits plain; value = w.sort; kind_sort = w.kind_sort; others = []; are_others = refl; entities = entities; are_entities = are; all = refl },
          subst (λ (l : List Term). HaveSorts def.signature l ((w.sort ∷ []) ++ entities)) (sym whole)
              (have_append (p.value ∷ []) (map p.outside (names_of def f)) (w.sort ∷ []) entities (w.value, tt) (entities_sorted p.outside p.entities (names_of def f) entities are)),
        )

    -- the sorts of a relation's rows are those of possible columns
    shape_sorts : {C : Type 0} (Possible : C → List Term → Type 0) (sorts : List ℕ) (rows : List (List Term)) → IsRelation def.signature sorts Possible rows → (wanted : List Kind) (names : List Key)
        → ((s : List ℕ) × AreColumnSorts def f wanted names s)
        → ((c : C) (columns : List Term) → Possible c columns → (s : List ℕ) × AreColumnSorts def f wanted names s × HaveSorts def.signature columns s)
        → (s : List ℕ) × AreColumnSorts def f wanted names s × ((row : List Term) → IsIn row rows → HaveSorts def.signature row s)
    shape_sorts Possible sorts [] rel wanted names (s, are) have = (s, are, λ row at. elim at [ ])
    shape_sorts Possible sorts (r ∷ rows) rel wanted names there have =
        let shape = rel.shapes r first in
        let (columns, p) = shape.some in
        let (s, are, sorted) = have shape.choice columns p in
        let (g, ground, e) = (shape.exact columns).1 p in
        let same : sorts ≡ s = sorts_same def.signature columns sorts s (subst (λ (l : List Term). HaveSorts def.signature l sorts) (sym e) (sorts_put def.signature g ground.sorted r sorts shape.sorted)) sorted in
        (sorts, subst (AreColumnSorts def f wanted names) (sym same) are, λ row at. (rel.shapes row at).sorted)

    -- the rows of a step's relation may be claimed
    pub step_claimed : (n : ℕ) (rows : List (List Term)) → IsStepRelation def f n rows → AreClaimed def f n rows
    step_claimed n rows (adding m more le (sorts, rel)) =
        let (s, are, sorted) = shape_sorts (IsPossibleInside def (first_children m f)) sorts more rel (drop m (kinds_below def f)) (keys_at def f m) (columns_there m) (columns_sorted m le) in
        record { sorts = s; are_sorts = sorts_adding le are; canonical = λ row at. (rel.shapes row at).canonical; sorted = sorted }
    step_claimed n rows (closing m more e scope (sorts, rel)) =
        let i = scope_front f walked scope in
        let (s, are, sorted) = shape_sorts (IsPossible def f) sorts more rel [] (names_of def f) closed_there (closed_sorted i) in
        record { sorts = s; are_sorts = sorts_closing e are; canonical = λ row at. (rel.shapes row at).canonical; sorted = sorted }
