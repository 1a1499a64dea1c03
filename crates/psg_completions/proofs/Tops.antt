-- The operator at the top of a tree and its items.
use Rattle.std.proofs.Common.{◌≡◌, inl, inr, ℕ, ◌+◌, false, List, [], ◌∷◌, ◌++◌, length, slice_get, Some, refl, ap, ap₂, sym, ◌∙◌, subst, arith, append_assoc}
use Rattle.psg_terms.proofs.Lists.{slice_get-middle}
use Rattle.std.specs.Option.{option_and_then}
use Rattle.psg_grammar.specs.declared.types.Kind.{Kind}
use Rattle.psg_grammar.specs.declared.types.Item.{Item}
use Rattle.psg_grammar.specs.declared.types.Operator.{Operator}
use Rattle.psg_grammar.specs.declared.types.Definition.{Definition}
use Rattle.psg_grammar.specs.Fragments.{Fragment, hole, ending, cell, operator, with_child, with_name, with_number, with_text, anything, observed, top_operator, parts_count}
use Rattle.psg_grammar.specs.Lookups.{is_scope, operator_at, next_item, items_of, part_items}
use Rattle.psg_grammar.specs.WellFormed.{Fits}
use Rattle.psg_grammar.specs.declared.types.Kind.TheVariants as kinds
use Rattle.psg_grammar.specs.declared.types.Item.TheVariants as items

module _ (def : Definition) where
  -- an operator's node, with or without parts
  abbrev pub IsNode : Fragment → Type 0
  IsNode (operator o) = Unit {0}
  IsNode (with_child f t) = Unit {0}
  IsNode (with_name f n) = Unit {0}
  IsNode (with_number f n) = Unit {0}
  IsNode (with_text f n) = Unit {0}
  IsNode (observed f) = IsNode f
  IsNode _ = ⊥

  -- before a part stands a node
  pub node_before : (f : Fragment) (i : Item) (more : List Item) (kind : Kind) → Fits def f (i ∷ more) kind → IsNode f
  node_before (hole p) i more kind h = let e : i ∷ more ≡ [] = h.0 in cc
  node_before (ending l u) i more kind h = let e : i ∷ more ≡ [] = h.0 in cc
  node_before (cell l e r) i more kind h = let d : i ∷ more ≡ [] = h.0 in cc
  node_before (operator o) i more kind h = tt
  node_before (with_child f t) i more kind h = tt
  node_before (with_name f n) i more kind h = tt
  node_before (with_number f n) i more kind h = tt
  node_before (with_text f n) i more kind h = tt
  node_before anything i more kind h = absurd h
  node_before (observed f) i more kind h = let e : i ∷ more ≡ [] = h.0 in cc

  -- a node is no list
  node_phylum : (f : Fragment) (more : List Item) (l : ℕ) → IsNode f → Fits def f more (kinds.List l) → ⊥
  node_phylum (hole p) more l n h = absurd n
  node_phylum (ending k u) more l n h = absurd n
  node_phylum (cell k e r) more l n h = absurd n
  node_phylum (operator o) more l n (op, found, m, e) = cc
  node_phylum (with_child f t) more l n (k, hf, ht) =
      node_phylum f (items.Slot k ∷ more) l (node_before f (items.Slot k) more (kinds.List l) hf) hf
  node_phylum (with_name f x) more l n (inl (sp, hf), name) =
      node_phylum f (items.Refers sp ∷ more) l (node_before f (items.Refers sp) more (kinds.List l) hf) hf
  node_phylum (with_name f x) more l n (inr (sp, hf), name) =
      node_phylum f (items.Declares sp ∷ more) l (node_before f (items.Declares sp) more (kinds.List l) hf) hf
  node_phylum (with_number f x) more l n (hf, small) =
      node_phylum f (items.Number ∷ more) l (node_before f items.Number more (kinds.List l) hf) hf
  node_phylum (with_text f x) more l n (hf, text) =
      node_phylum f (items.Text ∷ more) l (node_before f items.Text more (kinds.List l) hf) hf
  node_phylum anything more l n h = absurd h
  node_phylum (observed f) more l n h = node_phylum f [] l n h.1

  -- no list is a scope operator
  pub list_no_scope : (t : Fragment) (l : ℕ) → Fits def t [] (kinds.List l) → is_scope def t ≡ false
  list_no_scope (hole p) l h = refl
  list_no_scope (ending k u) l h = refl
  list_no_scope (cell k e r) l h = refl
  list_no_scope (operator o) l h = absurd (node_phylum (operator o) [] l tt h)
  list_no_scope (with_child f t) l h = absurd (node_phylum (with_child f t) [] l tt h)
  list_no_scope (with_name f n) l h = absurd (node_phylum (with_name f n) [] l tt h)
  list_no_scope (with_number f n) l h = absurd (node_phylum (with_number f n) [] l tt h)
  list_no_scope (with_text f n) l h = absurd (node_phylum (with_text f n) [] l tt h)
  list_no_scope anything l h = absurd h
  list_no_scope (observed f) l h = list_no_scope f l h.1

  -- the operator at the top, with the items of the parts that are there and those that follow
  pub record Top (f : Fragment) (more : List Item) (kind : Kind) : Type 0 where
    pub number : ℕ
    pub op : Operator
    pub top : top_operator f ≡ Some number
    pub found : slice_get def.operators number ≡ Some op
    pub kind_is : kind ≡ kinds.Phylum op.phylum
    pub front : List Item
    pub parts : part_items op.items ≡ front ++ more
    pub so_many : length front ≡ parts_count f

  one_more : (f f' : Fragment) (i : Item) (more : List Item) (kind : Kind) → top_operator f' ≡ top_operator f
      → parts_count f' ≡ parts_count f + 1 → Top f (i ∷ more) kind → Top f' more kind
  one_more f f' i more kind same count t = record {
    number = t.number;
    op = t.op;
    top = same ∙ t.top;
    found = t.found;
    kind_is = t.kind_is;
    front = t.front ++ i ∷ [];
    parts = t.parts ∙ sym (append_assoc t.front (i ∷ []) more);
    so_many = longer t.front ∙ ap (λ n. n + 1) t.so_many ∙ sym count;
  } where
    longer : (xs : List Item) → length (xs ++ i ∷ []) ≡ length xs + 1
    longer [] = refl
    longer (x ∷ xs) = let d : length (xs ++ i ∷ []) ≡ length xs + 1 = longer xs in omega (arith, d)

  pub top_of : (f : Fragment) (more : List Item) (kind : Kind) → IsNode f → Fits def f more kind → Top f more kind
  top_of (hole p) more kind n w = absurd n
  top_of (ending l u) more kind n w = absurd n
  top_of (cell l e r) more kind n w = absurd n
  top_of (operator o) more kind n (op, found, m, k) =
      record { number = o; op = op; top = refl; found = found; kind_is = k; front = []; parts = sym m; so_many = refl }
  top_of (with_child f t) more kind n (k, wf, wt) =
      one_more f (with_child f t) (items.Slot k) more kind refl refl
      (top_of f (items.Slot k ∷ more) kind (node_before f (items.Slot k) more kind wf) wf)
  top_of (with_name f x) more kind n (inl (sp, wf), name) =
      one_more f (with_name f x) (items.Refers sp) more kind refl refl
      (top_of f (items.Refers sp ∷ more) kind (node_before f (items.Refers sp) more kind wf) wf)
  top_of (with_name f x) more kind n (inr (sp, wf), name) =
      one_more f (with_name f x) (items.Declares sp) more kind refl refl
      (top_of f (items.Declares sp ∷ more) kind (node_before f (items.Declares sp) more kind wf) wf)
  top_of (with_number f x) more kind n (wf, small) =
      one_more f (with_number f x) items.Number more kind refl refl
      (top_of f (items.Number ∷ more) kind (node_before f items.Number more kind wf) wf)
  top_of (with_text f x) more kind n (wf, text) =
      one_more f (with_text f x) items.Text more kind refl refl
      (top_of f (items.Text ∷ more) kind (node_before f items.Text more kind wf) wf)
  top_of anything more kind n w = absurd n
  top_of (observed f) more kind n w =
      let t = top_of f [] kind n w.1 in
      record {
        number = t.number;
        op = t.op;
        top = t.top;
        found = t.found;
        kind_is = t.kind_is;
        front = t.front;
        parts = subst (λ m. part_items t.op.items ≡ t.front ++ m) (sym w.0) t.parts;
        so_many = t.so_many;
      }

  -- the item of the next part
  pub next_is : (f : Fragment) (i : Item) (more : List Item) (kind : Kind) → Fits def f (i ∷ more) kind
      → next_item def f ≡ Some i
  next_is f i more kind w =
      let t = top_of f (i ∷ more) kind (node_before f i more kind w) w in
      ap₂ (λ o n. slice_get (items_of (option_and_then (operator_at def) o)) n) t.top (sym t.so_many)
      ∙ ap (λ o. slice_get (items_of o) (length t.front)) t.found ∙ ap (λ l. slice_get l (length t.front)) t.parts
      ∙ slice_get-middle t.front i more
