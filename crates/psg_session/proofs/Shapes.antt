-- Nodes by their shapes.
use Rattle.std.proofs.Common.{◌≡◌, inl, inr, ℕ, ◌<◌, Bool, List, [], ◌∷◌, length, get_or, Some, None, slice_get, refl, sym, ◌∙◌, ap, subst}
use Rattle.std.proofs.lemmas.Option.{none-some, slice_get_within, slice_get_read}
use Rattle.psg_unparse.proofs.Items.{top-parts}
use Rattle.psg_grammar.specs.declared.types.Kind.{Kind}
use Rattle.psg_grammar.specs.declared.types.Kind.TheVariants as kinds
use Rattle.psg_grammar.specs.declared.types.Item.{Item}
use Rattle.psg_grammar.specs.declared.types.Item.TheVariants as items
use Rattle.psg_grammar.specs.declared.types.Operator.{Operator}
use Rattle.psg_grammar.specs.declared.types.Definition.{Definition}
use Rattle.psg_grammar.specs.Fragments.{Fragment, hole, ending, cell, operator, with_child, with_name, with_number, with_text, anything, observed, top_operator, children_of}
use Rattle.psg_grammar.specs.Paths.{IsList}
use Rattle.psg_tree.specs.declared.tree.Part.{Part}
use Rattle.psg_tree.specs.declared.tree.Part.TheVariants.{Sub, Name, Number, Text}
use Rattle.psg_tree.specs.declared.tree.Shape.{Shape}
use Rattle.psg_tree.specs.declared.tree.Shape.TheVariants.{Op, List as ListOf, Hole}
use Rattle.psg_tree.specs.Shapes.{with_part, with_parts, list_of, tree_of}
use Rattle.psg_grammar.specs.Kinds.{IsOfKind}
use Rattle.psg_grammar.specs.WellFormed.{Fits, WellFormed}
use Rattle.psg_session.specs.declared.changes.Listed.{Listed}
use Rattle.psg_session.specs.PlainStep.{end_of}
use Rattle.psg_session.specs.Outcomes.{IsListed}

-- what stands in a list at a place that was read from an equal one
pub read_at : {X : Type 0} (xs ys : List X) (i : ℕ) (x : X) → xs ≡ ys → i < length ys → x ≡ get_or xs i x
    → slice_get ys i ≡ Some x
read_at xs ys i x same lt at = slice_get_read ys (length ys) i x refl lt (at ∙ ap (λ zs. get_or zs i x) same)

-- ---- placeholders

no_hole : (l : ℕ) (es : List Fragment) (u : Bool) (p : ℕ) → list_of l es u ≡ hole p → ⊥
no_hole l [] u p e = cc
no_hole l (x ∷ es) u p e = cc

-- a node that is a placeholder has the shape of one
pub hole_shape : (s : Shape) (p : ℕ) → tree_of s ≡ hole p → (q : ℕ) × (s ≡ Hole q)
hole_shape (Op o parts) p e = absurd (none-some o (sym (sym (top-parts (operator o) parts) ∙ ap top_operator e)))
hole_shape (ListOf l es u) p e = absurd (no_hole l es u p e)
hole_shape (Hole q) p e = (q, refl)

-- ---- lists

no_top : (f : Fragment) → IsList f → top_operator f ≡ None
no_top (ending l u) h = refl
no_top (cell l e r) h = refl
no_top (hole p) h = absurd h
no_top (operator o) h = absurd h
no_top (with_child f t) h = absurd h
no_top (with_name f n) h = absurd h
no_top (with_number f n) h = absurd h
no_top (with_text f t) h = absurd h
no_top anything h = absurd h
no_top (observed f) h = absurd h

-- a node that is a list has the shape of one
pub list_shape : (s : Shape) → IsList (tree_of s) → (l : ℕ) × (es : List Fragment) × (u : Bool) × (s ≡ ListOf l es u)
list_shape (Op o parts) h =
    absurd (none-some o (sym (no_top (with_parts (operator o) parts) h) ∙ top-parts (operator o) parts))
list_shape (ListOf l es u) h = (l, es, u, refl)
list_shape (Hole p) h = absurd h

list_children : (l : ℕ) (es : List Fragment) (u : Bool) → children_of (list_of l es u) ≡ es
list_children l [] u = refl
list_children l (x ∷ es) u = ap (λ xs. x ∷ xs) (list_children l es u)

list_end : (l : ℕ) (es : List Fragment) (u : Bool) → end_of (list_of l es u) ≡ Some u
list_end l [] u = refl
list_end l (x ∷ es) u = list_end l es u

list_is : (l : ℕ) (es : List Fragment) (u : Bool) → IsList (list_of l es u)
list_is l [] u = tt
list_is l (x ∷ es) u = tt

module _ (def : Definition) where
  pub list_kind : (l : ℕ) (es : List Fragment) (u : Bool) → IsOfKind def (list_of l es u) (kinds.List l)
  list_kind l [] u = refl
  list_kind l (x ∷ es) u = refl

  list_there : (l : ℕ) (es : List Fragment) (u : Bool) (kind : Kind) → WellFormed def (list_of l es u) kind
      → l < length def.lists
  list_there l [] u kind ((none, is, (k, found, may)), plain) = slice_get_within def.lists l k found
  list_there l (x ∷ es) u kind ((none, is, k, found, fx, fr, z), plain) = slice_get_within def.lists l k found

  -- the number of the list is in range
  pub list_in : (node : Fragment) (s : Shape) (l : ℕ) (es : List Fragment) (u : Bool)
      → ((kind : Kind) × WellFormed def node kind) → tree_of s ≡ node → s ≡ ListOf l es u
      → l < length def.lists
  list_in node s l es u (kind, formed) e is =
      list_there l es u kind (subst (λ x. WellFormed def x kind) (sym e ∙ ap tree_of is) formed)

  pub listed : (node : Fragment) (s : Shape) (l : ℕ) (es : List Fragment) (u : Bool) (x : Listed) → tree_of s ≡ node
      → s ≡ ListOf l es u
      → slice_get def.lists l ≡ Some x.kind.now → x.elements ≡ length es → x.unfinished ≡ u → IsListed def node x
  listed node s l es u x e is found elements unfinished =
      let same : list_of l es u ≡ node = sym (ap tree_of is) ∙ e in
      record {
        kind = (l, subst (λ f. IsOfKind def f (kinds.List l)) same (list_kind l es u), found);
        elements = elements ∙ ap length (sym (list_children l es u) ∙ ap children_of same);
        end = ap end_of (sym same) ∙ list_end l es u ∙ ap Some (sym unfinished);
        is_list = subst IsList same (list_is l es u);
      }

  -- ---- operators

  kind_part : (f : Fragment) (p : Part) (kind : Kind) → IsOfKind def f kind → IsOfKind def (with_part f p) kind
  kind_part f (Sub t) kind h = h
  kind_part f (Name n) kind h = h
  kind_part f (Number n) kind h = h
  kind_part f (Text t) kind h = h

  kind_parts : (f : Fragment) (ps : List Part) (kind : Kind) → IsOfKind def f kind
      → IsOfKind def (with_parts f ps) kind
  kind_parts f [] kind h = h
  kind_parts f (p ∷ ps) kind h = kind_parts (with_part f p) ps kind (kind_part f p kind h)

  shape_below : (f : Fragment) (ps : List Part) (more : List Item) (kind : Kind)
      → Fits def (with_parts f ps) more kind → (rest : List Item) × Fits def f rest kind
  shape_below f [] more kind h = (more, h)
  shape_below f (Sub t ∷ ps) more kind h = let (rest, (k, ff, ft)) = shape_below (with_child f t) ps more kind h in
      (items.Slot k ∷ rest, ff)
  shape_below f (Name n ∷ ps) more kind h =
      let (rest, (either, name)) = shape_below (with_name f n) ps more kind h in
      elim either [ inl r ↦ (items.Refers r.0 ∷ rest, r.1) | inr r ↦ (items.Declares r.0 ∷ rest, r.1) ]
  shape_below f (Number n ∷ ps) more kind h =
      let (rest, (ff, small)) = shape_below (with_number f n) ps more kind h in (items.Number ∷ rest, ff)
  shape_below f (Text t ∷ ps) more kind h = let (rest, (ff, text)) = shape_below (with_text f t) ps more kind h in
      (items.Text ∷ rest, ff)

  -- the number of the operator is in range
  pub operator_in : (node : Fragment) (s : Shape) (o : ℕ) (ps : List Part) → ((kind : Kind) × WellFormed def node kind)
      → tree_of s ≡ node → s ≡ Op o ps → o < length def.operators
  operator_in node s o ps (kind, formed) e is =
      let here : WellFormed def (with_parts (operator o) ps) kind = subst (λ x. WellFormed def x kind)
      (sym e ∙ ap tree_of is) formed in
      let (rest, (op, found, all, same)) = shape_below (operator o) ps [] kind here.0 in
      slice_get_within def.operators o op found

  -- ---- kinds

  pub operator_kind : (node : Fragment) (s : Shape) (o : ℕ) (ps : List Part) (op : Operator) → tree_of s ≡ node
      → s ≡ Op o ps → slice_get def.operators o ≡ Some op
      → IsOfKind def node (kinds.Phylum op.phylum)
  operator_kind node s o ps op e is found =
      subst (λ f. IsOfKind def f (kinds.Phylum op.phylum)) (sym (ap tree_of is) ∙ e)
      (kind_parts (operator o) ps (kinds.Phylum op.phylum) (op, found, refl))

  pub list_node_kind : (node : Fragment) (s : Shape) (l : ℕ) (es : List Fragment) (u : Bool) → tree_of s ≡ node
      → s ≡ ListOf l es u → IsOfKind def node (kinds.List l)
  list_node_kind node s l es u e is =
      subst (λ f. IsOfKind def f (kinds.List l)) (sym (ap tree_of is) ∙ e) (list_kind l es u)

  pub hole_kind : (node : Fragment) (s : Shape) (p : ℕ) → tree_of s ≡ node → s ≡ Hole p
      → IsOfKind def node (kinds.Phylum p)
  hole_kind node s p e is = subst (λ f. IsOfKind def f (kinds.Phylum p)) (sym (ap tree_of is) ∙ e) refl
