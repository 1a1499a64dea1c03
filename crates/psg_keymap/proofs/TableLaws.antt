-- What the table of keys looks at: the top of a node, and the list above a path.
use Rattle.std.proofs.Common.{◌≡◌, ℕ, zero, suc, ◌+◌, ◌||◌, Bool, true, false, cond, List, [], ◌∷◌, ◌++◌, length}
use Rattle.std.proofs.Common.{Option, Some, None, refl, ap, ap₂, sym, ◌∙◌, subst, arith}
use Rattle.psg_grammar.specs.declared.types.Definition.{Definition}
use Rattle.psg_grammar.specs.Fragments.{Fragment, children_of, operator}
use Rattle.psg_grammar.specs.Lookups.{operator_at}
use Rattle.psg_grammar.specs.Paths.{Path, node_at}
use Rattle.psg_tree.specs.declared.tree.Part.{Part}
use Rattle.psg_tree.specs.declared.tree.Part.TheVariants.{Sub, Name, Number, Text}
use Rattle.psg_tree.specs.declared.tree.Shape.{Shape}
use Rattle.psg_tree.specs.declared.tree.Shape.TheVariants.{Op, List as ListOf, Hole}
use Rattle.psg_tree.specs.Shapes.{list_of, tree_of, with_part, with_parts}
use Rattle.psg_face.specs.Moves.{is_open_list, last_step, parent_of}
use Rattle.psg_face.proofs.MoveLaws.{parent_push}
use Rattle.psg_places.specs.Places.{declares_by, has_no_placeholder, is_hole, is_list, operator_of}
use Rattle.psg_places.proofs.OpeningLaws.{op_fixed, op_is_no_hole, list_is_no_hole}
use Rattle.psg_keymap.specs.Table.{count_of, is_list_at, is_removed, list_above}

-- ---- the top of a node

no_list : (f : Fragment) (ps : List Part) → is_list f ≡ false → is_list (with_parts f ps) ≡ false
no_list f [] e = e
no_list f (Sub t ∷ ps) e = no_list (with_part f (Sub t)) ps refl
no_list f (Name x ∷ ps) e = no_list (with_part f (Name x)) ps refl
no_list f (Number x ∷ ps) e = no_list (with_part f (Number x)) ps refl
no_list f (Text x ∷ ps) e = no_list (with_part f (Text x)) ps refl

not_open : (f : Fragment) (ps : List Part) → is_open_list f ≡ false → is_open_list (with_parts f ps) ≡ false
not_open f [] e = e
not_open f (Sub t ∷ ps) e = not_open (with_part f (Sub t)) ps refl
not_open f (Name x ∷ ps) e = not_open (with_part f (Name x)) ps refl
not_open f (Number x ∷ ps) e = not_open (with_part f (Number x)) ps refl
not_open f (Text x ∷ ps) e = not_open (with_part f (Text x)) ps refl

list_is : (l : ℕ) (es : List Fragment) (u : Bool) → true ≡ is_list (list_of l es u)
list_is l [] u = refl
list_is l (e ∷ es) u = refl

list_ends : (l : ℕ) (es : List Fragment) (u : Bool) → u ≡ is_open_list (list_of l es u)
list_ends l [] u = refl
list_ends l (e ∷ es) u = list_ends l es u

list_counts : (l : ℕ) (es : List Fragment) (u : Bool) → length es ≡ length (children_of (list_of l es u))
list_counts l [] u = refl
list_counts l (e ∷ es) u = ap suc (list_counts l es u)

module _ (s : Shape) (f : Fragment) (e : tree_of s ≡ f) where
  module _ (o : ℕ) (ps : List Part) (is : s ≡ Op o ps) where
    op : with_parts (operator o) ps ≡ f
    op = ap tree_of (sym is) ∙ e

    pub op_list : false ≡ is_list f
    op_list = sym (no_list (operator o) ps refl) ∙ ap is_list op

    pub op_count : 0 ≡ count_of f
    op_count = ap (λ b. cond b (length (children_of f)) 0) op_list

    pub op_hole : false ≡ is_hole f
    op_hole = op_is_no_hole o ps ∙ ap is_hole op

    pub op_open : false ≡ is_open_list f
    op_open = sym (not_open (operator o) ps refl) ∙ ap is_open_list op

    pub op_removed : (def : Definition) (r : Bool) → r ≡ declares_by def (operator_at def o) → r ≡ is_removed def f
    op_removed def r h = h ∙ op_fixed def o ps ∙ ap₂ (λ a b. a || b) op_hole (ap (has_no_placeholder def) op)

  module _ (l : ℕ) (es : List Fragment) (u : Bool) (is : s ≡ ListOf l es u) where
    the_list : list_of l es u ≡ f
    the_list = ap tree_of (sym is) ∙ e

    pub list_list : true ≡ is_list f
    list_list = list_is l es u ∙ ap is_list the_list

    pub list_hole : false ≡ is_hole f
    list_hole = list_is_no_hole l es u ∙ ap is_hole the_list

    pub list_removed : (def : Definition) → true ≡ is_removed def f
    list_removed def = ap₂ (λ a b. a || (b || declares_by def (operator_of def f))) list_hole list_list

    pub list_open : u ≡ is_open_list f
    list_open = list_ends l es u ∙ ap is_open_list the_list

    pub list_count : length es ≡ count_of f
    list_count =
        list_counts l es u ∙ ap (λ t. length (children_of t)) the_list
        ∙ ap (λ b. cond b (length (children_of f)) 0) list_list

-- ---- the list above a path

last_push : (l : ℕ) (front : Path) (k : ℕ) → last_step l (front ++ k ∷ []) ≡ k
last_push l [] k = refl
last_push l (m ∷ front) k = last_push m front k

above_push : (f : Fragment) (front : Path) (k : ℕ) → list_above f (front ++ k ∷ [])
    ≡ cond (is_list_at (node_at f front)) (Some (front, k)) None
above_push f [] k = refl
above_push f (l ∷ front) k =
    ap₂ (λ p m. cond (is_list_at (node_at f p)) (Some (p, m)) None) (parent_push (l ∷ front) k) (last_push l front k)

pub above_is : (f : Fragment) (path front : Path) (k : ℕ) (spot : Option (Path × ℕ)) → path ≡ front ++ k ∷ []
    → spot ≡ cond (is_list_at (node_at f front)) (Some (front, k)) None → spot ≡ list_above f path
above_is f path front k spot p h = h ∙ sym (above_push f front k) ∙ ap (list_above f) (sym p)
