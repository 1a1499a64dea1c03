-- Changes of the list that a node is.
use Rattle.std.proofs.Common.{◌≡◌, ℕ, zero, suc, ◌<◌, ◌≤◌, Bool, List, [], ◌∷◌, ◌++◌, length, take, drop, Some, refl, ap, sym, subst, ◌∙◌, arith}
use Rattle.psg_grammar.specs.Fragments.{Fragment, cell, operator, children_of}
use Rattle.psg_grammar.specs.Paths.{Path, node_at, change_at, replaced, IsList, inserted, removed, ended}
use Rattle.psg_tree.specs.declared.tree.Part.{Part}
use Rattle.psg_tree.specs.declared.tree.Part.TheVariants.{Sub, Name, Number, Text}
use Rattle.psg_tree.specs.declared.tree.Shape.{Shape}
use Rattle.psg_tree.specs.declared.tree.Shape.TheVariants.{Op, List as ListOf}
use Rattle.psg_tree.specs.Shapes.{with_part, with_parts, list_of, tree_of}
use Rattle.psg_tree.specs.Faults.{IsReplaced}
use Rattle.psg_tree.specs.Edits.{IsLonger, IsShorter, IsEnded, IsInserted, IsRemoved, IsSet}
use Rattle.psg_tree.proofs.Children.{children-shape-list}
use Rattle.psg_tree.proofs.Walks.{change_at-agree}

pub inserted-list_of : (k l : ℕ) (new : Fragment) (es : List Fragment) (u : Bool) → k ≤ length es → list_of l (take k es ++ new ∷ drop k es) u ≡ inserted k new (list_of l es u)
inserted-list_of zero l new [] u h = refl
inserted-list_of zero l new (e ∷ es) u h = refl
inserted-list_of (suc k) l new [] u h = absurd (omega (arith, h))
inserted-list_of (suc k) l new (e ∷ es) u h = ap (λ r. cell l e r) (inserted-list_of k l new es u (omega (arith, h)))

pub removed-list_of : (k l : ℕ) (es : List Fragment) (u : Bool) → k < length es → list_of l (take k es ++ drop (suc k) es) u ≡ removed k (list_of l es u)
removed-list_of k l [] u h = absurd (omega (arith, h))
removed-list_of zero l (e ∷ es) u h = refl
removed-list_of (suc k) l (e ∷ es) u h = ap (λ r. cell l e r) (removed-list_of k l es u (omega (arith, h)))

pub ended-list_of : (l : ℕ) (es : List Fragment) (u v : Bool) → list_of l es u ≡ ended u (list_of l es v)
ended-list_of l [] u v = refl
ended-list_of l (e ∷ es) u v = ap (λ r. cell l e r) (ended-list_of l es u v)

pub IsList-list_of : (l : ℕ) (es : List Fragment) (u : Bool) → IsList (list_of l es u)
IsList-list_of l [] u = tt
IsList-list_of l (e ∷ es) u = tt

not_list-part : (f : Fragment) (p : Part) → IsList (with_part f p) → ⊥
not_list-part f (Sub t) h = h
not_list-part f (Name n) h = h
not_list-part f (Number n) h = h
not_list-part f (Text t) h = h

not_list-parts : (f : Fragment) (ps : List Part) → (IsList f → ⊥) → IsList (with_parts f ps) → ⊥
not_list-parts f [] n h = n h
not_list-parts f (p ∷ ps) n h = not_list-parts (with_part f p) ps (not_list-part f p) h

-- the node that is read is a list, or an operator
pub list_node : (s : Shape) (l : ℕ) (es : List Fragment) (u : Bool) (f : Fragment) → s ≡ ListOf l es u → tree_of s ≡ f → list_of l es u ≡ f
list_node s l es u f e h = sym (ap tree_of e) ∙ h

pub is_list_node : (s : Shape) (l : ℕ) (es : List Fragment) (u : Bool) (f : Fragment) → s ≡ ListOf l es u → tree_of s ≡ f → IsList f
is_list_node s l es u f e h = subst IsList (list_node s l es u f e h) (IsList-list_of l es u)

pub not_list_node : (s : Shape) (o : ℕ) (ps : List Part) (f : Fragment) → s ≡ Op o ps → tree_of s ≡ f → IsList f → ⊥
not_list_node s o ps f e h l = not_list-parts (operator o) ps (λ x. x) (subst IsList (sym h ∙ ap tree_of e) l)

pub longer : (s : Shape) (l : ℕ) (es slice made : List Fragment) (u : Bool) (f new tree : Fragment) (k : ℕ) → s ≡ ListOf l es u → tree_of s ≡ f → slice ≡ es
    → k ≤ length slice → made ≡ take k slice ++ new ∷ drop k slice → tree ≡ list_of l made u → IsLonger f k new tree
longer s l es slice made u f new tree k e h c r m t = record {
  is_list = is_list_node s l es u f e h;
  in_range = omega (arith, r, ap length c, ap length (children-shape-list s l es u f e h));
  made_is =
      t ∙ ap (λ x. list_of l x u) (m ∙ ap (λ x. take k x ++ new ∷ drop k x) c) ∙ inserted-list_of k l new es u (omega (arith, r, ap length c))
      ∙ ap (inserted k new) (list_node s l es u f e h);
}

pub shorter : (s : Shape) (l : ℕ) (es slice made : List Fragment) (u : Bool) (f tree : Fragment) (k : ℕ) → s ≡ ListOf l es u → tree_of s ≡ f → slice ≡ es
    → k < length slice → made ≡ take k slice ++ drop (suc k) slice → tree ≡ list_of l made u → IsShorter f k tree
shorter s l es slice made u f tree k e h c r m t = record {
  is_list = is_list_node s l es u f e h;
  in_range = omega (arith, r, ap length c, ap length (children-shape-list s l es u f e h));
  made_is =
      t ∙ ap (λ x. list_of l x u) (m ∙ ap (λ x. take k x ++ drop (suc k) x) c) ∙ removed-list_of k l es u (omega (arith, r, ap length c))
      ∙ ap (removed k) (list_node s l es u f e h);
}

pub newly_ended : (s : Shape) (l : ℕ) (es made : List Fragment) (u v : Bool) (f tree : Fragment) → s ≡ ListOf l es u → tree_of s ≡ f
    → made ≡ es → tree ≡ list_of l made v → IsEnded f v tree
newly_ended s l es made u v f tree e h m t = record {
  is_list = is_list_node s l es u f e h;
  made_is = t ∙ ap (λ x. list_of l x v) m ∙ ended-list_of l es v u ∙ ap (ended v) (list_node s l es u f e h);
}

-- the elements are as many as the children
pub count_node : (s : Shape) (l : ℕ) (es slice : List Fragment) (u : Bool) (f : Fragment) → s ≡ ListOf l es u → tree_of s ≡ f → slice ≡ es → length (children_of f) ≡ length slice
count_node s l es slice u f e h c = ap length (children-shape-list s l es u f e h ∙ sym c)

-- the changed node is put in the place of the old one
pub changed_there : (g : Fragment → Fragment) (f node changed made : Fragment) (path : Path) → Some node ≡ node_at f path → changed ≡ g node → made ≡ replaced path changed f → made ≡ change_at g path f
changed_there g f node changed made path s c m = m ∙ change_at-agree (λ old. changed) g path f node (sym s) c

pub is_inserted : (f node changed new : Fragment) (path : Path) (k : ℕ) → Some node ≡ node_at f path → IsLonger node k new changed → (made : Fragment) → IsReplaced f path changed made → IsInserted f path k new made
is_inserted f node changed new path k s l made r = record {
  list = node;
  is_there = sym s;
  is_list = l.is_list;
  in_range = l.in_range;
  made_is = changed_there (inserted k new) f node changed made path s l.made_is r.1;
}

pub is_removed : (f node changed : Fragment) (path : Path) (k : ℕ) → Some node ≡ node_at f path → IsShorter node k changed → (made : Fragment) → IsReplaced f path changed made → IsRemoved f path k made
is_removed f node changed path k s l made r = record {
  list = node;
  is_there = sym s;
  is_list = l.is_list;
  in_range = l.in_range;
  made_is = changed_there (removed k) f node changed made path s l.made_is r.1;
}

pub is_set : (f node changed : Fragment) (path : Path) (u : Bool) → Some node ≡ node_at f path → IsEnded node u changed → (made : Fragment) → IsReplaced f path changed made → IsSet f path u made
is_set f node changed path u s l made r = record {
  list = node;
  is_there = sym s;
  is_list = l.is_list;
  made_is = changed_there (ended u) f node changed made path s l.made_is r.1;
}
