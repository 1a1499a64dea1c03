-- What the nodes of a tree of the program are made of.
use Rattle.std.proofs.Common.{◌≡◌, ℕ, Bool, List, [], ◌∷◌, ◌++◌, Some, None, refl, ap, sym, ◌∙◌, append_assoc, append-nil}
use Rattle.psg_grammar.specs.Fragments.{Fragment, operator, top_operator}
use Rattle.psg_tree.specs.declared.tree.Part.{Part}
use Rattle.psg_tree.specs.declared.tree.Part.TheVariants.{Sub, Name, Number, Text}
use Rattle.psg_tree.specs.declared.tree.Shape.{Shape}
use Rattle.psg_tree.specs.declared.tree.Shape.TheVariants.{Op, List as ListOf}
use Rattle.psg_tree.specs.Shapes.{with_part, with_parts, list_of, tree_of}
use Rattle.psg_self.specs.NodeParts.{node_parts, elements_of}

parts-one : (f : Fragment) (p : Part) → node_parts (with_part f p) ≡ node_parts f ++ p ∷ []
parts-one f (Sub t) = refl
parts-one f (Name n) = refl
parts-one f (Number n) = refl
parts-one f (Text t) = refl

parts-all : (f : Fragment) (ps : List Part) → node_parts (with_parts f ps) ≡ node_parts f ++ ps
parts-all f [] = sym (append-nil (node_parts f))
parts-all f (p ∷ ps) =
    parts-all (with_part f p) ps ∙ ap (λ x. x ++ ps) (parts-one f p) ∙ append_assoc (node_parts f) (p ∷ []) ps

parts-list : (l : ℕ) (es : List Fragment) (u : Bool) → node_parts (list_of l es u) ≡ []
parts-list l [] u = refl
parts-list l (e ∷ es) u = refl

pub operator-parts : (s : Shape) (o : ℕ) (ps : List Part) (f : Fragment) (slice : List Part) → s ≡ Op o ps → slice ≡ ps
    → tree_of s ≡ f → slice ≡ node_parts f
operator-parts s o ps f slice is same read =
    same ∙ sym (parts-all (operator o) ps) ∙ ap node_parts (sym (ap tree_of is) ∙ read)

pub list-parts : (s : Shape) (l : ℕ) (es : List Fragment) (u : Bool) (f : Fragment) → s ≡ ListOf l es u → tree_of s ≡ f
    → ◌≡◌ {A = List Part} [] (node_parts f)
list-parts s l es u f is read = sym (parts-list l es u) ∙ ap node_parts (sym (ap tree_of is) ∙ read)

elements-all : (l : ℕ) (es : List Fragment) (u : Bool) → elements_of (list_of l es u) ≡ es
elements-all l [] u = refl
elements-all l (e ∷ es) u = ap (λ x. e ∷ x) (elements-all l es u)

pub list-elements : (s : Shape) (l : ℕ) (es : List Fragment) (u : Bool) (f : Fragment) (slice : List Fragment)
    → s ≡ ListOf l es u → slice ≡ es → tree_of s ≡ f → slice ≡ elements_of f
list-elements s l es u f slice is same read =
    same ∙ sym (elements-all l es u) ∙ ap elements_of (sym (ap tree_of is) ∙ read)

no-elements : (f : Fragment) (p : Part) → elements_of (with_part f p) ≡ []
no-elements f (Sub t) = refl
no-elements f (Name n) = refl
no-elements f (Number n) = refl
no-elements f (Text t) = refl

none-below : (f : Fragment) (ps : List Part) → elements_of f ≡ [] → elements_of (with_parts f ps) ≡ []
none-below f [] h = h
none-below f (p ∷ ps) h = none-below (with_part f p) ps (no-elements f p)

pub operator-elements : (s : Shape) (o : ℕ) (ps : List Part) (f : Fragment) → s ≡ Op o ps → tree_of s ≡ f
    → ◌≡◌ {A = List Fragment} [] (elements_of f)
operator-elements s o ps f is read =
    sym (none-below (operator o) ps refl) ∙ ap elements_of (sym (ap tree_of is) ∙ read)

top-one : (f : Fragment) (p : Part) → top_operator (with_part f p) ≡ top_operator f
top-one f (Sub t) = refl
top-one f (Name n) = refl
top-one f (Number n) = refl
top-one f (Text t) = refl

top-all : (f : Fragment) (ps : List Part) → top_operator (with_parts f ps) ≡ top_operator f
top-all f [] = refl
top-all f (p ∷ ps) = top-all (with_part f p) ps ∙ top-one f p

pub operator-top : (s : Shape) (o : ℕ) (ps : List Part) (f : Fragment) → s ≡ Op o ps → tree_of s ≡ f
    → Some o ≡ top_operator f
operator-top s o ps f is read = sym (top-all (operator o) ps) ∙ ap top_operator (sym (ap tree_of is) ∙ read)

top-list : (l : ℕ) (es : List Fragment) (u : Bool) → top_operator (list_of l es u) ≡ None
top-list l [] u = refl
top-list l (e ∷ es) u = refl

pub list-top : (s : Shape) (l : ℕ) (es : List Fragment) (u : Bool) (f : Fragment) → s ≡ ListOf l es u → tree_of s ≡ f
    → None ≡ top_operator f
list-top s l es u f is read = sym (top-list l es u) ∙ ap top_operator (sym (ap tree_of is) ∙ read)
