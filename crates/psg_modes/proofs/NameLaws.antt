-- The names of a node are those among its parts.
use Rattle.std.proofs.Common.{◌≡◌, ℕ, Bool, List, [], ◌∷◌, ◌++◌, refl, ap, sym, ◌∙◌, append_assoc, append-nil}
use Rattle.psg_terms.specs.Names.{Name as Word}
use Rattle.psg_grammar.specs.Fragments.{Fragment, operator}
use Rattle.psg_tree.specs.declared.tree.Part.{Part}
use Rattle.psg_tree.specs.declared.tree.Part.TheVariants.{Sub, Name, Number, Text}
use Rattle.psg_tree.specs.declared.tree.Shape.{Shape}
use Rattle.psg_tree.specs.declared.tree.Shape.TheVariants.{Op, List as ListOf}
use Rattle.psg_tree.specs.Shapes.{list_of, tree_of, with_part, with_parts}
use Rattle.psg_modes.specs.Wrong.{name_in, names_in, names_of}

names_with : (f : Fragment) (p : Part) → names_of (with_part f p) ≡ names_of f ++ name_in p
names_with f (Sub t) = sym (append-nil (names_of f))
names_with f (Name x) = refl
names_with f (Number x) = sym (append-nil (names_of f))
names_with f (Text x) = sym (append-nil (names_of f))

names_along : (f : Fragment) (ps : List Part) → names_of (with_parts f ps) ≡ names_of f ++ names_in ps
names_along f [] = sym (append-nil (names_of f))
names_along f (p ∷ ps) =
    names_along (with_part f p) ps ∙ ap (λ xs. xs ++ names_in ps) (names_with f p)
    ∙ append_assoc (names_of f) (name_in p) (names_in ps)

list_none : (l : ℕ) (es : List Fragment) (u : Bool) → [] ≡ names_of (list_of l es u)
list_none l [] u = refl
list_none l (e ∷ es) u = refl

module _ (s : Shape) (f : Fragment) (e : tree_of s ≡ f) where
  pub op_names : (names : List Word) (o : ℕ) (ps : List Part) → s ≡ Op o ps → names ≡ names_in ps → names ≡ names_of f
  op_names names o ps is h =
      h ∙ sym (names_along (operator o) ps) ∙ ap names_of (ap tree_of (sym is) ∙ e)

  pub list_names : (l : ℕ) (es : List Fragment) (u : Bool) → s ≡ ListOf l es u → [] ≡ names_of f
  list_names l es u is = list_none l es u ∙ ap names_of (ap tree_of (sym is) ∙ e)
