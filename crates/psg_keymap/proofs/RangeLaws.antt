-- The word between two elements of a list.
use Rattle.std.proofs.Common.{◌≡◌, ℕ, Bool, List, [], ◌∷◌, Option, Some, None, slice_get, option_and_then, refl, ap}
use Rattle.std.proofs.Common.{sym, ◌∙◌}
use Rattle.psg_grammar.specs.declared.types.Definition.{Definition}
use Rattle.psg_grammar.specs.declared.types.ListKind.{ListKind}
use Rattle.psg_grammar.specs.Fragments.{Fragment, operator}
use Rattle.psg_grammar.specs.Paths.{Path, node_at}
use Rattle.psg_tree.specs.declared.tree.Part.{Part}
use Rattle.psg_tree.specs.declared.tree.Part.TheVariants.{Sub, Name, Number, Text}
use Rattle.psg_tree.specs.declared.tree.Shape.{Shape}
use Rattle.psg_tree.specs.declared.tree.Shape.TheVariants.{Op, List as ListOf, Hole}
use Rattle.psg_tree.specs.Shapes.{list_of, tree_of, with_part, with_parts}
use Rattle.psg_keymap.specs.Ranges.{list_number, separator_by, separator_of}

number_list : (l : ℕ) (es : List Fragment) (u : Bool) → list_number (list_of l es u) ≡ Some l
number_list l [] u = refl
number_list l (e ∷ es) u = refl

no_number : (f : Fragment) (ps : List Part) → list_number f ≡ None → list_number (with_parts f ps) ≡ None
no_number f [] e = e
no_number f (Sub t ∷ ps) e = no_number (with_part f (Sub t)) ps refl
no_number f (Name x ∷ ps) e = no_number (with_part f (Name x)) ps refl
no_number f (Number x ∷ ps) e = no_number (with_part f (Number x)) ps refl
no_number f (Text x ∷ ps) e = no_number (with_part f (Text x)) ps refl

module _ (def : Definition) (tree node : Fragment) (path : Path) (s : Shape) where
  module _ (at : node_at tree path ≡ Some node) (shape : tree_of s ≡ node) where
    by_number : (o : Option ℕ) (r : Option ListKind) → list_number node ≡ o
        → option_and_then (slice_get def.lists) o ≡ r → separator_by r ≡ separator_of def tree path
    by_number o r number found =
        sym (ap (λ (q : Option Fragment). separator_by
        (option_and_then (slice_get def.lists) (option_and_then list_number q))) at
        ∙ ap (λ (n : Option ℕ). separator_by (option_and_then (slice_get def.lists) n)) number ∙ ap separator_by found)

    pub separator_is : (l : ℕ) (es : List Fragment) (u : Bool) (lists : List ListKind) (r : Option ListKind)
        → s ≡ ListOf l es u → lists ≡ def.lists → slice_get lists l ≡ r → separator_by r ≡ separator_of def tree path
    separator_is l es u lists r is same got =
        by_number (Some l) r (ap list_number (sym shape ∙ ap tree_of is) ∙ number_list l es u)
        (ap (λ (x : List ListKind). slice_get x l) (sym same) ∙ got)

    pub no_separator : (o : ℕ) (ps : List Part) → s ≡ Op o ps → ◌≡◌ {A = List ℕ} [] (separator_of def tree path)
    no_separator o ps is =
        by_number None None (ap list_number (sym shape ∙ ap tree_of is) ∙ no_number (operator o) ps refl) refl
