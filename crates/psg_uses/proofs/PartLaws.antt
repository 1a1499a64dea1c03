-- Nodes with one more part.
use Rattle.std.proofs.Common.{◌≡◌, ℕ, ◌+◌, Bool, false, List, [], ◌∷◌, ◌++◌, slice_get, refl, ap, sym, ◌∙◌}
use Rattle.std.specs.Prelude.{option_and_then}
use Rattle.psg_grammar.specs.declared.types.Definition.{Definition}
use Rattle.psg_grammar.specs.Fragments.{Fragment, operator, children_of, top_operator}
use Rattle.psg_grammar.specs.Lookups.{is_scope, operator_at, scopes}
use Rattle.psg_tree.specs.declared.tree.Part.{Part}
use Rattle.psg_tree.specs.declared.tree.Part.TheVariants.{Sub, Name, Number, Text}
use Rattle.psg_tree.specs.Shapes.{list_of, with_part, with_parts}

pub same_children : (f g : Fragment) (p : Part) → children_of f ≡ children_of g
    → children_of (with_part f p) ≡ children_of (with_part g p)
same_children f g (Sub t) e = ap (λ ts. ts ++ t ∷ []) e
same_children f g (Name x) e = e
same_children f g (Number x) e = e
same_children f g (Text x) e = e

top_part : (f : Fragment) (p : Part) → top_operator (with_part f p) ≡ top_operator f
top_part f (Sub t) = refl
top_part f (Name x) = refl
top_part f (Number x) = refl
top_part f (Text x) = refl

pub top_parts : (f : Fragment) (ps : List Part) → top_operator (with_parts f ps) ≡ top_operator f
top_parts f [] = refl
top_parts f (p ∷ ps) = top_parts (with_part f p) ps ∙ top_part f p

pub top_of_parts : (def : Definition) (o : ℕ) (ps : List Part)
    → option_and_then (λ k. slice_get def.operators k) (top_operator (with_parts (operator o) ps)) ≡ slice_get def.operators o
top_of_parts def o ps = ap (option_and_then (λ k. slice_get def.operators k)) (top_parts (operator o) ps)

-- ---- scope operators

pub op_scopes : (def : Definition) (o : ℕ) (ps : List Part) → scopes (operator_at def o) ≡ is_scope def (with_parts (operator o) ps)
op_scopes def o ps = sym (ap scopes (top_of_parts def o ps))

pub list_is_no_scope : (def : Definition) (l : ℕ) (es : List Fragment) (u : Bool) → false ≡ is_scope def (list_of l es u)
list_is_no_scope def l [] u = refl
list_is_no_scope def l (e ∷ es) u = refl
