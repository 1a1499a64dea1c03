-- The level that is wanted at a path.
use Rattle.std.proofs.Common.{◌≡◌, Bool, ℕ, List, [], ◌∷◌, ◌++◌, length, Option, Some, None, slice_get, refl, sym, subst, ◌∙◌, arith}
use Rattle.std.specs.Prelude.{option_and_then}
use Rattle.psg_terms.proofs.Lists.{each_at}
use Rattle.psg_grammar.specs.declared.types.Definition.{Definition}
use Rattle.psg_grammar.specs.declared.types.Operator.{Operator}
use Rattle.psg_grammar.specs.Fragments.{Fragment, top_operator}
use Rattle.psg_grammar.specs.Lookups.{operator_at}
use Rattle.psg_grammar.specs.Paths.{node_at}
use Rattle.psg_grammar.specs.Sound.{IsLevel, IsOperator, IsSound}
use Rattle.psg_tree.specs.Shapes.{list_of}
use Rattle.psg_unparse.specs.Rows.{operator_of}
use Rattle.psg_completing.specs.Samples.{IsLeast, below, operator_by, whole}
use Rattle.psg_completing.specs.Wanted.{IsLeastUnder, of_no_operator}

pub level_of : (def : Definition) → IsSound def → (n : ℕ) (o : Operator) → slice_get def.operators n ≡ Some o
    → IsLevel o.level
level_of def sound n o e = (each_at (IsOperator def) def.operators sound.operators n o e).level

pub under_operator : (o : Option Operator) (number least : ℕ) (op : Operator) → o ≡ Some op
    → IsLeastUnder number (Some op) least → IsLeastUnder number o least
under_operator o number least op is h = subst (λ x. IsLeastUnder number x least) (sym is) h

pub under_nothing : (o : Option Operator) (number : ℕ) → o ≡ None → IsLeastUnder number o 0
under_nothing o number is = subst (λ x. IsLeastUnder number x 0) (sym is) of_no_operator

module _ (def : Definition) (number : ℕ) where
  pub under_some : (f : Fragment) (op least : ℕ) (found : Option ℕ) → found ≡ top_operator f → found ≡ Some op
      → IsLeastUnder number (operator_at def op) least → IsLeastUnder number (operator_of def f) least
  under_some f op least found same is h =
      subst (λ o. IsLeastUnder number (option_and_then (operator_at def) o) least) (sym is ∙ same) h

  pub under_none : (f : Fragment) (found : Option ℕ) → found ≡ top_operator f → found ≡ None
      → IsLeastUnder number (operator_of def f) 0
  under_none f found same is =
      subst (λ o. IsLeastUnder number (option_and_then (operator_at def) o) 0) (sym is ∙ same) of_no_operator

  pub below_node : (tree f : Fragment) (path front : List ℕ) (least : ℕ) → path ≡ front ++ number ∷ []
      → node_at tree front ≡ Some f → IsLeastUnder number (operator_of def f) least → IsLeast def tree path least
  below_node tree f path front least e is h =
      subst (λ p. IsLeast def tree p least) (sym e)
      (below front number least (subst (λ o. IsLeastUnder number (operator_by def o) least) (sym is) h))

  pub below_nothing : (tree : Fragment) (path front : List ℕ) → path ≡ front ++ number ∷ []
      → node_at tree front ≡ None → IsLeast def tree path 0
  below_nothing tree path front e is =
      subst (λ p. IsLeast def tree p 0) (sym e)
      (below front number 0 (subst (λ o. IsLeastUnder number (operator_by def o) 0) (sym is) of_no_operator))

pub at_root : (def : Definition) (tree : Fragment) (path : List ℕ) → path ≡ [] → IsLeast def tree path 0
at_root def tree path e = subst (λ p. IsLeast def tree p 0) (sym e) whole

pub no_steps : (path : List ℕ) → length path ≡ 0 → path ≡ []
no_steps [] e = refl
no_steps (k ∷ path) e = absurd (omega (arith, e))

pub no_top : (l : ℕ) (es : List Fragment) (u : Bool) → None ≡ top_operator (list_of l es u)
no_top l [] u = refl
no_top l (e ∷ es) u = refl
