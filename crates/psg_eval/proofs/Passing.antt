-- Which step passes the limit, by any relation of the step.
use Rattle.std.proofs.Common.{◌≡◌, ℕ, ◌+◌, ◌≤◌, true, List, arith}
use Rattle.psg_terms.specs.Terms.{Term}
use Rattle.psg_terms.specs.Sound.{IsSound}
use Rattle.psg_terms.specs.Relations.{IsRelation}
use Rattle.psg_terms.specs.Weight.{PassesLimit}
use Rattle.psg_grammar.specs.declared.types.Definition.{Definition}
use Rattle.psg_grammar.specs.Fragments.{Fragment}
use Rattle.psg_grammar.specs.Lookups.{is_scope}
use Rattle.psg_grammar.specs.Relations.{IsPossible, IsPossibleInside}
use Rattle.psg_grammar.specs.Steps.{first_children, children_count, IsStepRelation, adding, closing, PassesAt}
use Rattle.psg_eval.proofs.Uniqueness.{same_passes}

module _ (def : Definition) (f : Fragment) where
  pub step_passes : (n : ℕ) (ss : List ℕ) (rows : List (List Term)) → n ≤ children_count f → IsRelation def.signature ss (IsPossibleInside def (first_children n f)) rows → PassesLimit rows → PassesAt def f n
  step_passes n ss rows h rel passes = (rows, adding n rows h (ss, rel), passes)

  stays : IsSound def.signature → (n : ℕ) (ss : List ℕ) (rows others : List (List Term)) → n ≤ children_count f
      → IsRelation def.signature ss (IsPossibleInside def (first_children n f)) rows → (PassesLimit rows → ⊥) → IsStepRelation def f n others → PassesLimit others → ⊥
  stays sound n ss rows others h rel light (adding m some lt (rs, other)) passes = light (same_passes def.signature (IsPossibleInside def (first_children n f)) sound rs ss others rows other rel passes)
  stays sound n ss rows others h rel light (closing m some e scope other) passes = absurd (omega arith)

  pub step_stays : IsSound def.signature → (n : ℕ) (ss : List ℕ) (rows : List (List Term)) → n ≤ children_count f
      → IsRelation def.signature ss (IsPossibleInside def (first_children n f)) rows → (PassesLimit rows → ⊥) → PassesAt def f n → ⊥
  step_stays sound n ss rows h rel light (others, step, passes) = stays sound n ss rows others h rel light step passes

  pub close_passes : (n : ℕ) (ss : List ℕ) (rows : List (List Term)) → n ≡ children_count f + 1 → is_scope def f ≡ true → IsRelation def.signature ss (IsPossible def f) rows → PassesLimit rows → PassesAt def f n
  close_passes n ss rows e scope rel passes = (rows, closing n rows e scope (ss, rel), passes)

  closed : IsSound def.signature → (n : ℕ) (ss : List ℕ) (rows others : List (List Term)) → n ≡ children_count f + 1
      → IsRelation def.signature ss (IsPossible def f) rows → (PassesLimit rows → ⊥) → IsStepRelation def f n others → PassesLimit others → ⊥
  closed sound n ss rows others e rel light (adding m some lt other) passes = absurd (omega arith)
  closed sound n ss rows others e rel light (closing m some _ scope (rs, other)) passes = light (same_passes def.signature (IsPossible def f) sound rs ss others rows other rel passes)

  pub close_stays : IsSound def.signature → (n : ℕ) (ss : List ℕ) (rows : List (List Term)) → n ≡ children_count f + 1
      → IsRelation def.signature ss (IsPossible def f) rows → (PassesLimit rows → ⊥) → PassesAt def f n → ⊥
  close_stays sound n ss rows e rel light (others, step, passes) = closed sound n ss rows others e rel light step passes
