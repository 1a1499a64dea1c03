-- A list that declares one key twice: no row is possible, for the list and for the step that brings the second one.
use Rattle.std.proofs.Common.{ℕ, false, List, [], refl, true≢false, lit≤}
use Rattle.psg_terms.specs.Terms.{Term}
use Rattle.psg_terms.specs.Relations.{IsRelation}
use Rattle.psg_grammar.specs.Fragments.{Fragment, ending, cell}
use Rattle.psg_grammar.specs.Regions.{IsDistinct}
use Rattle.psg_grammar.specs.Open.{IsOpen}
use Rattle.psg_grammar.specs.Relations.{IsPossible, IsPossibleInside, IsRelationOf}
use Rattle.psg_grammar.specs.Steps.{first_children, IsStepRelation, adding}
use Rattle.psg_grammar.proofs.CaseLanguage.{spaces, sig, one, yes, let_of, block}
use Rattle.psg_tests_languages.proofs.CaseNeeds.{x}

-- `let x = one ; let x = yes`
abbrev twice : Fragment
twice = cell 0 (let_of x one) (cell 0 (let_of x yes) (ending 0 false))

none_distinct : IsDistinct spaces twice → ⊥
none_distinct h = true≢false h.0

twice_is_wrong : IsOpen spaces twice → ⊥
twice_is_wrong h = none_distinct h.distinct

-- nothing is possible, so there is no row
no_rows : (sorts : List ℕ) {C : Type 0} (Possible : C → List Term → Type 0) → ((c : C) (columns : List Term) → Possible c columns → ⊥) → IsRelation sig sorts Possible []
no_rows sorts Possible never = record {
  shapes = λ row h. elim h [ ];
  covers = λ c columns p. absurd (never c columns p);
  apart = λ row other h k i. elim h [ ];
  once = tt;
  order = tt;
}

twice_relation : IsRelationOf spaces twice []
twice_relation = ([], no_rows [] (IsPossible spaces twice) (λ c columns p. none_distinct p.distinct))

-- the first element alone does not declare it twice, the rest does
first_distinct : IsDistinct spaces (first_children 1 twice)
first_distinct = (refl, ((tt, tt, (λ e. refl)), (λ e. refl), tt))

second_step : IsStepRelation spaces twice 2 []
second_step = adding 2 [] (lit≤ tt) ([], no_rows [] (IsPossibleInside spaces twice) (λ c columns p. none_distinct p.distinct))

-- a block round it is wrong too, though its own region declares nothing
block_is_wrong : IsOpen spaces (block twice) → ⊥
block_is_wrong h = true≢false h.distinct.0
