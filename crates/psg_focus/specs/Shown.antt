-- The values of a node, as a question about it is answered.
use Rattle.std.specs.Prelude.{◌≡◌, List, [], ◌∷◌, map, Result, Ok, Err, Vec}
use Rattle.std.specs.declared.alloc.Global.{Global}
use Rattle.psg_terms.specs.Instances.{IsGroundInstance}
use Rattle.psg_terms.specs.Relations.{IsIn}
use Rattle.psg_terms.specs.Terms.{Term}
use Rattle.psg_grammar.specs.declared.types.Definition.{Definition}
use Rattle.psg_grammar.specs.Fragments.{Fragment}
use Rattle.psg_grammar.specs.Paths.{Path}
use Rattle.psg_grammar.specs.Relations.{IsShownRelation}
use Rattle.psg_grammar.specs.Steps.{IsWideAt}
use Rattle.psg_eval.specs.declared.question.FocusFault.{FocusFault}
use Rattle.psg_eval.specs.declared.question.FocusFault.TheVariants as questions

-- each term as a row
abbrev pub rows_of : List Term → List (List Term)
rows_of terms = map (λ t. t ∷ []) terms

-- the value is one of the terms with terms without variables in place of its variables
abbrev pub IsOfSome : Definition → List Term → Term → Type 0
IsOfSome def terms u = (t : Term) × IsIn t terms × IsGroundInstance def.signature (t ∷ []) (u ∷ [])

-- the values at the node as most general terms, where they are not too wide; and they are too wide where the answer
-- says so
abbrev pub IsShown : Definition → Path → Fragment → Result (Vec Term Global) FocusFault → Type 0
IsShown def path f (Ok terms) = IsShownRelation def f path (rows_of terms.items) × (IsWideAt def f path → ⊥)
IsShown def path f (Err questions.Wide) = IsWideAt def f path
IsShown def path f (Err questions.Memory) = Unit {0}

-- the second column of a row
pub record Second (p x : List Term) : Type 0 where
  pub value : Term
  pub seen : Term
  pub others : List Term
  pub row_is : p ≡ value ∷ seen ∷ others
  pub made_is : x ≡ seen ∷ []
