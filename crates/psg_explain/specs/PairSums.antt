-- The rows of steps, each with the number of pairs of rows of which it is made.
use Rattle.std.specs.Prelude.{List, [], ◌∷◌, ◌++◌}
use Rattle.psg_terms.specs.Terms.{Term}
use Rattle.psg_grammar.specs.declared.types.Definition.{Definition}
use Rattle.psg_explain.specs.Explanations.{Made}
use Rattle.psg_explain.specs.Plans.{Step, pairs_of}

-- where the steps before have these rows
abbrev pub made_from : Definition → List (List (List Term)) → List Step → List (List (List Term)) → List Made
made_from def now [] rows = []
made_from def now (s ∷ steps) [] = []
made_from def now (s ∷ steps) (r ∷ rows) =
    record { rows = r; pairs = pairs_of def s.origin now } ∷ made_from def (now ++ r ∷ []) steps rows
