use Rattle.std.proofs.Common.{◌∷◌, take, List}
use Rattle.psg_grammar.specs.declared.types.Kind.{Kind}
use Rattle.psg_covering.specs.Choices.{Fits}
use Rattle.psg_covering.specs.Fronts.{Adds}
use Rattle.psg_covering.proofs.Adding.{AreCoveredBy}
use Rattle.psg_covering.proofs.choosing.add_choices.Given as goal

abbrev pub invariant-loop-i : goal.invariant-loop-i
invariant-loop-i l = (ks : List Kind) → Fits l.definition l.fn.kind (l.fn.slot ∷ ks) l.row
    → Adds l.definition l.fn.kind ks l.fn.next.rows.items l.next.rows.items (AreCoveredBy l.definition l.fn.kind l.fn.slot ks l.row (take l.i l.numbers))
