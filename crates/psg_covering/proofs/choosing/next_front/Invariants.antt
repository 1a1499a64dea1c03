use Rattle.std.proofs.Common.{[], ◌∷◌, take, List}
use Rattle.psg_grammar.specs.declared.types.Kind.{Kind}
use Rattle.psg_covering.specs.Fronts.{Adds, AllCovered, AllFit}
use Rattle.psg_covering.proofs.choosing.next_front.Given as goal

abbrev pub invariant-loop-i : goal.invariant-loop-i
invariant-loop-i l = (ks : List Kind) → AllFit l.definition l.fn.kind (l.fn.slot ∷ ks) l.front
    → Adds l.definition l.fn.kind ks [] l.next.rows.items (AllCovered l.definition l.fn.kind (l.fn.slot ∷ ks) (take l.i l.front))
