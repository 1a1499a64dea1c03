use Rattle.std.proofs.Common.{All, map}
use Rattle.psg_terms.specs.Instances.{Substitution, substitute}
use Rattle.psg_unify.specs.Pairs.{AgreeOn}
use Rattle.psg_relation.specs.Forcing.{IsFit, IsForced}
use Rattle.psg_relation.proofs.forcing.forced_pairs.Given as goal

abbrev pub invariant-loop-i : goal.invariant-loop-i
invariant-loop-i l = (All (IsFit l.sig) l.lefts.items × All (IsFit l.sig) l.rights.items)
    × (((f g : Substitution) → AgreeOn l.pairs (map (substitute f) l.left) (map (substitute g) l.right) → All (IsForced f) l.lefts.items)
    × ((f g : Substitution) → AgreeOn l.pairs (map (substitute f) l.left) (map (substitute g) l.right) → All (IsForced g) l.rights.items))
