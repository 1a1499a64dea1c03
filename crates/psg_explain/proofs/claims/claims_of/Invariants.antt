use Rattle.std.proofs.Common.{◌≡◌, [], List, map}
use Rattle.psg_explain.specs.Claiming.{AreClaims, MayClaimAll}
use Rattle.psg_explain.specs.Plans.{Step, rows_claimed}
use Rattle.psg_explain.specs.Sources.{AreStages}
use Rattle.psg_explain.proofs.claims.claims_of.Given as goal

-- what is yielded is claimed
abbrev pub invariant-loop-own : goal.invariant-loop-own
invariant-loop-own l =
    (map rows_claimed l.claims.items ≡ l.yielded)
    × ((steps : List Step) → AreStages l.definition l.stages steps → MayClaimAll l.definition [] steps l.fn.rows.items → AreClaims l.definition [] steps l.claims.items)
