use Rattle.std.proofs.Common.{◌≡◌, ◌+◌, ◌-◌, ◌^◌, ◌≤◌, [], List, min}
use Rattle.psg_grammar.specs.declared.types.Definition.{Definition}
use Rattle.psg_explain.specs.Explanations.{all_pairs_in}
use Rattle.psg_explain.specs.PairSums.{made_from}
use Rattle.psg_explain.specs.Plans.{Step}
use Rattle.psg_explain.specs.Sources.{AreStages}
use Rattle.psg_explain.proofs.SumLaws.{rest_sum}
use Rattle.psg_explain.proofs.counting_pairs.pairs_in.Given as goal

abbrev pub invariant-loop-i : goal.invariant-loop-i
invariant-loop-i l = (l.pairs ≤ 2 ^ 128 - 1) × ((def : Definition) (steps : List Step) → AreStages def l.stages steps
    → min (l.pairs + rest_sum def steps l.rows l.i) (2 ^ 128 - 1) ≡ min (all_pairs_in (made_from def [] steps l.rows)) (2 ^ 128 - 1))
