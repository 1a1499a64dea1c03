use Rattle.std.proofs.Common.{◌++◌, ◌∷◌, [], ◌∙◌, ap, List, ℕ}
use Rattle.psg_stop.proofs.Runs.{run_push}
use Rattle.psg_stop.proofs.naming.run.Goals as goal

pub loop-preserved : goal.loop-preserved
loop-preserved c = c.in_ok-push_str.ensures.bytes ∙ ap (λ (b : List ℕ). b ++ 97 ∷ []) c.loop.invariant ∙ run_push c.loop.counter
