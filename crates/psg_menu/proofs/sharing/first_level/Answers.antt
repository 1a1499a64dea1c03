use Rattle.std.proofs.Common.{◌++◌, ◌∷◌, [], ◌∙◌, ap, List, ℕ}
use Rattle.std.proofs.lemmas.List.{replicate_more}
use Rattle.psg_menu.proofs.sharing.first_level.Goals as goal

pub loop-preserved : goal.loop-preserved
loop-preserved c = c.in_ok-push-2.ensures.items ∙ ap (λ (b : List ℕ). b ++ 0 ∷ []) c.loop.invariant ∙ replicate_more c.loop.counter 0
