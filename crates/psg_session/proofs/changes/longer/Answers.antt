use Rattle.std.proofs.Common.{◌++◌, ◌∷◌, [], ◌∙◌, ap}
use Rattle.std.proofs.lemmas.List.{take_all}
use Rattle.psg_session.proofs.changes.longer.Goals as goal

pub returns : goal.returns
returns c =
    c.in_ok-longer.ensures ∙ c.as_slice.ensures.value ∙ c.in_ok-push-2.ensures.items
    ∙ ap (λ xs. xs ++ c.args.step ∷ [])
    (c.loop-known.invariant
    ∙ take_all c.loop-known.known-index c.steps-known-items.result.now c.loop-known-test.false
    ∙ c.steps-known-items.ensures)
