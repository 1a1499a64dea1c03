use Rattle.std.proofs.Common.{◌+◌, ◌++◌, ◌∷◌, [], ap, ◌∙◌, sym, append_assoc}
use Rattle.std.proofs.lemmas.List.{append-nil}
use Rattle.psg_eval.specs.Walks.{run}
use Rattle.psg_eval.proofs.Walking.{run-next}
use Rattle.psg_eval.proofs.partial.push_run.Goals as goal

pub loop-step-init : goal.loop-step-init
loop-step-init c = sym (append-nil c.args.numbers.now.items)

pub loop-step-preserved : goal.loop-step-preserved
loop-step-preserved c =
    let from = c.args.from in
    let n = c.loop-step.step in
    c.in_ok-push.ensures.items ∙ ap (λ xs. xs ++ (from + n) ∷ []) c.loop-step.invariant ∙ append_assoc c.args.numbers.now.items (run from n) ((from + n) ∷ [])
    ∙ ap (λ xs. c.args.numbers.now.items ++ xs) (sym (run-next from n))
