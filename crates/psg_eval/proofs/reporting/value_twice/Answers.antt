use Rattle.std.proofs.Common.{◌≡◌, ◌+◌, ◌++◌, ◌∷◌, [], ap, ap₂, ◌∙◌, arith}
use Rattle.psg_eval.specs.Walks.{run}
use Rattle.psg_eval.proofs.reporting.value_twice.Goals as goal

pub returns : goal.returns
returns c =
    let e : c.args.keys + 1 ≡ 1 + c.args.keys = omega arith in
    c.in_ok-push_run.ensures ∙ ap₂ (λ xs n. xs ++ run 0 n) (c.in_ok-push.ensures.items ∙ ap (λ xs. xs ++ 0 ∷ []) c.in_ok-columns.ensures.items) e
