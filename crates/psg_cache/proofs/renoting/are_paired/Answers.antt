use Rattle.std.proofs.Common.{◌∙◌, ◌||◌, ap₂}
use Rattle.psg_cache.specs.Diff.{same_some}
use Rattle.psg_cache.proofs.renoting.are_paired.Goals as goal

pub returns : goal.returns
returns c =
    c.is_either.ensures ∙ ap₂ (λ a b. a || b)
    (c.same_number-operators.ensures ∙ ap₂ (λ x y. same_some x y) c.operator_in-before.ensures c.operator_in-after.ensures)
    (c.same_number-lists.ensures ∙ ap₂ (λ x y. same_some x y) c.list_in-kind.ensures c.list_in-other.ensures)
