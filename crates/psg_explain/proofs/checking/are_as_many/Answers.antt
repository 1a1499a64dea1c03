use Rattle.std.proofs.Common.{◌*◌, sym, ◌∙◌, ap₂, map}
use Rattle.psg_explain.specs.Plans.{rows_claimed}
use Rattle.psg_explain.proofs.PairCounts.{stage_pairs}
use Rattle.psg_explain.proofs.checking.are_as_many.Goals as goal

pub returns-in-Pair : goal.returns-in-Pair
returns-in-Pair c = λ definition s is e.
    c.are_pairs-many.ensures (ap₂ (λ (a b : _). a * b) c.count_at-lefts.ensures c.count_at-rights.ensures
    ∙ sym (stage_pairs definition c.args.stage.now s (map rows_claimed c.args.claims.now) c.in-Pair.before c.in-Pair.child c.in-Pair.left c.in-Pair.right is c.in-Pair.is) ∙ e)
