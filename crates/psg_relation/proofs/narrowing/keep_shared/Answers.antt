use Rattle.std.proofs.Common.{refl}
use Rattle.psg_relation.proofs.NarrowPlans.{planned_shared}
use Rattle.psg_relation.proofs.narrowing.keep_shared.Goals as goal

pub returns-clause-planned : goal.returns-clause-planned
returns-clause-planned c = λ left right lefts rights width count keep t at closed h.
    planned_shared left right lefts rights width count keep c.args.column c.args.narrow.now _ h t at closed refl refl refl c.in_ok-push.ensures.items
