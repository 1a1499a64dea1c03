use Rattle.std.proofs.Common.{List, length, ap, ◌∷◌, ◌++◌, [], ◌∙◌, refl}
use Rattle.psg_terms.specs.Terms.{Term}
use Rattle.psg_relation.specs.declared.narrowing.Side.{Side}
use Rattle.psg_relation.specs.declared.narrowing.Side.TheVariants.{Left}
use Rattle.psg_relation.specs.declared.narrowing.Place.TheVariants.{Solved}
use Rattle.psg_relation.proofs.NarrowPlans.{planned_left}
use Rattle.psg_relation.proofs.narrowing.keep_left.Goals as goal

pub returns-clause-planned : goal.returns-clause-planned
returns-clause-planned c = λ left right lefts rights width count keep at h.
    planned_left left right lefts rights width count keep c.args.column c.args.narrow.now _ h c.args.term.now at
    (c.in_ok-push.ensures.items ∙ ap (λ t. c.args.narrow.now.lefts.items ++ t ∷ []) c.in_ok-copy.ensures) refl
    (c.in_ok-push-2.ensures.items ∙ ap (λ (x : List Term). c.args.narrow.now.keep.items ++ Left (length x) ∷ []) c.as_slice-lefts.ensures.value)
    (c.in_ok-push-3.ensures.items ∙ ap (λ (x : List Side). c.args.narrow.now.places.items ++ Solved (length x) ∷ []) c.as_slice-kept.ensures.value)
