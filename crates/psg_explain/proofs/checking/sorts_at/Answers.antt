use Rattle.std.proofs.Common.{List, ◌++◌, ap, ◌∙◌}
use Rattle.psg_terms.specs.declared.sorts.SortId.{SortId}
use Rattle.psg_scope.specs.Headers.{keys}
use Rattle.psg_explain.proofs.SortLaws.{both_sorts, no_entities, no_values}
use Rattle.psg_explain.proofs.UnderLaws.{match_none, match_some}
use Rattle.psg_explain.proofs.checking.sorts_at.Goals as goal

pub returns-in_default : goal.returns-in_default
returns-in_default c = no_values c.args.definition.now c.args.kinds.now (keys c.args.keys.now) (match_none _ c.in_default.is _ _ c.in_ok-values.ensures)

pub returns-in_default-entities : goal.returns-in_default-entities
returns-in_default-entities c = no_entities c.args.definition.now c.args.kinds.now (keys c.args.keys.now) (match_none _ c.in_default-entities.is _ _ c.in_ok-entities.ensures)

pub returns : goal.returns
returns c =
    both_sorts c.args.definition.now c.args.kinds.now (keys c.args.keys.now) c.in-Some.sorts.items c.in-Some-entities.others.items c.extend_from_slice.new.self.items (match_some _ c.in-Some.sorts c.in-Some.is _ _ c.in_ok-values.ensures)
    (match_some _ c.in-Some-entities.others c.in-Some-entities.is _ _ c.in_ok-entities.ensures) (c.in_ok-extend_from_slice.ensures.items ∙ ap (λ (l : List SortId). c.in-Some.sorts.items ++ l) c.as_slice.ensures.value)
