use Rattle.std.proofs.Common.{◌∙◌, ap}
use Rattle.std.specs.Prelude.{Err}
use Rattle.psg_focus.proofs.SeenRows.{second_light, second_rel, second_sorts, seen_relation, sorts_same, whole_sorts, within_same}
use Rattle.psg_focus.proofs.relating.reported_column.Goals as goal

pub project-requires-clause-sorts : goal.project-requires-clause-sorts
project-requires-clause-sorts c =
    let def = c.args.definition.now in
    let s = c.args.whole.now in
    (whole_sorts def s c.requires.summary c.requires.reported, sorts_same def s c.requires.summary c.requires.reported c.rel-rows.result.now c.rel-rows.ensures)

pub project-requires-clause-keep : goal.project-requires-clause-keep
project-requires-clause-keep c =
    within_same c.args.definition.now c.args.whole.now c.requires.summary c.requires.reported c.rel-rows.result.now c.as_slice-columns.result.now c.rel-rows.ensures
    (c.as_slice-columns.ensures.value ∙ c.in_ok-keep.ensures)

pub unreachable-requires : goal.unreachable-requires
unreachable-requires c =
    second_light c.args.definition.now c.args.whole.now c.requires.summary c.requires.reported c.project.result c.rel-rows.result.now c.as_slice-columns.result.now c.rel-rows.ensures
    (c.as_slice-columns.ensures.value ∙ c.in_ok-keep.ensures) c.fewer_columns.ensures c.within_limit.ensures c.project.ensures.some (c.in-Err-Wide.is ∙ ap Err c.in-Err-Wide.field-0-is)

pub returns-in-Ok-clause-seen : goal.returns-in-Ok-clause-seen
returns-in-Ok-clause-seen c = λ f is.
    let def = c.args.definition.now in
    let s = c.args.whole.now in
    seen_relation def s c.requires.summary c.requires.reported f is c.in-Ok.rel
    (second_rel def s c.requires.summary c.requires.reported c.rel-rows.result.now c.as_slice-columns.result.now c.in-Ok.rel c.rel-rows.ensures
    (c.as_slice-columns.ensures.value ∙ c.in_ok-keep.ensures) c.in-Ok.ensures.relation)

pub returns-in-Ok-clause-sorted : goal.returns-in-Ok-clause-sorted
returns-in-Ok-clause-sorted c =
    let def = c.args.definition.now in
    let s = c.args.whole.now in
    second_sorts def s c.requires.summary c.requires.reported c.in-Ok.rel
    (second_rel def s c.requires.summary c.requires.reported c.rel-rows.result.now c.as_slice-columns.result.now c.in-Ok.rel c.rel-rows.ensures
    (c.as_slice-columns.ensures.value ∙ c.in_ok-keep.ensures) c.in-Ok.ensures.relation)
