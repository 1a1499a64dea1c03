use Rattle.std.proofs.Common.{◌∙◌, ap}
use Rattle.std.specs.Prelude.{Err}
use Rattle.psg_wanted.proofs.KeyLaws.{column_entities, column_light, column_sorts, column_within, sorts_same, whole_sorts}
use Rattle.psg_wanted.proofs.values.one_column.Goals as goal

pub project-requires-clause-sorts : goal.project-requires-clause-sorts
project-requires-clause-sorts c =
    let def = c.args.definition.now in
    let s = c.args.whole.now in
    (whole_sorts def s c.requires.summary c.requires.silent, sorts_same def s c.requires.summary c.requires.silent c.rel-rows.result.now c.rel-rows.ensures)

pub project-requires-clause-keep : goal.project-requires-clause-keep
project-requires-clause-keep c =
    let (key, there) = c.requires.there in
    column_within c.args.definition.now c.args.whole.now c.requires.summary c.requires.silent c.args.column c.as_slice-columns.result.now
    (c.as_slice-columns.ensures.value ∙ c.in_ok-keep.ensures) c.rel-rows.result.now c.rel-rows.ensures key there

pub unreachable-requires : goal.unreachable-requires
unreachable-requires c =
    let (key, there) = c.requires.there in
    column_light c.args.definition.now c.args.whole.now c.requires.summary c.requires.silent c.args.column c.as_slice-columns.result.now
    (c.as_slice-columns.ensures.value ∙ c.in_ok-keep.ensures) c.rel-rows.result.now c.rel-rows.ensures key there c.project.result c.fewer_columns.ensures c.within_limit.ensures
    c.project.ensures.some (c.in-Err-Wide.is ∙ ap Err c.in-Err-Wide.field-0-is)

pub returns-in-Ok-clause-entities : goal.returns-in-Ok-clause-entities
returns-in-Ok-clause-entities c =
    column_entities c.args.definition.now c.args.whole.now c.requires.summary c.requires.silent c.args.column c.as_slice-columns.result.now
    (c.as_slice-columns.ensures.value ∙ c.in_ok-keep.ensures) c.rel-rows.result.now c.rel-rows.ensures c.in-Ok.rel c.in-Ok.ensures.relation

pub returns-in-Ok-clause-sorted : goal.returns-in-Ok-clause-sorted
returns-in-Ok-clause-sorted c =
    let (key, there) = c.requires.there in
    column_sorts c.args.definition.now c.args.whole.now c.requires.summary c.requires.silent c.args.column c.as_slice-columns.result.now
    (c.as_slice-columns.ensures.value ∙ c.in_ok-keep.ensures) c.rel-rows.result.now c.rel-rows.ensures key there c.in-Ok.rel c.in-Ok.ensures.relation
