use Rattle.std.proofs.Common.{◌∙◌, ap}
use Rattle.std.specs.Prelude.{Err}
use Rattle.psg_eval.proofs.MovedColumns.{never_wide}
use Rattle.psg_eval.proofs.renaming.kept_rows.Goals as goal

pub unreachable-requires : goal.unreachable-requires
unreachable-requires c =
    never_wide c.args.definition.now c.project.result c.args.rel.now c.args.keep.now c.requires.sorts c.requires.within c.requires.once
    c.fewer_columns.ensures c.weight-weight.ensures.within c.project.ensures.some (c.in-Err-Wide.is ∙ ap Err c.in-Err-Wide.field-0-is)
