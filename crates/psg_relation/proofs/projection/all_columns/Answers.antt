use Rattle.std.proofs.Common.{◌<◌, length, slice_index_or, sym, subst}
use Rattle.psg_relation.proofs.Members.{in-at}
use Rattle.psg_relation.proofs.projection.all_columns.Goals as goal

pub kept_columns-requires : goal.kept_columns-requires
kept_columns-requires c = λ k d l.
    subst (λ r. slice_index_or c.args.keep.now k d < length r) (sym c.terms.ensures)
    (c.requires c.row-item.result (in-at c.row-item.result c.args.rows.now c.loop-row.row-index c.loop-row-test.true c.row-item.is) k d l)
