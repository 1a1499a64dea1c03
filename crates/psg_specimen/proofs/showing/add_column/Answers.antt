use Rattle.std.proofs.Common.{◌++◌, ◌∙◌, append-nil, sym, ap}
use Rattle.psg_terms.proofs.Lists.{got_none}
use Rattle.psg_specimen.proofs.ColumnLaws.{picked_none}
use Rattle.psg_specimen.proofs.showing.add_column.Goals as goal

pub returns-in_default : goal.returns-in_default
returns-in_default c =
    sym (append-nil c.args.columns.now.items)
    ∙ ap (λ l. c.args.columns.now.items ++ l) (sym (picked_none c.args.terms.now c.args.column (got_none c.args.terms.now c.args.column c.get.result c.get.ensures.lookup c.in_default.is)))
