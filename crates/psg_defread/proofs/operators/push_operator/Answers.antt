use Rattle.std.proofs.Common.{map, ap, ◌++◌, ◌∙◌}
use Rattle.psg_defread.specs.WrittenLines.{row_line}
use Rattle.psg_defread.proofs.WriteLaws.{one-and-more}
use Rattle.psg_defread.proofs.operators.push_operator.Goals as goal

pub returns : goal.returns
returns c =
    one-and-more c.in_ok-line.line _ (map (row_line c.args.definition.now) c.args.operator.now.rows) c.args.out.now.items
    c.push.new.self.items c.push_rows.new.out.items c.in_ok-push.ensures.items
    (c.in_ok-push_rows.ensures ∙ ap (λ xs. c.push.new.self.items ++ map (row_line c.args.definition.now) xs)
    c.as_slice.ensures)
    c.in_ok-line.ensures
