use Rattle.std.proofs.Common.{map, ap, ◌++◌, ◌∙◌}
use Rattle.psg_defread.specs.WrittenLines.{case_line}
use Rattle.psg_defread.proofs.WriteLaws.{one-and-more}
use Rattle.psg_defread.proofs.holes.push_hole.Goals as goal

pub returns : goal.returns
returns c =
    one-and-more c.in_ok-line.line _ (map (case_line c.args.definition.now) c.args.row.now.cases) c.args.out.now.items
    c.push.new.self.items c.push_cases.new.out.items c.in_ok-push.ensures.items
    (c.in_ok-push_cases.ensures ∙ ap (λ xs. c.push.new.self.items ++ map (case_line c.args.definition.now) xs)
    c.as_slice.ensures)
    c.in_ok-line.ensures
