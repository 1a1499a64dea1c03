use Rattle.std.proofs.Common.{◌∙◌}
use Rattle.psg_defnumber.proofs.SortLineLaws.{sort-put, sort-passed, entry-none}
use Rattle.psg_defnumber.proofs.signatures.put_sort.Goals as goal

pub returns-in_default : goal.returns-in_default
returns-in_default c = entry-none c.args.entry.now c.args.made.now.items c.in_default.is

pub returns-in_default-line : goal.returns-in_default-line
returns-in_default-line c = sort-passed c.args.entry.now c.in-Some.line c.args.made.now.items c.in-Some.is c.in_default-line.not-Sort

pub returns : goal.returns
returns c =
    sort-put c.args.entry.now c.in-Some.line c.in-Sort.decl c.args.made.now.items c.push.new.self.items c.in_ok-name.name c.of.result c.in-Some.is c.in-Sort.is c.in_ok-push.ensures.items c.in_ok-name.ensures
    (c.of.ensures ∙ c.in_ok-constructors.ensures ∙ c.as_slice.ensures)
