use Rattle.psg_deflines.specs.declared.lines.Line.TheVariants as lines
use Rattle.psg_defnumber.proofs.ListRowLaws.{other-fills}
use Rattle.psg_defnumber.proofs.NamedLaws.{known-line, meant-line}
use Rattle.psg_defnumber.proofs.list_rows.put_list_row.Goals as goal

pub put_nil-requires-clause-there : goal.put_nil-requires-clause-there
put_nil-requires-clause-there c = (known-line c.args.checked.now c.args.entry.now c.in-Some.line (lines.Nil c.in-Nil.list c.in-Nil.term) c.requires.known c.in-Some.is c.in-Nil.is).0

pub put_cell-requires-clause-there : goal.put_cell-requires-clause-there
put_cell-requires-clause-there c = (known-line c.args.checked.now c.args.entry.now c.in-Some.line (lines.Cell c.in-Cell.list c.in-Cell.term c.in-Cell.element c.in-Cell.rest) c.requires.known c.in-Some.is c.in-Cell.is).0

pub put_nil-requires-clause-term : goal.put_nil-requires-clause-term
put_nil-requires-clause-term c = (known-line c.args.checked.now c.args.entry.now c.in-Some.line (lines.Nil c.in-Nil.list c.in-Nil.term) c.requires.known c.in-Some.is c.in-Nil.is).1

pub put_cell-requires-clause-term : goal.put_cell-requires-clause-term
put_cell-requires-clause-term c = (known-line c.args.checked.now c.args.entry.now c.in-Some.line (lines.Cell c.in-Cell.list c.in-Cell.term c.in-Cell.element c.in-Cell.rest) c.requires.known c.in-Some.is c.in-Cell.is).1

pub put_cell-requires-clause-element : goal.put_cell-requires-clause-element
put_cell-requires-clause-element c = (known-line c.args.checked.now c.args.entry.now c.in-Some.line (lines.Cell c.in-Cell.list c.in-Cell.term c.in-Cell.element c.in-Cell.rest) c.requires.known c.in-Some.is c.in-Cell.is).2

pub put_cell-requires-clause-rest : goal.put_cell-requires-clause-rest
put_cell-requires-clause-rest c = (known-line c.args.checked.now c.args.entry.now c.in-Some.line (lines.Cell c.in-Cell.list c.in-Cell.term c.in-Cell.element c.in-Cell.rest) c.requires.known c.in-Some.is c.in-Cell.is).3

pub put_nil-requires-clause-sorted : goal.put_nil-requires-clause-sorted
put_nil-requires-clause-sorted c = let sorted = (meant-line c.args.checked.now c.args.entry.now c.in-Some.line (lines.Nil c.in-Nil.list c.in-Nil.term) c.requires.known c.in-Some.is c.in-Nil.is).sorted in (sorted.0, sorted.1)

pub put_cell-requires-clause-sorted : goal.put_cell-requires-clause-sorted
put_cell-requires-clause-sorted c =
    let sorted = (meant-line c.args.checked.now c.args.entry.now c.in-Some.line (lines.Cell c.in-Cell.list c.in-Cell.term c.in-Cell.element c.in-Cell.rest) c.requires.known c.in-Some.is c.in-Cell.is).sorted in (sorted.0, sorted.1.0, sorted.1.1, sorted.1.2)

pub returns-in_default-line : goal.returns-in_default-line
returns-in_default-line c = other-fills c.args.definition.now c.args.entry.now c.in-Some.line c.args.lists.now.items c.in-Some.is c.in_default-line.not-Nil c.in_default-line.not-Cell
