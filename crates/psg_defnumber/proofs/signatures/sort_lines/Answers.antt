use Rattle.psg_defnumber.proofs.SortLineLaws.{sorts-next, sorts-all}
use Rattle.psg_defnumber.proofs.signatures.sort_lines.Goals as goal

pub loop-entry-preserved : goal.loop-entry-preserved
loop-entry-preserved c =
    sorts-next c.args.entries.now c.loop-entry.entry-index c.entry-item.result c.loop-entry.made.items c.put_sort.new.made.items c.loop-entry-test.true c.entry-item.is c.loop-entry.invariant c.in_ok-put_sort.ensures

pub returns : goal.returns
returns c = sorts-all c.args.entries.now c.loop-entry.entry-index c.loop-entry.made.items c.loop-entry-test.false c.loop-entry.invariant
