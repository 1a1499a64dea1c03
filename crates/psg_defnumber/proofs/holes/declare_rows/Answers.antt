use Rattle.std.proofs.Common.{◌+◌, drop, refl}
use Rattle.psg_defnumber.specs.Putting.{ReadsDeclareRows}
use Rattle.psg_defnumber.proofs.PutLaws.{reads-next, reads-end}
use Rattle.psg_defnumber.proofs.NamedLaws.{known-at}
use Rattle.psg_defnumber.proofs.holes.declare_rows.Goals as goal

pub put_declare_row-requires-clause-known : goal.put_declare_row-requires-clause-known
put_declare_row-requires-clause-known c = known-at c.args.checked.now c.args.entries.now c.loop-entry.entry-index c.entry-item.result c.requires.known c.loop-entry-test.true c.entry-item.is

pub loop-entry-preserved : goal.loop-entry-preserved
loop-entry-preserved c =
    reads-next c.args.definition.now ReadsDeclareRows c.args.entries.now c.loop-entry.entry-index c.entry-item.result c.loop-entry.made.items c.put_declare_row.new.made.items c.loop-entry-test.true c.entry-item.is c.loop-entry.invariant
    (c.in_ok-put_declare_row.ensures (drop (c.loop-entry.entry-index + 1) c.args.entries.now))

pub returns : goal.returns
returns c = reads-end c.args.definition.now ReadsDeclareRows c.args.entries.now c.loop-entry.entry-index c.loop-entry.made.items c.loop-entry-test.false (λ full. refl) c.loop-entry.invariant
