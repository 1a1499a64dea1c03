use Rattle.std.proofs.Common.{take}
use Rattle.psg_deflines.specs.Entries.{written}
use Rattle.psg_defnumber.proofs.MadeLaws.{keeps-self}
use Rattle.psg_defnumber.proofs.PlacingLaws.{element-places, kinds-meant}
use Rattle.psg_defnumber.proofs.SortPlaces.{lists-sorted}
use Rattle.psg_defnumber.proofs.ListRowLaws.{fills-none, fills-next, fills-all}
use Rattle.psg_defnumber.proofs.NamedLaws.{known-at, lists-names, lists-elements}
use Rattle.psg_defnumber.proofs.list_rows.fill_lists.Goals as goal

pub put_list_row-requires-clause-known : goal.put_list_row-requires-clause-known
put_list_row-requires-clause-known c = known-at c.args.checked.now c.args.entries.now c.loop-entry.entry-index c.entry-item.result c.requires.known c.loop-entry-test.true c.entry-item.is

pub put_list_row-requires-clause-lists : goal.put_list_row-requires-clause-lists
put_list_row-requires-clause-lists c =
    lists-names c.args.definition.now (written (take c.loop-entry.entry-index c.args.entries.now)) c.args.checked.now c.loop-entry.lists.items
    (c.loop-entry.invariant c.args.checked.now c.requires.once c.args.definition.now (keeps-self c.args.definition.now) c.requires.lists)

pub put_list_row-requires-clause-elements : goal.put_list_row-requires-clause-elements
put_list_row-requires-clause-elements c =
    lists-elements c.args.definition.now (written (take c.loop-entry.entry-index c.args.entries.now)) c.args.checked.now c.loop-entry.lists.items
    (c.loop-entry.invariant c.args.checked.now c.requires.once c.args.definition.now (keeps-self c.args.definition.now) c.requires.lists)

pub put_list_row-requires-clause-places : goal.put_list_row-requires-clause-places
put_list_row-requires-clause-places c =
    element-places c.args.checked.now c.args.definition.now c.requires.phyla (written (take c.loop-entry.entry-index c.args.entries.now)) c.args.checked.now c.loop-entry.lists.items (kinds-meant c.args.checked.now c.requires.once) c.requires.meant
    (c.loop-entry.invariant c.args.checked.now c.requires.once c.args.definition.now (keeps-self c.args.definition.now) c.requires.lists)

pub put_list_row-requires-clause-list_sorts : goal.put_list_row-requires-clause-list_sorts
put_list_row-requires-clause-list_sorts c =
    lists-sorted c.args.checked.now c.args.definition.now c.requires.sorts (written (take c.loop-entry.entry-index c.args.entries.now)) c.args.checked.now c.loop-entry.lists.items (kinds-meant c.args.checked.now c.requires.once)
    (c.loop-entry.invariant c.args.checked.now c.requires.once c.args.definition.now (keeps-self c.args.definition.now) c.requires.lists)

pub loop-entry-init : goal.loop-entry-init
loop-entry-init c = fills-none c.args.definition.now c.args.lists.now.items

pub loop-entry-preserved : goal.loop-entry-preserved
loop-entry-preserved c =
    fills-next c.args.definition.now c.args.entries.now c.loop-entry.entry-index c.entry-item.result c.args.lists.now.items c.loop-entry.lists.items c.put_list_row.new.lists.items c.loop-entry-test.true c.entry-item.is c.loop-entry.invariant
    (c.in_ok-put_list_row.ensures (written (take c.loop-entry.entry-index c.args.entries.now)))

pub returns : goal.returns
returns c = fills-all c.args.definition.now c.args.entries.now c.loop-entry.entry-index c.args.lists.now.items c.loop-entry.lists.items c.loop-entry-test.false c.loop-entry.invariant
