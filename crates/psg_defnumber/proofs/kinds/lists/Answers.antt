use Rattle.std.proofs.Common.{◌+◌, ◌++◌, drop, refl, subst, sym}
use Rattle.psg_defnumber.specs.Putting.{ReadsLists}
use Rattle.psg_defnumber.proofs.PutLaws.{reads-next, reads-end}
use Rattle.psg_defnumber.proofs.NamedLaws.{known-at}
use Rattle.psg_defnumber.proofs.kinds.lists.Goals as goal

pub put_list-requires : goal.put_list-requires
put_list-requires c = known-at c.args.checked.now c.args.entries.now c.loop-entry.entry-index c.entry-item.result c.requires c.loop-entry-test.true c.entry-item.is

pub loop-entry-init : goal.loop-entry-init
loop-entry-init c = λ def h k full keeps tail r. subst (λ made. ReadsLists full c.args.entries.now (made ++ tail)) (sym c.new-made.ensures.items) r

pub loop-entry-preserved : goal.loop-entry-preserved
loop-entry-preserved c = λ def h k.
    reads-next def ReadsLists c.args.entries.now c.loop-entry.entry-index c.entry-item.result c.loop-entry.made.items c.put_list.new.made.items c.loop-entry-test.true c.entry-item.is (c.loop-entry.invariant def h k)
    (c.in_ok-put_list.ensures def (drop (c.loop-entry.entry-index + 1) c.args.entries.now) h k)

pub returns : goal.returns
returns c = λ def h k. reads-end def ReadsLists c.args.entries.now c.loop-entry.entry-index c.loop-entry.made.items c.loop-entry-test.false (λ full. refl) (c.loop-entry.invariant def h k)
