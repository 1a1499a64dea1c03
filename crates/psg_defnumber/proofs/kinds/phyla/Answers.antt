use Rattle.std.proofs.Common.{◌+◌, ◌++◌, drop, refl, subst, sym}
use Rattle.psg_defnumber.specs.Putting.{ReadsPhyla}
use Rattle.psg_defnumber.proofs.PutLaws.{reads-next, reads-end}
use Rattle.psg_defnumber.proofs.NamedLaws.{known-at}
use Rattle.psg_defnumber.proofs.kinds.phyla.Goals as goal

pub put_phylum-requires : goal.put_phylum-requires
put_phylum-requires c = known-at c.args.checked.now c.args.entries.now c.loop-entry.entry-index c.entry-item.result c.requires c.loop-entry-test.true c.entry-item.is

pub loop-entry-init : goal.loop-entry-init
loop-entry-init c = λ def h full keeps tail r. subst (λ made. ReadsPhyla full c.args.entries.now (made ++ tail)) (sym c.new-made.ensures.items) r

pub loop-entry-preserved : goal.loop-entry-preserved
loop-entry-preserved c = λ def h.
    reads-next def ReadsPhyla c.args.entries.now c.loop-entry.entry-index c.entry-item.result c.loop-entry.made.items c.put_phylum.new.made.items c.loop-entry-test.true c.entry-item.is (c.loop-entry.invariant def h)
    (c.in_ok-put_phylum.ensures def (drop (c.loop-entry.entry-index + 1) c.args.entries.now) h)

pub returns : goal.returns
returns c = λ def h. reads-end def ReadsPhyla c.args.entries.now c.loop-entry.entry-index c.loop-entry.made.items c.loop-entry-test.false (λ full. refl) (c.loop-entry.invariant def h)
