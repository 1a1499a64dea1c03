use Rattle.std.proofs.Common.{◌∙◌, refl, sym}
use Rattle.psg_recover.proofs.ReaderLaws.{lists_end, lists_next, lists_no}
use Rattle.psg_recover.proofs.candidates.all_go_on.Goals as goal

pub loop-list-init : goal.loop-list-init
loop-list-init c = refl

pub returns-then-not-goes_on_too : goal.returns-then-not-goes_on_too
returns-then-not-goes_on_too c =
    lists_no c.args.phylum c.args.lists.now c.loop-list.list-index c.list-item.result _ c.loop-list-test.true c.list-item.is
    (sym c.goes_on_too.ensures ∙ c.if-not-goes_on_too.true) c.loop-list.invariant

pub loop-list-preserved : goal.loop-list-preserved
loop-list-preserved c =
    lists_next c.args.phylum c.args.lists.now c.loop-list.list-index c.list-item.result _ c.loop-list-test.true c.list-item.is
    (sym c.goes_on_too.ensures ∙ c.if-not-goes_on_too.false) c.loop-list.invariant

pub returns : goal.returns
returns c = lists_end c.args.phylum c.args.lists.now c.loop-list.list-index _ c.loop-list-test.false c.loop-list.invariant
