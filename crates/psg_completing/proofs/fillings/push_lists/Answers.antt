use Rattle.std.proofs.Common.{◌++◌, ap, ◌∙◌}
use Rattle.psg_completing.specs.Fillings.{lists_from}
use Rattle.psg_completing.proofs.Listing.{lists_end, lists_next}
use Rattle.psg_completing.proofs.fillings.push_lists.Goals as goal

pub loop-number-preserved : goal.loop-number-preserved
loop-number-preserved c =
    lists_next c.args.phylum c.as_slice-lists.result.now c.loop-number.number c.index-lists-number.result _ _ _
    c.loop-number-test.true c.index-lists-number.is c.in_ok-push_list.ensures c.loop-number.invariant

pub returns : goal.returns
returns c =
    lists_end c.args.phylum c.as_slice-lists.result.now c.loop-number.number _ _ c.loop-number-test.false
    c.loop-number.invariant
    ∙ ap (λ l. c.args.found.now.items ++ lists_from c.args.phylum 0 l) c.as_slice-lists.ensures
