use Rattle.std.proofs.Common.{ap, length, arith}
use Rattle.psg_completing.proofs.Listing.{phyla_end, phyla_next}
use Rattle.psg_completing.proofs.fillings.fillings.Goals as goal

pub loop-number-preserved : goal.loop-number-preserved
loop-number-preserved c =
    let same = ap length c.as_slice-phyla.ensures in
    let lt = c.loop-number-test.true in
    phyla_next c.args.definition.now.lists c.args.definition.now.phyla c.loop-number.number _ _ _ (omega (arith, same, lt))
    c.in_ok-push_phylum.ensures c.loop-number.invariant

pub returns : goal.returns
returns c =
    let same = ap length c.as_slice-phyla.ensures in
    let le = c.loop-number-test.false in
    phyla_end c.args.definition.now.lists c.args.definition.now.phyla c.loop-number.number _ _ (omega (arith, same, le))
    c.loop-number.invariant
