use Rattle.psg_specimen.specs.Wanted.{IsWanted}
use Rattle.psg_covering.proofs.Firsts.{more}
use Rattle.psg_specimen.proofs.places.first_unwanted.Goals as goal

pub loop-number-preserved : goal.loop-number-preserved
loop-number-preserved c =
    more c.as_slice-places.result.now (λ p. IsWanted c.args.definition.now c.args.wanted p c.args.bound.now) c.loop-number.number c.index-places-number.result c.loop-number-test.true c.index-places-number.is
    (c.in_ok-is_wanted.ensures.0 c.if-not-branch.false) c.loop-number.invariant
