use Rattle.std.proofs.Common.{◌≡◌, length, refl, sym, true≢false, arith}
use Rattle.psg_terms.proofs.Lists.{get_or_fixed}
use Rattle.psg_specimen.specs.declared.its.Spot.{Spot}
use Rattle.psg_covering.proofs.Firsts.{more, all}
use Rattle.psg_specimen.proofs.Firsts.{each}
use Rattle.psg_specimen.proofs.ItCounts.{all_at}
use Rattle.psg_specimen.proofs.declares.are_of.Goals as goal

pub loop-place-preserved : goal.loop-place-preserved
loop-place-preserved c = more c.args.its.now (λ (x : Spot). x.space ≡ c.args.space) c.loop-place.place _ c.loop-place-test.true (get_or_fixed c.args.its.now c.loop-place.place _ c.loop-place-test.true) c.if-its-place.false c.loop-place.invariant

pub returns-then-its-place : goal.returns-then-its-place
returns-then-its-place c = (
  λ h. absurd (true≢false (sym h)),
  λ a. absurd (c.if-its-place.true (each (λ (x : Spot). x.space ≡ c.args.space) c.args.its.now a c.loop-place.place _ c.loop-place-test.true (get_or_fixed c.args.its.now c.loop-place.place _ c.loop-place-test.true))),
)

pub returns : goal.returns
returns c = (
  λ h. all_at c.args.space c.args.its.now (all c.args.its.now (λ (x : Spot). x.space ≡ c.args.space) (length c.args.its.now) refl (λ m lt. c.loop-place.invariant m (omega (arith, lt)))),
  λ a. refl,
)
