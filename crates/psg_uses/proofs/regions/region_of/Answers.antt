use Rattle.std.proofs.Common.{◌≡◌, ◌+◌, ◌-◌, refl, ◌∙◌, arith}
use Rattle.psg_uses.proofs.RegionLaws.{at_root, begun_here, not_begun_here}
use Rattle.psg_uses.proofs.regions.region_of.Goals as goal

pub regions-init : goal.regions-init
regions-init c = (omega arith, refl)

pub regions-preserved : goal.regions-preserved
regions-preserved c =
    let less : c.regions.left - 1 + 1 ≡ c.regions.left = omega (arith, c.regions-test.true) in (
      omega (arith, c.regions.invariant.0),
      not_begun_here c.args.definition.now c.args.tree.now c.args.path.now c.regions.left (c.regions.left - 1) c.in_ok-begins.begins
          less c.in_ok-begins.ensures c.if-begins.false
          ∙ c.regions.invariant.1,
    )

pub returns-then-begins-clause-region : goal.returns-then-begins-clause-region
returns-then-begins-clause-region c =
    begun_here c.args.definition.now c.args.tree.now c.args.path.now c.regions.left c.in_ok-begins.begins c.regions-test.true
    c.in_ok-begins.ensures c.if-begins.true
    ∙ c.regions.invariant.1

pub returns-clause-region : goal.returns-clause-region
returns-clause-region c =
    let none : c.regions.left ≡ 0 = omega (arith, c.regions-test.false) in
    at_root c.args.definition.now c.args.tree.now c.args.path.now c.regions.left none ∙ c.regions.invariant.1
