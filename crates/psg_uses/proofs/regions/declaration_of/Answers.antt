use Rattle.std.proofs.Common.{◌≡◌, ◌+◌, ◌-◌, length, take, ap, sym, ◌∙◌, arith}
use Rattle.psg_uses.specs.Regions.{declared_of, first_other}
use Rattle.psg_uses.proofs.NamesLaws.{only_none}
use Rattle.psg_uses.proofs.RegionLaws.{at_last, found_at, from_here, none_less}
use Rattle.psg_uses.proofs.regions.declaration_of.Goals as goal

pub regions-init : goal.regions-init
regions-init c =
    let long = ap length c.steps-steps.ensures in (
      omega (arith, long),
      ap (from_here c.args.definition.now c.args.tree.now c.args.name.now.path c.args.name.now) long,
    )

pub regions-preserved : goal.regions-preserved
regions-preserved c =
    let def = c.args.definition.now in
    let f = c.args.tree.now in
    let w = c.args.name.now in
    let less : c.regions.left - 1 + 1 ≡ c.regions.left = omega (arith, c.regions-test.true) in (
      omega (arith, c.regions.invariant.0),
      none_less def f w.path w c.regions.left (c.regions.left - 1) less
          (sym (c.in_ok-found.ensures ∙ ap (λ p. first_other w (declared_of def f (take c.regions.left p))) c.steps-steps.ensures) ∙ only_none c.in_ok-found.found c.in_default.not-Some)
          ∙ c.regions.invariant.1,
    )

pub returns-in-Some : goal.returns-in-Some
returns-in-Some c =
    let def = c.args.definition.now in
    let f = c.args.tree.now in
    let w = c.args.name.now in
    sym (found_at def f w.path w c.regions.left c.in-Some.declared
    (sym (c.in_ok-found.ensures ∙ ap (λ p. first_other w (declared_of def f (take c.regions.left p))) c.steps-steps.ensures) ∙ c.in-Some.is))
    ∙ c.regions.invariant.1

pub returns : goal.returns
returns c =
    let none : c.regions.left ≡ 0 = omega (arith, c.regions-test.false) in
    c.in_ok-outermost.ensures ∙ at_last c.args.definition.now c.args.tree.now c.args.name.now.path c.args.name.now c.regions.left none
    ∙ c.regions.invariant.1
