use Rattle.std.proofs.Common.{◌≡◌, true, false, ap, sym, ◌∙◌, refl, arith}
use Rattle.std.proofs.lemmas.Bool.Decides.{nat_tests}
use Rattle.psg_terms.specs.Canonical.{same_variable}
use Rattle.psg_relation.specs.Forcing.{by_forced}
use Rattle.psg_relation.proofs.Filling.{forced_here, forced_past, drop-past}
use Rattle.psg_relation.proofs.forcing.forced_term.Goals as goal

pub loop-i-init : goal.loop-i-init
loop-i-init c = refl

pub returns-then-one-number : goal.returns-then-one-number
returns-then-one-number c =
    let same : same_variable (c.index-forced-i.result.sort.0, c.index-forced-i.result.number) (c.args.sort.0, c.args.number) ≡ true = grind (arith, nat_tests) in
    c.in_ok-found.ensures ∙ sym (forced_here c.args.forced.now c.loop-i.i c.args.sort.0 c.args.number c.index-forced-i.result c.loop-i-test.true c.index-forced-i.is same c.loop-i.invariant)

pub loop-i-preserved : goal.loop-i-preserved
loop-i-preserved c =
    let other : same_variable (c.index-forced-i.result.sort.0, c.index-forced-i.result.number) (c.args.sort.0, c.args.number) ≡ false = grind (arith, nat_tests) in
    forced_past c.args.forced.now c.loop-i.i c.args.sort.0 c.args.number c.index-forced-i.result c.loop-i-test.true c.index-forced-i.is other c.loop-i.invariant

pub returns : goal.returns
returns c =
    c.in_ok-own.ensures ∙ c.requires
    ∙ sym (c.loop-i.invariant ∙ ap (λ xs. by_forced xs c.args.sort.0 c.args.number) (drop-past c.args.forced.now c.loop-i.i (omega arith)))
