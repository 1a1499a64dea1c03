use Rattle.std.proofs.Common.{refl, sym, ◌∙◌}
use Rattle.psg_unify.proofs.Chains.{fewer_steps, target_there}
use Rattle.psg_unify.proofs.covering.end_of_bindings.Goals as goal

pub loop-to-init : goal.loop-to-init
loop-to-init c = (c.requires, λ sig read r. refl)

pub loop-to-preserved : goal.loop-to-preserved
loop-to-preserved c = (
  target_there c.args.pool.now c.mark-mark.ensures.sound c.loop-to.id c.in-Some.to (sym c.in-Some.ensures),
  λ sig read r. c.loop-to.invariant.1 sig read r ∙ r.bound_cell c.loop-to.id c.in-Some.to (sym c.in-Some.ensures),
)

pub loop-to-smaller : goal.loop-to-smaller
loop-to-smaller c = fewer_steps c.args.pool.now c.mark-mark.ensures.sound c.loop-to.id c.in-Some.to (sym c.in-Some.ensures)
