use Rattle.std.proofs.Common.{◌≡◌, ℕ, reverse, subst, ap, arith}
use Rattle.psg_unify.specs.declared.walking.Item.TheVariants.{Visit}
use Rattle.psg_unify.specs.Circles.{AreVisits}
use Rattle.psg_unify.proofs.Rounds.{visits_none, visits_more, on_top}
use Rattle.psg_unify.proofs.circles.visits.Goals as goal

pub loop-id-init : goal.loop-id-init
loop-id-init c = visits_none c.args.base c.args.base (reverse c.in_ok-stack.stack.items) (omega arith) (ap reverse c.in_ok-stack.ensures.items)

pub loop-id-preserved : goal.loop-id-preserved
loop-id-preserved c =
    visits_more c.args.base c.loop-id.id (reverse c.loop-id.stack.items) (reverse c.push.new.self.items) (omega arith)
    (on_top c.loop-id.stack.items c.push.new.self.items (Visit (record { 0 = c.loop-id.id })) c.in_ok-push.ensures.items) c.loop-id.invariant

pub returns : goal.returns
returns c = (let e : c.loop-id.id ≡ c.args.end = omega arith in subst (λ (n : ℕ). AreVisits c.args.base n (reverse c.loop-id.stack.items)) e c.loop-id.invariant)
