use Rattle.std.proofs.Common.{refl, subst}
use Rattle.psg_explain.specs.Reasons.{IsReason}
use Rattle.psg_explain.proofs.LastLaws.{span_begun, span_first}
use Rattle.psg_explain.proofs.last.first_failing.Goals as goal

pub unreachable-requires : goal.unreachable-requires
unreachable-requires c = c.requires (subst (IsReason c.args.given.now) c.in_default.is c.in_ok-found.ensures)

pub loop-span-init : goal.loop-span-init
loop-span-init c = span_begun c.args.given.now 0 _ c.in-Some.whole _ refl refl refl refl refl (subst (IsReason c.args.given.now) c.in-Some.is c.in_ok-found.ensures)

pub halved-requires : goal.halved-requires
halved-requires c = record { span = c.loop-span.invariant; wide = c.loop-span-test.true }

pub loop-span-preserved : goal.loop-span-preserved
loop-span-preserved c = c.in_ok-next.ensures.span

pub returns : goal.returns
returns c = span_first c.args.given.now c.loop-span.span c.loop-span.invariant c.loop-span-test.false _ refl refl
