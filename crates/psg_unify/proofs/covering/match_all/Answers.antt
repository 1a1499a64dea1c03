use Rattle.std.proofs.Common.{refl, sym, ◌∙◌, arith}
use Rattle.std.proofs.lemmas.List.{nil_from_length}
use Rattle.psg_terms.specs.Sizes.{size}
use Rattle.psg_unify.proofs.CoverSteps.{fits_begin, fits_next, fits_stop, fits_done, weighs_top, can_top}
use Rattle.psg_unify.proofs.covering.match_all.Goals as goal

pub returns-then-not-branch-clause-no : goal.returns-then-not-branch-clause-no
returns-then-not-branch-clause-no c = λ _.
    fits_stop c.args.sig.now c.args.pool.now c.args.state.now c.loop-next.state (record { numbers = c.loop-next.state.numbers; first = c.loop-next.state.first; left = c.pop.new.self })
    c.args.state.now.left.items c.in-Some.next refl refl c.in-Some.ensures.items c.loop-next.invariant.0 (c.in_ok-meet.ensures.no c.if-not-branch.true)

pub loop-next-smaller : goal.loop-next-smaller
loop-next-smaller c =
    weighs_top c.loop-next.state.left.items c.pop.new.self.items c.meet.new.state.left.items c.in-Some.next (size c.in-Some.next.term) c.in-Some.ensures.items refl c.in_ok-meet.ensures.less

pub loop-next-preserved : goal.loop-next-preserved
loop-next-preserved c = (
  fits_next c.args.sig.now c.args.pool.now c.args.state.now c.loop-next.state (record { numbers = c.loop-next.state.numbers; first = c.loop-next.state.first; left = c.pop.new.self }) c.meet.new.state
      c.args.state.now.left.items c.in-Some.next refl refl c.in-Some.ensures.items c.loop-next.invariant.0 (c.in_ok-meet.ensures.yes c.if-not-branch.false),
  c.in_ok-meet.ensures.can,
)

pub returns-clause-yes : goal.returns-clause-yes
returns-clause-yes c = λ _.
    fits_done c.args.sig.now c.args.pool.now c.args.state.now c.loop-next.state (record { numbers = c.loop-next.state.numbers; first = c.loop-next.state.first; left = c.pop.new.self })
    c.args.state.now.left.items refl refl
    (nil_from_length c.loop-next.state.left.items (omega (arith, c.in_default.ensures.cases)) ∙ sym (nil_from_length c.pop.new.self.items (omega (arith, c.in_default.ensures.cases, c.in_default.ensures.len))))
    c.loop-next.invariant.0

pub loop-next-init : goal.loop-next-init
loop-next-init c = (fits_begin c.args.sig.now c.args.pool.now c.args.state.now, c.requires.can)

pub meet-requires-clause-can : goal.meet-requires-clause-can
meet-requires-clause-can c =
    (can_top c.args.pool.now c.loop-next.state (record { numbers = c.loop-next.state.numbers; first = c.loop-next.state.first; left = c.pop.new.self }) c.in-Some.next refl refl c.in-Some.ensures.items c.loop-next.invariant.1).0

pub meet-requires-clause-there : goal.meet-requires-clause-there
meet-requires-clause-there c =
    (can_top c.args.pool.now c.loop-next.state (record { numbers = c.loop-next.state.numbers; first = c.loop-next.state.first; left = c.pop.new.self }) c.in-Some.next refl refl c.in-Some.ensures.items c.loop-next.invariant.1).1
