use Rattle.std.proofs.Common.{sym, arith}
use Rattle.psg_windows.proofs.Walks.{lowered_here, lowered_down, lowered_not, not_under, ok_by}
use Rattle.psg_windows.proofs.moving.lowered.Goals as goal

pub returns-in_default : goal.returns-in_default
returns-in_default c = ok_by c.of.result _ _ c.of.ensures (sym (not_under _ c.args.at.now c.args.cursor.now c.in_default.ensures))

pub returns-then-step-place : goal.returns-then-step-place
returns-then-step-place c =
    ok_by c.of-then-step-place.result _ _ c.of-then-step-place.ensures
    (sym (lowered_here c.args.at.now c.args.place c.in-Some.step c.in-Some.behind.now c.args.cursor.now c.in-Some.ensures
    c.if-step-place.true))

pub returns-then-step-place-2 : goal.returns-then-step-place-2
returns-then-step-place-2 c =
    ok_by c.of-then-step-place-2.result _ _ c.of-then-step-place-2.ensures
    (sym (lowered_not c.args.at.now c.args.place c.in-Some.step c.in-Some.behind.now c.args.cursor.now c.in-Some.ensures
    c.if-step-place-2.true))

pub returns : goal.returns
returns c =
    ok_by c.path_with.result _ _ c.path_with.ensures
    (sym (lowered_down c.args.at.now c.args.place c.in-Some.step c.in-Some.behind.now c.args.cursor.now c.in-Some.ensures
    (omega arith)))
