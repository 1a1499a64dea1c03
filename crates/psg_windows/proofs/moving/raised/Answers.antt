use Rattle.std.proofs.Common.{◌<◌, sym, rules}
use Rattle.psg_windows.proofs.Walks.{raised_up, raised_not, not_under, step_in, ok_by}
use Rattle.psg_windows.proofs.moving.raised.Goals as goal

pub returns-in_default : goal.returns-in_default
returns-in_default c = ok_by c.of.result _ _ c.of.ensures (sym (not_under _ c.args.at.now c.args.cursor.now c.in_default.ensures))

pub returns-then-step-place : goal.returns-then-step-place
returns-then-step-place c =
    ok_by c.of-then-step-place.result _ _ c.of-then-step-place.ensures
    (sym (raised_not c.args.at.now c.args.place c.in-Some.step c.in-Some.behind.now c.args.cursor.now c.in-Some.ensures
    c.if-step-place.true))

pub overflow_add-step : goal.overflow_add-step
overflow_add-step c =
    let small : c.in-Some.step < 4294967295 =
    step_in (λ k. k < 4294967295) c.args.at.now c.in-Some.step c.in-Some.behind.now c.args.cursor.now c.in-Some.ensures
    c.requires in
    search (rules, small)

pub returns : goal.returns
returns c =
    ok_by c.path_with.result _ _ c.path_with.ensures
    (sym (raised_up c.args.at.now c.args.place c.in-Some.step c.in-Some.behind.now c.args.cursor.now c.in-Some.ensures
    c.if-step-place.false))
