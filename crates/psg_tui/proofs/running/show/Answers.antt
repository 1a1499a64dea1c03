use Rattle.std.proofs.Common.{rules, ◌≡◌}
use Rattle.std.specs.Prelude.{Err}
use Rattle.psg_tui.proofs.RunningLaws.{cut_by, shown_cut, shown_none, shown_so}
use Rattle.psg_tui.proofs.running.show.Goals as goal

pub returns-in_err-put-in-Ok-clause-cut : goal.returns-in_err-put-in-Ok-clause-cut
returns-in_err-put-in-Ok-clause-cut g c =
    let fault = c.in_err-put-in-Ok.field-0.0 in
    let d : c.from_residual.result ≡ Err fault = search rules in
    cut_by c.from_residual.result fault _ _ _ _ _ d c.in_err-put-in-Ok.ensures.fault
    (shown_cut _ _ _ _ _ _ _ _ _ c.next_picture.ensures.left c.in-Ok.ensures.picture c.in-Ok.ensures.draws
    c.as_ref.ensures.value c.as_str.ensures.value c.in_err-put-in-Ok.ensures.front)

pub returns-in_ok-put-in-Ok-clause-drawn : goal.returns-in_ok-put-in-Ok-clause-drawn
returns-in_ok-put-in-Ok-clause-drawn g c =
    shown_so _ _ _ _ _ _ _ _ _ c.next_picture.ensures.left c.in-Ok.ensures.picture c.in-Ok.ensures.draws
    c.as_ref.ensures.value c.as_str.ensures.value c.in_ok-put-in-Ok.ensures.all

pub returns-in-Err-clause-drawn : goal.returns-in-Err-clause-drawn
returns-in-Err-clause-drawn g c = shown_none _ _ _ _ c.next_picture.ensures.left
