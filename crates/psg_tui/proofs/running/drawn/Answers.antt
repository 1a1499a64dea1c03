use Rattle.std.proofs.Common.{rules, ◌≡◌}
use Rattle.std.specs.Prelude.{Err}
use Rattle.psg_tui.proofs.RunningLaws.{cut_first, cut_second, drawn_once, twice_all}
use Rattle.psg_tui.proofs.running.drawn.Goals as goal

pub returns-in_err-shown-clause-cut : goal.returns-in_err-shown-clause-cut
returns-in_err-shown-clause-cut g c =
    let fault = c.in_err-shown.field-0.0 in
    let d : c.from_residual.result ≡ Err fault = search rules in
    cut_first c.from_residual.result fault _ _ _ _ _ d c.in_err-shown.ensures.cut

pub returns-in-Ok-true-clause-drawn : goal.returns-in-Ok-true-clause-drawn
returns-in-Ok-true-clause-drawn g c =
    twice_all _ _ _ _ _ _ _ _ _ c.in_ok-shown.ensures.drawn c.wonder.ensures.left c.show-in-Ok-true.result
    c.show-in-Ok-true.ensures.drawn

pub returns-in-Ok-true-clause-cut : goal.returns-in-Ok-true-clause-cut
returns-in-Ok-true-clause-cut g c =
    cut_second _ _ _ _ _ _ _ _ _ c.in_ok-shown.ensures.drawn c.wonder.ensures.left c.show-in-Ok-true.result
    c.show-in-Ok-true.ensures.cut

pub returns-in_default-clause-drawn : goal.returns-in_default-clause-drawn
returns-in_default-clause-drawn g c =
    drawn_once _ _ _ _ _ _ _ c.in_ok-shown.ensures.drawn c.wonder.ensures.left
