use Rattle.std.proofs.Common.{◌∙◌}
use Rattle.psg_tui.proofs.opening.begin.Goals as goal

pub returns-in_ok-filled-in-Some : goal.returns-in_ok-filled-in-Some
returns-in_ok-filled-in-Some g c =
    let s = c.in_ok-session-in-Some.ensures in
    let f = c.in_ok-filled-in-Some.ensures in
    let grown = f.1 c.args.kind s.1 s.2 in
    (f.0 ∙ s.0, grown.0, grown.1)
