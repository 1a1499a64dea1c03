use Rattle.std.proofs.Common.{ap, sym, ◌∙◌, Some}
use Rattle.std.proofs.lemmas.Option.{same_Some}
use Rattle.psg_canvas.proofs.pen.is_set.Goals as goal

pub returns-in-Some : goal.returns-in-Some
returns-in-Some c =
    (λ e. c.in-Some.is ∙ ap Some (c.is_same.ensures.0 e), λ e. c.is_same.ensures.1 (same_Some c.in-Some.known c.args.style (sym c.in-Some.is ∙ e)))
