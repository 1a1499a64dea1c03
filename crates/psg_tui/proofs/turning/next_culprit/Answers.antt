use Rattle.std.proofs.Common.{sym, ap, ◌∙◌}
use Rattle.std.specs.Prelude.{Some, option_map}
use Rattle.std.specs.Option.{option_copied}
use Rattle.psg_keymap.specs.Faces.{of_parts}
use Rattle.psg_tui.proofs.turning.next_culprit.Goals as goal

pub returns-in_ok-path-in-Some : goal.returns-in_ok-path-in-Some
returns-in_ok-path-in-Some c =
    ap (λ p. Some (p, of_parts)) c.in_ok-path-in-Some.ensures
    ∙ ap (λ o. option_map (λ p. (p, of_parts)) (option_copied o)) (sym c.in-Some.is)
    ∙ ap (λ o. option_map (λ p. (p, of_parts)) o) c.next_of.ensures

pub returns-in-None : goal.returns-in-None
returns-in-None c =
    ap (λ o. option_map (λ p. (p, of_parts)) (option_copied o)) (sym c.in-None.is)
    ∙ ap (λ o. option_map (λ p. (p, of_parts)) o) c.next_of.ensures
