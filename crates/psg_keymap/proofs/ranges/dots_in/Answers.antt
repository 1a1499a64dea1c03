use Rattle.std.proofs.Common.{ap, option_map, sym, ◌∙◌}
use Rattle.psg_face.proofs.MoveLaws.{parent_is}
use Rattle.psg_keymap.specs.Ranges.{both, last_three, span_at}
use Rattle.psg_keymap.proofs.ranges.dots_in.Goals as goal

pub returns-in-Some : goal.returns-in-Some
returns-in-Some c =
    c.dots_of-dots.ensures
    ∙ ap (λ p. option_map both (option_map last_three (span_at c.args.spans.now p)))
    (parent_is c.args.path.now c.in-Some.front.now _ (sym c.steps.ensures ∙ c.in-Some.ensures.cases.0))
