use Rattle.std.proofs.Common.{Some, ap, ◌∙◌}
use Rattle.psg_ranges.specs.Forests.{at_path, first_range}
use Rattle.psg_recover.specs.Lost.{path_back}
use Rattle.psg_recover.proofs.spots.range_at.Goals as goal

pub returns : goal.returns
returns c = λ nodes are.
    c.at-found.ensures nodes are
    ∙ ap (λ path. first_range (at_path nodes path)) (c.as_slice.ensures.value ∙ c.in_ok-back.ensures ∙ ap (path_back c.args.spots.known.definition.now (Some c.args.spots.whole.now)) c.steps-steps.ensures)
