use Rattle.std.proofs.Common.{ap, sym, ◌∙◌}
use Rattle.psg_ranges.specs.Forests.{at_path, first_range}
use Rattle.psg_pointing.proofs.Tellings.{none_found, some_found}
use Rattle.psg_pointing.proofs.hovering.range_there.Goals as goal

pub unreachable-requires : goal.unreachable-requires
unreachable-requires c =
    let (nodes, e, range, is) = c.requires in
    none_found c.at.result _ range c.in-None.is (c.at.ensures nodes e)
    (ap (λ p. first_range (at_path nodes p)) c.steps-steps.ensures ∙ is)

pub returns : goal.returns
returns c = λ nodes e.
    ap (λ p. first_range (at_path nodes p)) (sym c.steps-steps.ensures)
    ∙ some_found c.at.result c.in-Some.range _ c.in-Some.is (c.at.ensures nodes e)
