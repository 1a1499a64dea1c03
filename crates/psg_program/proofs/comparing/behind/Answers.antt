use Rattle.std.proofs.Common.{refl, ap, ◌∙◌}
use Rattle.psg_program.specs.Compared.{pieces_in}
use Rattle.psg_program.proofs.comparing.behind.Goals as goal

pub returns-in-Some : goal.returns-in-Some
returns-in-Some c = (refl, (pieces_in c.first_line.result.rest, ap pieces_in c.in-Some.is ∙ c.first_line.ensures.pieces))
