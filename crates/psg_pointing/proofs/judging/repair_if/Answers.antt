use Rattle.std.proofs.Common.{sym, ◌∙◌}
use Rattle.std.proofs.lemmas.Bool.{false≢true}
use Rattle.psg_pointing.proofs.judging.repair_if.Goals as goal

pub repair_of-requires : goal.repair_of-requires
repair_of-requires g c = record { formed = c.requires }

pub returns-then-wrong : goal.returns-then-wrong
returns-then-wrong g c = λ e. c.in_ok-repair.ensures.found

pub returns : goal.returns
returns g c = λ e. absurd (false≢true (sym c.if-wrong.false ∙ e))
