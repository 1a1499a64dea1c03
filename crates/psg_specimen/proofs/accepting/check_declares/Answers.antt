use Rattle.std.proofs.Common.{subst}
use Rattle.psg_specimen.specs.Declares.{IsDeclaration}
use Rattle.psg_specimen.specs.Walks.{Finds}
use Rattle.psg_specimen.proofs.accepting.check_declares.Goals as goal

pub returns-clause-met : goal.returns-clause-met
returns-clause-met c = (c.requires.before, subst (Finds (IsDeclaration c.args.definition.now)) c.in_default.is c.in_ok-row.ensures)
