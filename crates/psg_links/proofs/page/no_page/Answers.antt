use Rattle.std.proofs.Common.{subst}
use Rattle.psg_program.specs.OneAnswer.{HasOneAnswer}
use Rattle.psg_links.proofs.PageLaws.{no_program}
use Rattle.psg_links.proofs.page.no_page.Goals as goal

pub one_answer-requires : goal.one_answer-requires
one_answer-requires c = rw c.definition-definition.ensures.same c.definition-definition.ensures.accepted.of_class

pub returns-in-Syntax-clause-fault : goal.returns-in-Syntax-clause-fault
returns-in-Syntax-clause-fault c = λ kind bytes f faulty program.
    no_program c.args.language.now (subst HasOneAnswer c.definition-definition.ensures.same c.one_answer.ensures) kind bytes f
    c.args.fault.now _ c.in-Syntax.is faulty program
