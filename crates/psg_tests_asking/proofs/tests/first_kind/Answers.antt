use Rattle.std.proofs.Common.{subst}
use Rattle.psg_grammar.specs.Kinds.{HasKind}
use Rattle.psg_tests_asking.proofs.tests.first_kind.Goals as goal

pub returns-in-Some : goal.returns-in-Some
returns-in-Some c = subst (λ d. HasKind d c.in-Some.kind) c.definition-definition.ensures.same c.in-Some.ensures
