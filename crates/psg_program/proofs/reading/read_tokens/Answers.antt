use Rattle.std.proofs.Common.{subst}
use Rattle.std.proofs.lemmas.Result.{IfErr-weaker}
use Rattle.psg_grammar.specs.declared.types.Definition.{Definition}
use Rattle.psg_parse.specs.Answers.{IsParsed}
use Rattle.psg_parse.specs.declared.fault.Goal.{Goal}
use Rattle.psg_program.specs.Programs.{IsTextFault, goal_of}
use Rattle.psg_program.proofs.Reasons.{large}
use Rattle.psg_program.proofs.reading.read_tokens.Goals as goal

pub parse_with-requires-clause-class : goal.parse_with-requires-clause-class
parse_with-requires-clause-class g c =
    rw c.definition-definition.ensures.same c.definition-definition.ensures.accepted.of_class

pub returns-in-Ok-clause-fault : goal.returns-in-Ok-clause-fault
returns-in-Ok-clause-fault g c =
    let language = c.args.language.now in
    let parsed =
    subst (λ ts. IsParsed language (goal_of c.args.kind) ts c.in-Ok.tree) c.as_slice-row.ensures.value
    (subst (λ (aim : Goal). IsParsed language aim c.as_slice-row.result.now c.in-Ok.tree) c.whole.ensures
    (subst (λ (def : Definition). IsParsed def c.whole.result c.as_slice-row.result.now c.in-Ok.tree) c.definition-definition.ensures.same
    c.in-Ok.ensures.tree)) in
    IfErr-weaker c.within.result _ (IsTextFault language c.args.kind c.args.text.now)
    (λ fault h. large language c.args.kind c.args.text.now c.args.tokens.items c.requires.tokens c.in-Ok.tree parsed h.0 fault h.1)
    c.within.ensures.fault
