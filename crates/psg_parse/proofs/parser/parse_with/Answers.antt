use Rattle.std.proofs.Common.{◌<◌, ◌+◌, length, ap, subst}
use Rattle.std.proofs.lemmas.Result.{IfOk-weaker, IfErr-weaker}
use Rattle.psg_parse.specs.Answers.{IsParsed}
use Rattle.psg_parse.specs.Work.{Takes}
use Rattle.psg_parse.proofs.Taken.{begun, formed, gives_only, got_on, no_tree, parsed, refused, ticked}
use Rattle.psg_parse.proofs.parser.parse_with.Goals as goal

pub tokens-init : goal.tokens-init
tokens-init g c = record {
  goes = begun c.args.definition.now c.args.goal c.args.tokens.now c.begin-state.result c.begin-state.ensures;
  ticks = ap (λ ts. c.args.steps.now + length ts) c.begin-state.ensures.rest;
}

pub tokens-preserved : goal.tokens-preserved
tokens-preserved g c =
    let def = c.args.definition.now in
    let taken : length c.in-Go.next.rest.now < length c.tokens.state.rest.now = subst (Takes (length c.tokens.state.rest.now)) c.in-Go.is c.in_ok-next.ensures.takes in
    record {
      goes = got_on def c.args.goal c.args.tokens.now c.tokens.state c.in-Go.next c.tokens.invariant.goes c.in_ok-next.field-0 c.in-Go.is c.in_ok-next.ensures.leads;
      ticks = ticked c.tokens.steps c.count.new.steps c.args.steps.now (length c.args.tokens.now) (length c.tokens.state.rest.now) (length c.in-Go.next.rest.now) c.tokens.invariant.ticks taken c.count.ensures;
    }

pub returns-in-Done-clause-tree : goal.returns-in-Done-clause-tree
returns-in-Done-clause-tree g c =
    let def = c.args.definition.now in
    let done = gives_only def c.args.goal c.args.tokens.now c.requires.class c.tokens.state c.tokens.invariant.goes c.in_ok-next.field-0 c.in-Done.tree c.in-Done.is c.in_ok-next.ensures.leads in
    IfOk-weaker c.within.result _ _ (λ t h. parsed def c.args.goal c.args.tokens.now c.in-Done.tree t done h) c.within.ensures.ok

pub returns-in-Done-clause-formed : goal.returns-in-Done-clause-formed
returns-in-Done-clause-formed g c =
    IfOk-weaker c.within.result (IsParsed c.args.definition.now c.args.goal c.args.tokens.now) _ (λ t p. formed c.args.definition.now c.args.goal c.args.tokens.now t c.read_values.ensures p)
    (returns-in-Done-clause-tree g c)

pub returns-in-Done-clause-fault : goal.returns-in-Done-clause-fault
returns-in-Done-clause-fault g c =
    let def = c.args.definition.now in
    let done = gives_only def c.args.goal c.args.tokens.now c.requires.class c.tokens.state c.tokens.invariant.goes c.in_ok-next.field-0 c.in-Done.tree c.in-Done.is c.in_ok-next.ensures.leads in
    IfErr-weaker c.within.result _ _ (λ fault h. refused def c.args.goal c.args.tokens.now c.in-Done.tree fault done h) c.within.ensures.err

pub returns-in-NoTree-clause-fault : goal.returns-in-NoTree-clause-fault
returns-in-NoTree-clause-fault g c =
    let def = c.args.definition.now in
    no_tree def c.args.goal c.args.tokens.now c.requires.class c.tokens.state c.tokens.invariant.goes c.in_ok-next.field-0 c.in-NoTree.is c.in_ok-next.ensures.leads
