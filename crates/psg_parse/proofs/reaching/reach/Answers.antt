use Rattle.std.proofs.Common.{◌≡◌, ◌<◌, ◌-◌, length, ap, subst, arith}
use Rattle.psg_parse.specs.Work.{Takes}
use Rattle.psg_parse.proofs.Taken.{begun, gives_only, got_on}
use Rattle.psg_parse.proofs.Fronts.{ends_not, ends_whole, stop_is, stops_at, whole_is, whole_stops}
use Rattle.psg_parse.proofs.reaching.reach.Goals as goal

pub tokens-init : goal.tokens-init
tokens-init c = record {
  goes = begun c.args.definition.now c.args.goal c.args.tokens.now c.begin-state.result c.begin-state.ensures;
  fewer = (let e : length c.begin-state.result.rest.now ≡ length c.args.tokens.now = ap length c.begin-state.ensures.rest in omega (arith, e));
}

pub tokens-preserved : goal.tokens-preserved
tokens-preserved c =
    let taken : length c.in-Go.next.rest.now < length c.tokens.state.rest.now = subst (Takes (length c.tokens.state.rest.now)) c.in-Go.is c.in_ok-next.ensures.takes in
    record {
      goes = got_on c.args.definition.now c.args.goal c.args.tokens.now c.tokens.state c.in-Go.next c.tokens.invariant.goes c.in_ok-next.field-0 c.in-Go.is c.in_ok-next.ensures.leads;
      fewer = omega (arith, taken, c.tokens.invariant.fewer);
    }

pub returns-in-Done-clause-whole : goal.returns-in-Done-clause-whole
returns-in-Done-clause-whole c =
    let def = c.args.definition.now in
    ends_whole def c.args.goal c.args.tokens.now c.requires.class _ (gives_only def c.args.goal c.args.tokens.now c.requires.class c.tokens.state c.tokens.invariant.goes c.in_ok-next.field-0 _ c.in-Done.is c.in_ok-next.ensures.leads)

pub returns-in-Done-clause-stop : goal.returns-in-Done-clause-stop
returns-in-Done-clause-stop c all b =
    let def = c.args.definition.now in
    whole_is def c.args.goal c.args.tokens.now c.requires.class _ (gives_only def c.args.goal c.args.tokens.now c.requires.class c.tokens.state c.tokens.invariant.goes c.in_ok-next.field-0 _ c.in-Done.is c.in_ok-next.ensures.leads)

pub returns-in-Done-clause-stops : goal.returns-in-Done-clause-stops
returns-in-Done-clause-stops c = whole_stops c.args.definition.now c.args.goal c.args.tokens.now c.requires.class

pub returns-in-NoTree-clause-stops : goal.returns-in-NoTree-clause-stops
returns-in-NoTree-clause-stops c =
    stops_at c.args.definition.now c.args.goal c.args.tokens.now c.requires.class c.tokens.state c.tokens.invariant.goes c.in_ok-next.field-0 c.in-NoTree.is c.in_ok-next.ensures.leads
    (length c.args.tokens.now - length c.tokens.state.rest.now) (omega (arith, c.tokens.invariant.fewer))

pub returns-in-NoTree-clause-whole : goal.returns-in-NoTree-clause-whole
returns-in-NoTree-clause-whole c =
    ends_not c.args.definition.now c.args.goal c.args.tokens.now c.requires.class c.tokens.state c.tokens.invariant.goes c.in_ok-next.field-0 c.in-NoTree.is c.in_ok-next.ensures.leads

pub returns-in-NoTree-clause-stop : goal.returns-in-NoTree-clause-stop
returns-in-NoTree-clause-stop c all b =
    stop_is c.args.definition.now c.args.goal c.args.tokens.now c.requires.class c.tokens.state c.tokens.invariant.goes c.in_ok-next.field-0 c.in-NoTree.is c.in_ok-next.ensures.leads
    (length c.args.tokens.now - length c.tokens.state.rest.now) (omega (arith, c.tokens.invariant.fewer)) all b
