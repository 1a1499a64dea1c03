use Rattle.std.proofs.Common.{length, arith, ◌∙◌, refl, subst}
use Rattle.psg_class.specs.Texts.{tokens_of}
use Rattle.psg_parse.specs.States.{Leads, Steps}
use Rattle.psg_parse.specs.Work.{Advances, state_work}
use Rattle.psg_parse.proofs.Leading.{goes_further, led_on, stays}
use Rattle.psg_parse.proofs.Taken.{as_many, none_taken}
use Rattle.psg_parse.proofs.advance.take.Goals as goal

pub steps-init : goal.steps-init
steps-init c = record {
  goes = λ aim st h. record { aim = aim; st = st; stands = h; taken = _; are = refl; moves = stays c.args.definition.now aim st (tokens_of c.args.state.rest.now) };
  same = refl;
  none = refl;
}

pub steps-preserved : goal.steps-preserved
steps-preserved c =
    let def = c.args.definition.now in
    let same = (none_taken (length c.steps.state.rest.now) (state_work c.steps.state) c.in-Go.next
    (subst (Advances (length c.steps.state.rest.now) (state_work c.steps.state)) c.in-Go.is c.in_ok-next.ensures.advances) (omega (arith, c.if-next-tokens.false, c.steps.invariant.same))).0 in
    record {
      goes = λ aim st h. goes_further def aim st (tokens_of c.args.state.rest.now) c.steps.state (c.steps.invariant.goes aim st h) c.in-Go.next
          (λ to on x. subst (Steps def to on (tokens_of c.steps.state.rest.now)) c.in-Go.is (c.in_ok-next.ensures.leads to on x));
      same = same ∙ c.steps.invariant.same;
      none = same ∙ c.steps.invariant.none;
    }

pub returns-then-next-tokens-clause-leads : goal.returns-then-next-tokens-clause-leads
returns-then-next-tokens-clause-leads c aim st h =
    let def = c.args.definition.now in
    goes_further def aim st (tokens_of c.args.state.rest.now) c.steps.state (c.steps.invariant.goes aim st h) c.in-Go.next
    (λ to on x. subst (Steps def to on (tokens_of c.steps.state.rest.now)) c.in-Go.is (c.in_ok-next.ensures.leads to on x))

pub returns-in-Done-clause-leads : goal.returns-in-Done-clause-leads
returns-in-Done-clause-leads c aim st h =
    let def = c.args.definition.now in
    let ts = tokens_of c.args.state.rest.now in
    subst (Leads def aim st ts) c.in-Done.is (led_on def aim st ts c.steps.state (c.steps.invariant.goes aim st h) (as_many c.steps.state.rest.now c.args.state.rest.now c.steps.invariant.none) c.in_ok-next.field-0 c.in_ok-next.ensures.leads)

pub returns-in-NoTree-clause-leads : goal.returns-in-NoTree-clause-leads
returns-in-NoTree-clause-leads c aim st h =
    let def = c.args.definition.now in
    let ts = tokens_of c.args.state.rest.now in
    subst (Leads def aim st ts) c.in-NoTree.is (led_on def aim st ts c.steps.state (c.steps.invariant.goes aim st h) (as_many c.steps.state.rest.now c.args.state.rest.now c.steps.invariant.none) c.in_ok-next.field-0 c.in_ok-next.ensures.leads)
