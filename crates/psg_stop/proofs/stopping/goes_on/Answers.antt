use Rattle.std.proofs.Common.{◌∙◌, ap, arith, refl, sym, true≢false}
use Rattle.psg_class.specs.Texts.{tokens_of}
use Rattle.psg_parse.proofs.Taken.{tokens_length}
use Rattle.psg_stop.proofs.Asked.{from_nothing, goes_no, goes_yes}
use Rattle.psg_stop.proofs.stopping.goes_on.Goals as goal

pub returns-then-reached-count : goal.returns-then-reached-count
returns-then-reached-count c all b =
    let def = c.args.definition.now in
    let stop = c.in_ok-front.ensures.stop all (from_nothing def c.args.goal.kind c.args.goal.least (tokens_of c.args.tokens.now) b) in
    let more = goes_yes def c.args.goal.kind c.args.goal.least (tokens_of c.args.tokens.now) (tokens_of c.as_slice.result.now) c.args.token c.in_ok-front.front.tokens
    (ap tokens_of c.as_slice.ensures.value ∙ c.in_ok-row.ensures) stop (omega (arith, c.if-reached-count.true, tokens_length c.args.tokens.now)) in
    (λ e. more, λ g. refl)

pub returns : goal.returns
returns c all b =
    let def = c.args.definition.now in
    let stop = c.in_ok-front.ensures.stop all (from_nothing def c.args.goal.kind c.args.goal.least (tokens_of c.args.tokens.now) b) in
    let none = goes_no def c.args.goal.kind c.args.goal.least (tokens_of c.args.tokens.now) (tokens_of c.as_slice.result.now) c.args.token c.in_ok-front.front.tokens
    (ap tokens_of c.as_slice.ensures.value ∙ c.in_ok-row.ensures) stop b (λ lt. omega (arith, lt, c.if-reached-count.false, tokens_length c.args.tokens.now)) in
    (λ e. absurd (true≢false (sym e)), λ g. absurd (none g))
