use Rattle.std.proofs.Common.{rules, ◌≡◌, ◌∙◌, [], ap, length, subst, sym}
use Rattle.psg_class.specs.Texts.{tokens_of}
use Rattle.psg_stop.specs.Wanted.{wanted_terminals}
use Rattle.psg_stop.proofs.Told.{AreTold, none_told, told_end, told_step}
use Rattle.psg_stop.proofs.stopping.wanted_after.Goals as goal

pub loop-candidate-init : goal.loop-candidate-init
loop-candidate-init c all b =
    let def = c.args.definition.now in
    let ts = tokens_of c.args.tokens.now in
    subst (λ ws. AreTold def c.args.goal.kind c.args.goal.least ts [] (wanted_terminals ws)) (sym c.new-wanted.ensures.items) (none_told def c.args.goal.kind c.args.goal.least ts)

pub loop-candidate-preserved : goal.loop-candidate-preserved
loop-candidate-preserved c all b =
    told_step c.args.definition.now c.args.goal.kind c.args.goal.least (tokens_of c.args.tokens.now) c.as_slice-candidate-items.result.now c.loop-candidate.candidate-index c.candidate-item.result
    (wanted_terminals c.loop-candidate.wanted.items) _ c.loop-candidate-test.true c.candidate-item.is (c.loop-candidate.invariant all b) (c.in_ok-ask.ensures all b)

pub returns : goal.returns
returns c all b =
    let end : c.loop-candidate.candidate-index ≡ length c.as_slice-candidate-items.result.now = search rules in
    told_end c.args.definition.now c.args.goal.kind c.args.goal.least (tokens_of c.args.tokens.now) c.as_slice-candidate-items.result.now c.loop-candidate.candidate-index (wanted_terminals c.loop-candidate.wanted.items)
    end (ap wanted_terminals c.as_slice-candidate-items.ensures.value ∙ c.in_ok-all.ensures) (c.loop-candidate.invariant all b)
