use Rattle.std.proofs.Common.{get_or, sym, arith}
use Rattle.std.specs.Option.{option_copied}
use Rattle.std.proofs.lemmas.List.{get_or_read}
use Rattle.psg_terms.proofs.Lists.{get_or_fixed}
use Rattle.psg_recover.proofs.LostLaws.{path_end, path_next}
use Rattle.psg_recover.proofs.lost.path_back.Goals as goal

pub loop-step-preserved : goal.loop-step-preserved
loop-step-preserved c =
    let path = c.args.path.now in
    let i = c.loop-step.step-index in
    path_next c.args.known.definition.now path i (get_or path i 0) c.in_ok-own.own (option_copied c.loop-step.node)
    (option_copied c.child_of-node.result) c.loop-step.back.items c.push.new.self.items _ c.loop-step-test.true
    (get_or_fixed path i 0 c.loop-step-test.true) c.in_ok-own.ensures c.in_ok-push.ensures.items c.child_of-node.ensures c.loop-step.invariant

pub returns : goal.returns
returns c =
    path_end c.args.known.definition.now c.args.path.now c.loop-step.step-index (option_copied c.loop-step.node) c.loop-step.back.items _
    c.loop-step-test.false c.loop-step.invariant
