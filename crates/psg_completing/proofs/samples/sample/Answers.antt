use Rattle.std.proofs.Common.{ap, ◌∙◌}
use Rattle.psg_grammar.specs.Fragments.{operator}
use Rattle.psg_tree.specs.Shapes.{with_parts}
use Rattle.psg_completing.proofs.Sampling.{sample_end, sample_first, sample_next}
use Rattle.psg_completing.proofs.samples.sample.Goals as goal

pub loop-place-init : goal.loop-place-init
loop-place-init c =
    sample_first c.args.definition.now c.args.name.now c.args.op c.args.operator.now c.as_slice-items.result.now _
    c.requires c.as_slice-items.ensures c.new-parts.ensures.items

pub loop-place-preserved : goal.loop-place-preserved
loop-place-preserved c =
    sample_next c.args.definition.now c.args.name.now c.args.op c.as_slice-items.result.now c.loop-place.place
    c.index-items-place.result c.loop-place.parts.items c.push_sample.new.parts.items _ c.loop-place-test.true c.index-items-place.is
    c.in_ok-push_sample.ensures c.loop-place.invariant

pub returns : goal.returns
returns c =
    c.in_ok-tree.ensures ∙ ap (with_parts (operator c.args.op)) c.of-parts.ensures
    ∙ sample_end c.args.definition.now c.args.name.now c.args.op c.as_slice-items.result.now c.loop-place.place
    c.loop-place.parts.items _ c.loop-place-test.false c.loop-place.invariant
