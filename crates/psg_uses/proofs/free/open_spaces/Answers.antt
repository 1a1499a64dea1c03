use Rattle.std.proofs.Common.{◌≡◌, length, Some, ap, ◌∙◌, arith}
use Rattle.psg_uses.specs.Linked.{open_below}
use Rattle.psg_uses.proofs.FreeLaws.{open_pushed}
use Rattle.psg_uses.proofs.free.open_spaces.Goals as goal

pub loop-place-init : goal.loop-place-init
loop-place-init c = c.new-found.ensures.items

pub loop-place-preserved : goal.loop-place-preserved
loop-place-preserved c =
    open_pushed c.args.linking.known.definition.now c.args.node.now c.loop-place.place c.in_ok-space.space
    c.is_unfinished-may.result c.loop-place.found.items c.push_space.new.found.items c.loop-place.invariant
    c.in_ok-space.ensures.step c.is_unfinished-may.ensures c.in_ok-push_space.ensures

pub returns : goal.returns
returns c =
    let spaces = c.args.linking.known.definition.now.spaces in
    let all : c.loop-place.place ≡ length c.as_slice-spaces.result.now = omega arith in
    c.loop-place.invariant
    ∙ ap (open_below c.args.linking.known.definition.now (Some c.args.node.now)) (all ∙ ap length c.as_slice-spaces.ensures)
