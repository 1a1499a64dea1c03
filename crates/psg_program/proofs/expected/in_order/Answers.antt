use Rattle.std.proofs.Common.{◌∙◌}
use Rattle.psg_program.proofs.Told.{whole_order}
use Rattle.psg_program.proofs.expected.in_order.Goals as goal

pub returns : goal.returns
returns c =
    whole_order c.args.definition.now _ _ _ _ _ _ _ c.new-all.ensures.items c.in_ok-add_words.ensures
    (c.as_slice.ensures.value ∙ c.in_ok-words.ensures) c.in_ok-add_leaves.ensures c.in_ok-add_holes.ensures
    c.as_slice-2.ensures c.in_ok-push.ensures.items
