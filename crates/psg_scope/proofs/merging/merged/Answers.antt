use Rattle.std.proofs.Common.{◌||◌, refl, ap, ◌∙◌}
use Rattle.psg_scope.proofs.MergeLaws.{step_left, step_right, step_both, start}
use Rattle.psg_scope.proofs.RunLaws.{rising_rest, left_shorter, right_shorter, both_shorter}
use Rattle.psg_scope.proofs.merging.merged.Goals as goal

pub loop-all-init : goal.loop-all-init
loop-all-init c = record {
  up_to = start _ _ _ c.in_ok-with_capacity.ensures.items c.in_ok-with_capacity-2.ensures.items
      c.in_ok-with_capacity-3.ensures.items refl;
  left_rises = c.requires.left;
  right_rises = c.requires.right;
}

pub loop-all-preserved-in-Left : goal.loop-all-preserved-in-Left
loop-all-preserved-in-Left c =
    let on = c.in_ok-rests.ensures in
    let inside = c.loop-all.invariant in
    record {
      up_to = step_left (on.up_to _ _ inside.up_to) c.in-Left.ensures c.in_ok-add_left-in-Left.ensures;
      left_rises = rising_rest _ _ _ c.in-Left.ensures.0 (on.left_rises inside.left_rises);
      right_rises = on.right_rises inside.right_rises;
    }

pub loop-all-preserved-in-Right : goal.loop-all-preserved-in-Right
loop-all-preserved-in-Right c =
    let on = c.in_ok-rests.ensures in
    let inside = c.loop-all.invariant in
    record {
      up_to = step_right (on.up_to _ _ inside.up_to) c.in-Right.ensures c.in_ok-add_right-in-Right.ensures;
      left_rises = on.left_rises inside.left_rises;
      right_rises = rising_rest _ _ _ c.in-Right.ensures.0 (on.right_rises inside.right_rises);
    }

pub loop-all-preserved : goal.loop-all-preserved
loop-all-preserved c =
    let on = c.in_ok-rests.ensures in
    let inside = c.loop-all.invariant in
    record {
      up_to = step_both (on.up_to _ _ inside.up_to) c.in-Both.ensures c.in_ok-add_both-in-Both.ensures
          (c.is_either.ensures ∙ ap (λ b. c.add_both.new.self.clashes || b) c.are_declared.ensures);
      left_rises = rising_rest _ _ _ c.in-Both.ensures.0 (on.left_rises inside.left_rises);
      right_rises = rising_rest _ _ _ c.in-Both.ensures.1 (on.right_rises inside.right_rises);
    }

pub loop-all-smaller-in-Left : goal.loop-all-smaller-in-Left
loop-all-smaller-in-Left c = left_shorter _ _ _ _ _ c.in-Left.ensures.0 c.in_ok-rests.ensures.shorter

pub loop-all-smaller-in-Right : goal.loop-all-smaller-in-Right
loop-all-smaller-in-Right c = right_shorter _ _ _ _ _ c.in-Right.ensures.0 c.in_ok-rests.ensures.shorter

pub loop-all-smaller : goal.loop-all-smaller
loop-all-smaller c = both_shorter _ _ _ _ _ _ _ c.in-Both.ensures.0 c.in-Both.ensures.1 c.in_ok-rests.ensures.shorter
