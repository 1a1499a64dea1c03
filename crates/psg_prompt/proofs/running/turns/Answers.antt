use Rattle.std.proofs.Common.{sym, ◌∙◌}
use Rattle.psg_prompt.proofs.RunningLaws.{read_so, so_counted, so_cut, so_far_none, so_inputs, so_keyed, so_next, so_stops}
use Rattle.psg_prompt.proofs.running.turns.Goals as goal

pub turns-init : goal.turns-init
turns-init g c = so_far_none _ _ _ _ c.new-reader.ensures

pub returns-in-Err : goal.returns-in-Err
returns-in-Err g c = so_stops _ _ _ _ _ c.turns.invariant _ c.ending_of.ensures

pub returns-then-is_last : goal.returns-then-is_last
returns-then-is_last g c =
    so_inputs _ _ _ _ _ c.turns.invariant _ _ c.in-Ok.ensures.gives
    (sym c.as_slice-bytes.ensures.value ∙ c.is_last.ensures.last c.if-is_last.true)

pub returns-in-Err-read : goal.returns-in-Err-read
returns-in-Err-read g c = so_stops _ _ _ _ _ c.turns.invariant _ tt

pub returns-in-Err-answer : goal.returns-in-Err-answer
returns-in-Err-answer g c =
    so_cut _ _ _ _ _ c.turns.invariant _ _ _ _
    (read_so _ _ _ _ _ _ _ c.in-Ok.ensures.gives c.as_slice-bytes.ensures.value
    (c.is_last.ensures.more c.if-is_last.false) c.in-Ok-read.ensures.reads c.as_slice-keys.ensures.value)
    _ c.in-Err-answer.ensures.cut

pub returns-then-is_ended : goal.returns-then-is_ended
returns-then-is_ended g c =
    so_keyed _ _ _ _ _ c.turns.invariant _ _ _
    (read_so _ _ _ _ _ _ _ c.in-Ok.ensures.gives c.as_slice-bytes.ensures.value
    (c.is_last.ensures.more c.if-is_last.false) c.in-Ok-read.ensures.reads c.as_slice-keys.ensures.value)
    c.in-Ok-answer.ensures.pressed c.in-Ok-answer.ensures.told (sym c.is_ended.ensures ∙ c.if-is_ended.true)

pub turns-preserved : goal.turns-preserved
turns-preserved g c =
    so_next _ _ _ _ _ c.turns.invariant _ _ _
    (read_so _ _ _ _ _ _ _ c.in-Ok.ensures.gives c.as_slice-bytes.ensures.value
    (c.is_last.ensures.more c.if-is_last.false) c.in-Ok-read.ensures.reads c.as_slice-keys.ensures.value)
    c.in-Ok-answer.ensures.pressed c.in-Ok-answer.ensures.told (sym c.is_ended.ensures ∙ c.if-is_ended.false)

pub returns : goal.returns
returns g c = so_counted _ _ _ _ _ c.turns.invariant c.turns-test.false
