use Rattle.std.proofs.Common.{refl, sym, ◌∙◌}
use Rattle.psg_tui.proofs.RunningLaws.{as_none, by_cut, by_end, by_keys, by_stop, goes_on, same_of, so_counted, so_far_none, then_same, turn_so}
use Rattle.psg_tui.proofs.TurnLaws.{same_outside}
use Rattle.psg_tui.proofs.running.turns.Goals as goal

pub turns-init : goal.turns-init
turns-init g c = record { far = so_far_none _ _ _ (as_none _ _ _ _ c.new-reader.ensures); same = same_of _ }

pub returns-in-Err-clause-ran : goal.returns-in-Err-clause-ran
returns-in-Err-clause-ran g c =
    by_cut _ _ _ _ _ c.turns.invariant.far _ _ _ _ c.in-Err.ensures.cut (same_outside _ _ _ _ c.drawn.ensures.files)

pub returns-in-Err-next_piece-clause-ran : goal.returns-in-Err-next_piece-clause-ran
returns-in-Err-next_piece-clause-ran g c =
    by_stop _ _ _ _ _ c.turns.invariant.far _ _ _ _ _ c.in-Ok.ensures.drawn c.ending_of.ensures
    (same_outside _ _ _ _ c.drawn.ensures.files)

pub returns-then-is_last-clause-ran : goal.returns-then-is_last-clause-ran
returns-then-is_last-clause-ran g c =
    by_end _ _ _ _ _ c.turns.invariant.far _ _ _ _ _ _ c.in-Ok.ensures.drawn c.in-Ok-next_piece.ensures.gives
    (sym c.as_slice-bytes.ensures.value ∙ c.is_last.ensures.last c.if-is_last.true)
    (same_outside _ _ _ _ c.drawn.ensures.files)

pub returns-in-Err-read-clause-ran : goal.returns-in-Err-read-clause-ran
returns-in-Err-read-clause-ran g c =
    by_stop _ _ _ _ _ c.turns.invariant.far _ _ _ _ _ c.in-Ok.ensures.drawn tt
    (same_outside _ _ _ _ c.drawn.ensures.files)

pub returns-then-is_ended-clause-ran : goal.returns-then-is_ended-clause-ran
returns-then-is_ended-clause-ran g c =
    by_keys _ _ _ _ _ _ c.turns.invariant.far c.in-Ok.ensures.drawn.0 c.in-Ok.ensures.drawn.2 _
    (turn_so _ _ _ _ _ _ _ _ _ _ _ _ _ _ _ _ _ _ c.in-Ok.ensures.drawn.1 c.in-Ok-next_piece.ensures.gives
    c.as_slice-bytes.ensures.value (c.is_last.ensures.more c.if-is_last.false) c.in-Ok-read.ensures.reads
    c.as_slice-keys.ensures.value (same_outside _ _ _ _ c.drawn.ensures.files) c.press_all.ensures.taken
    c.left_by-shown.ensures)
    (sym c.is_ended.ensures ∙ c.if-is_ended.true)

pub turns-preserved : goal.turns-preserved
turns-preserved g c =
    record {
      far = goes_on _ _ _ _ _ _ c.turns.invariant.far c.in-Ok.ensures.drawn.0 c.in-Ok.ensures.drawn.2 _
          (turn_so _ _ _ _ _ _ _ _ _ _ _ _ _ _ _ _ _ _ c.in-Ok.ensures.drawn.1 c.in-Ok-next_piece.ensures.gives
          c.as_slice-bytes.ensures.value (c.is_last.ensures.more c.if-is_last.false) c.in-Ok-read.ensures.reads
          c.as_slice-keys.ensures.value (same_outside _ _ _ _ c.drawn.ensures.files) c.press_all.ensures.taken
          c.left_by-shown.ensures)
          (sym c.is_ended.ensures ∙ c.if-is_ended.false);
      same = then_same _ _ _ c.turns.invariant.same (then_same _ _ _ c.drawn.ensures.same c.press_all.ensures.same);
    }

pub returns-clause-ran : goal.returns-clause-ran
returns-clause-ran g c =
    so_counted _ _ _ _ _ c.turns.invariant.far c.turns-test.false _ _ refl refl
