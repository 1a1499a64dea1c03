use Rattle.psg_prompt.proofs.PromptLaws.{on_err, pressed_end, pressed_more, told_end_of, told_first, told_more}
use Rattle.psg_prompt.proofs.prompt.Prompt.press_all.Goals as goal

pub loop-number-preserved : goal.loop-number-preserved
loop-number-preserved c = record {
  pressed = pressed_more _ _ _ c.args.strokes.now c.loop-number.number c.index-strokes-number.result c.loop-number-test.true
      c.index-strokes-number.is c.loop-number.invariant.pressed c.in_ok-press.ensures.pressed;
  told = told_more _ _ c.press.new.self c.args.strokes.now c.loop-number.number c.index-strokes-number.result c.loop-number-test.true
      c.index-strokes-number.is c.loop-number.invariant.pressed _ _ _ c.loop-number.invariant.told c.in_ok-press.ensures.told;
}

pub returns-in_err-press-clause-memory : goal.returns-in_err-press-clause-memory
returns-in_err-press-clause-memory c =
    on_err _ _ (told_first _ _ c.press.new.self c.args.strokes.now c.loop-number.number c.index-strokes-number.result c.loop-number-test.true
    c.index-strokes-number.is c.loop-number.invariant.pressed _ _ _ c.loop-number.invariant.told c.in_err-press.ensures.memory)

pub returns-clause-pressed : goal.returns-clause-pressed
returns-clause-pressed c =
    pressed_end _ _ c.args.strokes.now c.loop-number.number c.loop-number-test.false c.loop-number.invariant.pressed

pub returns-clause-told : goal.returns-clause-told
returns-clause-told c =
    told_end_of _ c.args.strokes.now c.loop-number.number c.loop-number-test.false _ _ c.loop-number.invariant.told
