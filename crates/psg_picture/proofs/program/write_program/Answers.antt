use Rattle.std.proofs.Common.{◌+◌, ◌-◌, [], ◌∷◌, ◌++◌, eqb, length, map, lit<, refl, arith}
use Rattle.std.specs.List.{slice_split}
use Rattle.std.proofs.lemmas.Iterator.{YieldsList-from_take}
use Rattle.std.proofs.lemmas.Iterator.Consumers.{YieldsList-at, YieldsList-end, YieldsList-so_far, YieldsList-turn}
use Rattle.std.proofs.lemmas.Iterator.Splits.{YieldsList-from_str_split}
use Rattle.std.proofs.lemmas.List.{length-take, map-append}
use Rattle.psg_picture.proofs.MarkedLaws.{HasWalked-init, HasWalked-step, lines-within, map-long, program-end}
use Rattle.psg_picture.proofs.program.write_program.Goals as goal

pub loop-line-init : goal.loop-line-init
loop-line-init c = HasWalked-init c.args.view c.args.marks.now c.args.sketch.now

pub overflow_add-number : goal.overflow_add-number
overflow_add-number c =
    let parts = YieldsList-from_str_split 10 c.args.text.now (lit< tt) c.split.ensures.text c.split.ensures.has_more c.split.ensures.pattern in
    let taken = YieldsList-from_take (c.args.view.top + c.args.rows) (YieldsList-at c.take-line-items.ensures.source parts) c.take-line-items.ensures.count in
    let looped = YieldsList-at {s = c.into_iter-line-iterator.result} (cc) taken in
    let turn = YieldsList-turn looped c.loop-line.yielded _ c.loop-line.yielded_by _ _ c.in-Some.line c.in-Some.is c.next.ensures.steps in
    let most = length-take (c.args.view.top + c.args.rows) (slice_split (λ b. eqb b 10) c.args.text.now) in
    let long = map-long (λ line. line.now) c.loop-line.yielded in
    omega (arith, turn.0, most, long, c.loop-line.invariant.lines_are)

pub overflow_add-byte : goal.overflow_add-byte
overflow_add-byte c =
    let parts = YieldsList-from_str_split 10 c.args.text.now (lit< tt) c.split.ensures.text c.split.ensures.has_more c.split.ensures.pattern in
    let taken = YieldsList-from_take (c.args.view.top + c.args.rows) (YieldsList-at c.take-line-items.ensures.source parts) c.take-line-items.ensures.count in
    let looped = YieldsList-at {s = c.into_iter-line-iterator.result} (cc) taken in
    let turn = YieldsList-turn looped c.loop-line.yielded _ c.loop-line.yielded_by _ _ c.in-Some.line c.in-Some.is c.next.ensures.steps in
    let so_far = YieldsList-so_far looped c.loop-line.yielded _ c.loop-line.yielded_by in
    let within = lines-within c.args.text.now (c.args.view.top + c.args.rows) (length c.loop-line.yielded) (map (λ line. line.now) c.loop-line.yielded) c.in-Some.line.now so_far turn.0 turn.1 in
    omega (arith, within, c.loop-line.invariant.place)

pub overflow_add-byte-in-loop-line : goal.overflow_add-byte-in-loop-line
overflow_add-byte-in-loop-line c =
    let parts = YieldsList-from_str_split 10 c.args.text.now (lit< tt) c.split.ensures.text c.split.ensures.has_more c.split.ensures.pattern in
    let taken = YieldsList-from_take (c.args.view.top + c.args.rows) (YieldsList-at c.take-line-items.ensures.source parts) c.take-line-items.ensures.count in
    let looped = YieldsList-at {s = c.into_iter-line-iterator.result} (cc) taken in
    let turn = YieldsList-turn looped c.loop-line.yielded _ c.loop-line.yielded_by _ _ c.in-Some.line c.in-Some.is c.next.ensures.steps in
    let so_far = YieldsList-so_far looped c.loop-line.yielded _ c.loop-line.yielded_by in
    let within = lines-within c.args.text.now (c.args.view.top + c.args.rows) (length c.loop-line.yielded) (map (λ line. line.now) c.loop-line.yielded) c.in-Some.line.now so_far turn.0 turn.1 in
    omega (arith, within, c.loop-line.invariant.place)

pub write_line-requires : goal.write_line-requires
write_line-requires c =
    let parts = YieldsList-from_str_split 10 c.args.text.now (lit< tt) c.split.ensures.text c.split.ensures.has_more c.split.ensures.pattern in
    let taken = YieldsList-from_take (c.args.view.top + c.args.rows) (YieldsList-at c.take-line-items.ensures.source parts) c.take-line-items.ensures.count in
    let looped = YieldsList-at {s = c.into_iter-line-iterator.result} (cc) taken in
    let turn = YieldsList-turn looped c.loop-line.yielded _ c.loop-line.yielded_by _ _ c.in-Some.line c.in-Some.is c.next.ensures.steps in
    let so_far = YieldsList-so_far looped c.loop-line.yielded _ c.loop-line.yielded_by in
    let within = lines-within c.args.text.now (c.args.view.top + c.args.rows) (length c.loop-line.yielded) (map (λ line. line.now) c.loop-line.yielded) c.in-Some.line.now so_far turn.0 turn.1 in
    omega (arith, within, c.loop-line.invariant.place)

pub loop-line-preserved : goal.loop-line-preserved
loop-line-preserved c =
    HasWalked-step c.args.view c.args.marks.now c.args.sketch.now c.loop-line.sketch c.write_line.new.sketch
    (map (λ line. line.now) c.loop-line.yielded) (map (λ line. line.now) (c.loop-line.yielded ++ c.in-Some.line ∷ [])) c.in-Some.line.now c.loop-line.number c.loop-line.byte
    _ _ c.is_from-is_shown.result c.loop-line.invariant c.is_from-is_shown.ensures c.in_ok-write_line.ensures refl refl
    (map-append (λ line. line.now) c.loop-line.yielded (c.in-Some.line ∷ []))

pub overflow_sub-last : goal.overflow_sub-last
overflow_sub-last c =
    let parts = YieldsList-from_str_split 10 c.args.text.now (lit< tt) c.split.ensures.text c.split.ensures.has_more c.split.ensures.pattern in
    let taken = YieldsList-from_take (c.args.view.top + c.args.rows) (YieldsList-at c.take-line-items.ensures.source parts) c.take-line-items.ensures.count in
    let looped = YieldsList-at {s = c.into_iter-line-iterator.result} (cc) taken in
    let end = YieldsList-end looped c.loop-line.yielded _ c.loop-line.yielded_by _ _ c.in-None.is c.next.ensures.steps in
    let most = length-take (c.args.view.top + c.args.rows) (slice_split (λ b. eqb b 10) c.args.text.now) in
    let long = map-long (λ line. line.now) c.loop-line.yielded in
    omega (arith, end.1, most, long, c.loop-line.invariant.lines_are)

pub returns : goal.returns
returns c =
    let parts = YieldsList-from_str_split 10 c.args.text.now (lit< tt) c.split.ensures.text c.split.ensures.has_more c.split.ensures.pattern in
    let taken = YieldsList-from_take (c.args.view.top + c.args.rows) (YieldsList-at c.take-line-items.ensures.source parts) c.take-line-items.ensures.count in
    let looped = YieldsList-at {s = c.into_iter-line-iterator.result} (cc) taken in
    let end = YieldsList-end looped c.loop-line.yielded _ c.loop-line.yielded_by _ _ c.in-None.is c.next.ensures.steps in
    program-end c.args.view c.args.marks.now c.args.rows (c.args.view.top + c.args.rows) (slice_split (λ b. eqb b 10) c.args.text.now)
    (map (λ line. line.now) c.loop-line.yielded) c.args.sketch.now c.loop-line.sketch c.write_empty.new.sketch c.loop-line.number c.loop-line.byte
    (c.args.view.top + c.args.rows - c.max.result) refl end.0 c.loop-line.invariant (omega arith) c.in_ok-write_empty.ensures
