use Rattle.std.proofs.Common.{◌+◌, ◌-◌, ◌^◌, ◌≤◌, ◌∙◌, length, min, sym, ap, map-id, arith, encode_utf8_all}
use Rattle.std.specs.Char.{len_utf8}
use Rattle.std.proofs.lemmas.Iterator.{YieldsList-from_chars}
use Rattle.std.proofs.lemmas.Iterator.Consumers.{YieldsList-end, YieldsList-so_far, YieldsList-turn}
use Rattle.psg_picture.specs.Scrolling.{columns_between}
use Rattle.psg_picture.proofs.MarkedLaws.{encoded-within}
use Rattle.psg_picture.proofs.ScrollLaws.{IsCounted-init, IsCounted-step}
use Rattle.psg_picture.proofs.scrolling.column_of.Goals as goal

pub loop-c-init : goal.loop-c-init
loop-c-init c = IsCounted-init c.args.from c.args.to

pub overflow_add-byte : goal.overflow_add-byte
overflow_add-byte c =
    let road = YieldsList-from_chars c.args.text.now c.utf8.text cc in
    let turn = YieldsList-turn road c.loop-c.yielded _ c.loop-c.yielded_by _ _ c.in-Some.c c.in-Some.is c.next.ensures.steps in
    let so_far = YieldsList-so_far road c.loop-c.yielded _ c.loop-c.yielded_by in
    let within : length (encode_utf8_all c.loop-c.yielded) + len_utf8 c.in-Some.c ≤ length c.args.text.now =
    encoded-within c.args.text.now c.loop-c.yielded c.in-Some.c c.utf8.text (sym (map-id c.loop-c.yielded) ∙ so_far) turn.0 turn.1 in
    omega (arith, within, c.loop-c.invariant.place, c.len_utf8-byte.ensures.value)

pub loop-c-preserved : goal.loop-c-preserved
loop-c-preserved c =
    IsCounted-step c.args.from c.args.to c.loop-c.yielded c.loop-c.column c.loop-c.byte c.in-Some.c c.with_width-column.result _ c.loop-c.invariant
    c.with_width-column.ensures (ap (λ n. c.loop-c.byte + n) c.len_utf8-byte.ensures.value)

pub returns : goal.returns
returns c =
    let end = YieldsList-end (YieldsList-from_chars c.args.text.now c.utf8.text cc) c.loop-c.yielded _ c.loop-c.yielded_by _ _ c.in-None.is c.next.ensures.steps in
    c.loop-c.invariant.columns ∙ ap (λ cs. min (columns_between c.args.from c.args.to 0 cs) (2 ^ 32 - 1)) (sym (map-id c.loop-c.yielded) ∙ end.0)
