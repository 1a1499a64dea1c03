use Rattle.std.proofs.Common.{◌+◌, ◌≤◌, ◌∙◌, length, sym, ap, map-id, arith, encode_utf8_all}
use Rattle.std.specs.Char.{len_utf8}
use Rattle.std.proofs.lemmas.Iterator.{YieldsList-from_chars}
use Rattle.std.proofs.lemmas.Iterator.Consumers.{YieldsList-end, YieldsList-so_far, YieldsList-turn}
use Rattle.psg_modes.specs.Turning.{chars_between}
use Rattle.psg_modes.proofs.CharLaws.{IsTaken-init, IsTaken-step, encoded-within}
use Rattle.psg_modes.proofs.node_text.chars_between.Goals as goal

pub loop-c-init : goal.loop-c-init
loop-c-init c = IsTaken-init c.args.start c.args.end c.new-all.result.items c.new-all.ensures.items

pub overflow_add-byte : goal.overflow_add-byte
overflow_add-byte c =
    let road = YieldsList-from_chars c.args.text.now c.utf8.text cc in
    let turn = YieldsList-turn road c.loop-c.yielded _ c.loop-c.yielded_by _ _ c.in-Some.c c.in-Some.is c.next.ensures.steps in
    let so_far = YieldsList-so_far road c.loop-c.yielded _ c.loop-c.yielded_by in
    let within : length (encode_utf8_all c.loop-c.yielded) + len_utf8 c.in-Some.c ≤ length c.args.text.now =
    encoded-within c.args.text.now c.loop-c.yielded c.in-Some.c c.utf8.text (sym (map-id c.loop-c.yielded) ∙ so_far) turn.0 turn.1 in
    omega (arith, within, c.loop-c.invariant.place, c.len_utf8-byte.ensures.value)

pub loop-c-preserved : goal.loop-c-preserved
loop-c-preserved c =
    IsTaken-step c.args.start c.args.end c.loop-c.yielded c.loop-c.all.items c.push_if.new.all.items c.loop-c.byte _
    c.in-Some.c c.is_in-wanted.result c.loop-c.invariant c.is_in-wanted.ensures c.in_ok-push_if.ensures
    (ap (λ n. c.loop-c.byte + n) c.len_utf8-byte.ensures.value)

pub returns : goal.returns
returns c =
    let end = YieldsList-end (YieldsList-from_chars c.args.text.now c.utf8.text cc) c.loop-c.yielded _ c.loop-c.yielded_by _ _ c.in-None.is c.next.ensures.steps in
    c.loop-c.invariant.items ∙ ap (chars_between c.args.start c.args.end 0) (sym (map-id c.loop-c.yielded) ∙ end.0)
