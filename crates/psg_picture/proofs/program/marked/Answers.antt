use Rattle.std.proofs.Common.{◌+◌, ◌≤◌, [], ◌∷◌, ◌++◌, ◌∙◌, length, sym, ap, map-id, arith, encode_utf8_all}
use Rattle.std.specs.Char.{len_utf8}
use Rattle.std.proofs.lemmas.Iterator.{YieldsList-from_chars}
use Rattle.std.proofs.lemmas.Iterator.Consumers.{YieldsList-end, YieldsList-so_far, YieldsList-turn}
use Rattle.psg_picture.specs.Marked.{marked_from}
use Rattle.psg_picture.specs.Rows.{styled}
use Rattle.psg_picture.proofs.MarkedLaws.{IsMarked-init, IsMarked-step, encoded-within}
use Rattle.psg_picture.proofs.program.marked.Goals as goal

pub loop-c-init : goal.loop-c-init
loop-c-init c = IsMarked-init c.args.marks.now c.args.start c.new-row.result.items c.new-row.ensures.items

pub overflow_add-byte : goal.overflow_add-byte
overflow_add-byte c =
    let road = YieldsList-from_chars c.args.line.now c.utf8.line cc in
    let turn = YieldsList-turn road c.loop-c.yielded _ c.loop-c.yielded_by _ _ c.in-Some.c c.in-Some.is c.next.ensures.steps in
    let so_far = YieldsList-so_far road c.loop-c.yielded _ c.loop-c.yielded_by in
    let within : length (encode_utf8_all c.loop-c.yielded) + len_utf8 c.in-Some.c ≤ length c.args.line.now =
    encoded-within c.args.line.now c.loop-c.yielded c.in-Some.c c.utf8.line (sym (map-id c.loop-c.yielded) ∙ so_far) turn.0 turn.1 in
    omega (arith, within, c.loop-c.invariant.place, c.len_utf8-byte.ensures.value, c.requires)

pub loop-c-preserved : goal.loop-c-preserved
loop-c-preserved c =
    IsMarked-step c.args.marks.now c.args.start c.loop-c.yielded c.loop-c.row.items c.push.new.self.items c.loop-c.byte _ c.in-Some.c c.loop-c.invariant
    (c.in_ok-push.ensures.items ∙ ap (λ style. c.loop-c.row.items ++ styled c.in-Some.c style ∷ []) c.style_at.ensures)
    (ap (λ n. c.loop-c.byte + n) c.len_utf8-byte.ensures.value)

pub returns : goal.returns
returns c =
    let end = YieldsList-end (YieldsList-from_chars c.args.line.now c.utf8.line cc) c.loop-c.yielded _ c.loop-c.yielded_by _ _ c.in-None.is c.next.ensures.steps in
    c.loop-c.invariant.items ∙ ap (marked_from c.args.marks.now c.args.start) (sym (map-id c.loop-c.yielded) ∙ end.0)
