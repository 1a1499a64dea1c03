use Rattle.std.proofs.Common.{◌≡◌, ◌+◌, ◌<◌, [], ◌∙◌, vec_len, arith}
use Rattle.psg_screen.proofs.WindowLaws.{filling-step}
use Rattle.psg_screen.proofs.with_empty_lines.Goals as goal

pub filling-preserved : goal.filling-preserved
filling-preserved c =
    let grown : vec_len c.push.new.self ≡ vec_len c.filling.lines + 1 = c.in_ok-push.ensures.len in
    let below : vec_len c.filling.lines < c.args.rows = omega arith in
    let empty : c.in_ok-share.field-0 ≡ [] = c.in_ok-share.ensures ∙ c.in_ok-empty.ensures ∙ c.new.ensures.bytes in
    record {
      items = filling-step _ _ _ _ _ _ c.in_ok-push.ensures.items empty grown below ∙ c.filling.invariant.items;
      len = omega arith;
    }
