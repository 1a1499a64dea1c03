use Rattle.std.proofs.Common.{ap, sym, ◌∙◌}
use Rattle.psg_defcomment.specs.Plain.{is_head}
use Rattle.psg_defcomment.proofs.LineLaws.{lines_split, map_ok, third_bytes, third_named}
use Rattle.psg_defcomment.proofs.plain.plain_text.Goals as goal

pub returns-clause-bytes : goal.returns-clause-bytes
returns-clause-bytes c =
    map_ok c.plain_lines.result
    (λ p a. third_bytes c.args.text.now p.bytes.items p.named.items _ _ c.utf8.text
    (lines_split c.args.text.now c.in_ok-lines.lines.items c.as_slice.result.now _ _ c.in_ok-lines.ensures c.as_slice.ensures.value c.in-Some.ensures.cases.0)
    (ap is_head (sym c.as_bytes-2.ensures.value) ∙ sym c.is_head.ensures ∙ c.if-not-is_head.false) a)
    c.plain_lines.ensures

pub returns-clause-named : goal.returns-clause-named
returns-clause-named c =
    map_ok c.plain_lines.result
    (λ p a. third_named c.args.text.now p.bytes.items p.named.items _ _ c.utf8.text
    (lines_split c.args.text.now c.in_ok-lines.lines.items c.as_slice.result.now _ _ c.in_ok-lines.ensures c.as_slice.ensures.value c.in-Some.ensures.cases.0)
    (ap is_head (sym c.as_bytes-2.ensures.value) ∙ sym c.is_head.ensures ∙ c.if-not-is_head.false) a)
    c.plain_lines.ensures
