use Rattle.std.proofs.Common.{refl, ap, ◌∙◌, ◌∷◌, ◌++◌, [], codes, string_bytes, arith}
use Rattle.psg_deflines.specs.WrittenTerms.{term_parts}
use Rattle.psg_deflines.specs.LineTexts.{behind}
use Rattle.psg_deflines.proofs.LineTextLaws.{more, on-ok, term-end}
use Rattle.psg_deflines.proofs.part_writing.+write_term.Goals as goal

pub loop-i-preserved : goal.loop-i-preserved
loop-i-preserved t c =
    more (codes "(") term_parts c.as_slice-args.result.now c.index-args-i.result c.loop-i.i (string_bytes c.write_word.new.out) (string_bytes c.loop-i.out) (string_bytes c.write_mark.new.out) (string_bytes c.write_term.new.out) _
    c.loop-i-test.true c.index-args-i.is c.loop-i.invariant refl c.in_ok-write_mark-in-Named.ensures c.in_ok-write_term-in-Named.ensures

pub returns-after-loop-i : goal.returns-after-loop-i
returns-after-loop-i t c =
    on-ok c.write_closing.result c.write_closing.ensures (λ h.
    term-end c.args.term.now c.term.inside.shape c.in-Named.name c.in-Named.args c.as_slice-args.result.now c.loop-i.i (string_bytes c.args.out.now) (string_bytes c.write_word.new.out) (string_bytes c.loop-i.out) (string_bytes c.write_closing.new.out)
    c.in-Named.is c.term.view_is c.as_slice-args.ensures (omega (arith, c.loop-i-test.false)) (c.in_ok-write_word-in-Named.ensures ∙ ap (λ n. string_bytes c.args.out.now ++ behind (n ∷ [])) c.as_str-in-Named.ensures) c.loop-i.invariant h)
