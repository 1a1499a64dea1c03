use Rattle.std.proofs.Common.{refl, ap, ◌∙◌, ◌∷◌, ◌++◌, [], codes, string_bytes, arith}
use Rattle.psg_deflines.specs.LineTexts.{behind}
use Rattle.psg_deflines.proofs.LineTextLaws.{more, on-ok, names-end}
use Rattle.psg_deflines.proofs.writing.write_arguments.Goals as goal

pub loop-i-preserved : goal.loop-i-preserved
loop-i-preserved c =
    more (codes "(") (λ n. n ∷ []) c.args.names.now c.index-names-i.result c.loop-i.i (string_bytes c.args.out.now) (string_bytes c.loop-i.out) (string_bytes c.write_mark.new.out) (string_bytes c.write_word.new.out) _
    c.loop-i-test.true c.index-names-i.is c.loop-i.invariant refl c.in_ok-write_mark.ensures
    (c.in_ok-write_word.ensures ∙ ap (λ n. string_bytes c.write_mark.new.out ++ behind (n ∷ [])) c.as_str.ensures)

pub returns : goal.returns
returns c =
    on-ok c.write_closing.result c.write_closing.ensures (λ h.
    names-end c.args.names.now c.loop-i.i (string_bytes c.args.out.now) (string_bytes c.loop-i.out) (string_bytes c.write_closing.new.out) (omega (arith, c.loop-i-test.false)) c.loop-i.invariant h)
