use Rattle.std.proofs.Common.{sym, subst}
use Rattle.std.specs.Prelude.{string_bytes}
use Rattle.psg_terms.specs.Signature.{HasSort}
use Rattle.psg_terms.proofs.Weights.{sorts-at}
use Rattle.psg_terms.proofs.WritingLaws.{row-step}
use Rattle.psg_terms.proofs.text.row_text.Goals as goal

pub write_term-requires : goal.write_term-requires
write_term-requires c =
    let k = sorts-at c.args.sig.now c.args.row.now c.requires.0 c.loop-i.i c.index-row-i.result c.requires.1 c.loop-i-test.true in
    (k.0, subst (λ x. HasSort c.args.sig.now x k.0) (sym c.index-row-i.is) k.1)

pub loop-i-preserved : goal.loop-i-preserved
loop-i-preserved c =
    row-step c.args.sig.now (string_bytes c.loop-i.text) (string_bytes c.write_between.new.text) (string_bytes c.write_term.new.text) c.args.row.now c.loop-i.i c.index-row-i.result
    c.loop-i.invariant c.in_ok-write_between.ensures c.in_ok-write_term.ensures c.loop-i-test.true c.index-row-i.is
