use Rattle.std.proofs.Common.{string_bytes, take, arith}
use Rattle.psg_deflines.specs.WrittenTerms.{term_parts}
use Rattle.psg_deflines.specs.Forms.{terms_parts}
use Rattle.psg_deflines.proofs.LineTextLaws.{each, each-end, terms-snoc}
use Rattle.psg_deflines.proofs.writing.write_terms.Goals as goal

pub loop-i-preserved : goal.loop-i-preserved
loop-i-preserved c =
    each (terms_parts) (term_parts c.index-terms-i.result) c.args.terms.now c.index-terms-i.result c.loop-i.i (string_bytes c.args.out.now) (string_bytes c.loop-i.out) (string_bytes c.write_term.new.out)
    c.loop-i-test.true c.index-terms-i.is (terms-snoc (take c.loop-i.i c.args.terms.now) c.index-terms-i.result) c.loop-i.invariant c.in_ok-write_term.ensures

pub returns : goal.returns
returns c = each-end (terms_parts) c.args.terms.now c.loop-i.i (string_bytes c.args.out.now) (string_bytes c.loop-i.out) (omega (arith, c.loop-i-test.false)) c.loop-i.invariant
