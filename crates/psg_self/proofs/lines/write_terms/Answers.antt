use Rattle.std.proofs.Common.{◌∷◌, string_bytes, arith}
use Rattle.psg_self.specs.SelfLines.{term_of}
use Rattle.psg_self.specs.Export.{term_text}
use Rattle.psg_self.proofs.Writes.{piece-more, piece-end}
use Rattle.psg_self.proofs.LineWrites.{spaced-piece}
use Rattle.psg_self.proofs.lines.write_terms.Goals as goal

pub loop-i-preserved : goal.loop-i-preserved
loop-i-preserved c =
    piece-more (λ x. 32 ∷ term_text (term_of x)) c.args.terms.now c.loop-i.i c.index-terms-i.result _ (string_bytes c.loop-i.out)
    (string_bytes c.write_term.new.out) c.loop-i-test.true c.index-terms-i.is c.loop-i.invariant
    (spaced-piece (string_bytes c.loop-i.out) (string_bytes c.push_str.new.self) (string_bytes c.write_term.new.out) _
    c.in_ok-push_str.ensures.bytes c.in_ok-write_term.ensures)

pub returns : goal.returns
returns c =
    piece-end (λ x. 32 ∷ term_text (term_of x)) c.args.terms.now c.loop-i.i _ (string_bytes c.loop-i.out) (omega (arith, c.loop-i-test.false))
    c.loop-i.invariant
