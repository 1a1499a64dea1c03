use Rattle.std.proofs.Common.{refl}
use Rattle.std.proofs.lemmas.Bool.{false≢true}
use Rattle.psg_deflines.proofs.HeadLaws.{head-long, head-other, head-by_digit}
use Rattle.psg_deflines.proofs.reading.head_of.Goals as goal

pub returns-then-parts-ne2 : goal.returns-then-parts-ne2
returns-then-parts-ne2 c = head-long c.args.parts.now c.if-parts-ne2.true

pub returns-then-not-is : goal.returns-then-not-is
returns-then-not-is c = head-other c.args.parts.now c.if-parts-ne2.false (λ e. false≢true (c.if-not-is.ensures.1 e))

pub returns : goal.returns
returns c = head-by_digit c.args.parts.now c.version_of.result c.if-parts-ne2.false (c.if-not-is.ensures.0 refl) c.version_of.ensures
