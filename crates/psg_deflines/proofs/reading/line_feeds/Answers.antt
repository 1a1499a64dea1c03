use Rattle.std.proofs.Common.{◌≡◌, ℕ, ◌<◌, zero, suc, List, [], ◌∷◌, get_or, length, refl, ◌∙◌, ap, arith}
use Rattle.std.proofs.lemmas.List.{take_all}
use Rattle.psg_deflines.specs.Refusals.{line_feeds}
use Rattle.psg_deflines.proofs.FileLaws.{feeds-yes, feeds-no}
use Rattle.psg_deflines.proofs.reading.line_feeds.Goals.{then-c-eq10, else-c-eq10}
use Rattle.psg_deflines.proofs.reading.line_feeds.Goals as goal

item : (xs : List ℕ) (i : ℕ) → i < length xs → get_or xs i 0 ≡ get_or xs i (get_or xs i 0)
item [] i h = absurd (omega arith)
item (x ∷ xs) zero h = refl
item (x ∷ xs) (suc i) h = item xs i (omega arith)

pub loop-c-preserved : goal.loop-c-preserved
loop-c-preserved c = elim c.if-c-eq10.branch [
  | then-c-eq10 w ↦ (w.feeds-is ∙ feeds-yes c.args.bytes.now c.loop-c.c-index _ c.loop-c.feeds c.loop-c-test.true (item c.args.bytes.now c.loop-c.c-index c.loop-c-test.true) w.if-c-eq10.true c.loop-c.invariant.0, omega (arith, w.feeds-is))
  | else-c-eq10 w ↦ (w.feeds-is ∙ feeds-no c.args.bytes.now c.loop-c.c-index _ c.loop-c.feeds c.loop-c-test.true (item c.args.bytes.now c.loop-c.c-index c.loop-c-test.true) w.if-c-eq10.false c.loop-c.invariant.0, omega (arith, w.feeds-is))
]

pub returns : goal.returns
returns c = c.loop-c.invariant.0 ∙ ap line_feeds (take_all c.loop-c.c-index c.args.bytes.now c.loop-c-test.false)
