use Rattle.std.proofs.Common.{◌≡◌, ◌<◌, ℕ, zero, suc, arith, sym, false}
use Rattle.std.specs.Prelude.{◌==◌}
use Rattle.std.proofs.lemmas.Bool.{false≢true}
use Rattle.psg_deflines.proofs.TreeMoves.{comma-moved}
use Rattle.psg_deflines.proofs.tree_reading.behind_comma.Goals as goal

positive : (n : ℕ) → (n == 0) ≡ false → 0 < n
positive zero e = absurd (false≢true (sym e))
positive (suc n) e = omega arith

pub returns-else-is_empty : goal.returns-else-is_empty
returns-else-is_empty c = λ fs h. comma-moved c.args.trees fs h (omega (arith, positive _ (sym c.if-is_empty.ensures), c.args.trees.frames.ok.0))
