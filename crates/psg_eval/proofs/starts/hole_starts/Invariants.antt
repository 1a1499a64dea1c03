use Rattle.std.proofs.Common.{◌≡◌, length}
use Rattle.psg_eval.specs.Starts.{AreHoleStarts}
use Rattle.psg_eval.proofs.starts.hole_starts.Given as goal

abbrev pub invariant-loop-phylum : goal.invariant-loop-phylum
invariant-loop-phylum l = (length l.made.items ≡ l.phylum) × AreHoleStarts l.definition l.made.items
