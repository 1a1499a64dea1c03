use Rattle.std.proofs.Common.{◌≡◌, ◌++◌, ℕ, length}
use denote.Text.{Utf8}
use denote.Shadow.{shadow}
use Rattle.psg_script.specs.Forms.{spaces}
use Rattle.psg_layout.proofs.rule.skip_spaces.Given as goal

abbrev pub invariant-loop-rest : goal.invariant-loop-rest
invariant-loop-rest l = shadow (Utf8 l.text) × ((n : ℕ) × (l.fn.text ≡ spaces n ++ l.text))

abbrev pub decreases-loop-rest : goal.decreases-loop-rest
decreases-loop-rest l = length l.text
