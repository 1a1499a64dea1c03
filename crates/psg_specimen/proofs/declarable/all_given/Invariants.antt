use Rattle.std.proofs.Common.{◌≡◌, true, take}
use Rattle.std.specs.Prelude.{◌↔◌}
use Rattle.psg_specimen.specs.declared.declarable.Given.{Given}
use Rattle.psg_specimen.specs.Given.{has_given, IsGiven}
use Rattle.psg_specimen.proofs.declarable.all_given.Given as goal

abbrev pub invariant-loop-row : goal.invariant-loop-row
invariant-loop-row l = (k : Given) → (has_given l.set k ≡ true) ↔ IsGiven l.sig (take l.row-index l.rows) k
