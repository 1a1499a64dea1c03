use Rattle.std.proofs.Common.{◌≡◌, true, take}
use Rattle.std.specs.Prelude.{◌↔◌}
use Rattle.psg_specimen.specs.declared.forms.Mark.{Mark}
use Rattle.psg_specimen.specs.Tables.{has_mark, IsRowOf}
use Rattle.psg_specimen.proofs.forms.marks.Given as goal

abbrev pub invariant-loop-row : goal.invariant-loop-row
invariant-loop-row l = (j : Mark) → (has_mark l.marks j ≡ true) ↔ IsRowOf (take l.row-index l.rows) j
