use Rattle.std.proofs.Common.{◌≡◌, take}
use Rattle.std.specs.Prelude.{string_bytes}
use Rattle.psg_terms.specs.Text.{row_text}
use Rattle.psg_terms.proofs.text.row_text.Given as goal

abbrev pub invariant-loop-i : goal.invariant-loop-i
invariant-loop-i l = string_bytes l.text ≡ row_text l.sig (take l.i l.row)
