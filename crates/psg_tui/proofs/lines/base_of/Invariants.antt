use denote.Text.{Utf8}
use denote.Shadow.{shadow}
use Rattle.psg_tui.proofs.lines.base_of.Given as goal

abbrev pub invariant-loop-part : goal.invariant-loop-part
invariant-loop-part l = shadow (Utf8 l.base)
