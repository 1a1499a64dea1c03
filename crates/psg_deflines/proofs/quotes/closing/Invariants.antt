use Rattle.std.proofs.Common.{◌≡◌, ◌+◌, false, drop}
use Rattle.std.specs.Prelude.{option_map}
use Rattle.psg_deflines.specs.Quotes.{closing}
use Rattle.psg_deflines.proofs.quotes.closing.Given as goal

abbrev pub invariant-loop-i : goal.invariant-loop-i
invariant-loop-i l = closing false l.text ≡ option_map (λ n. l.i + n) (closing l.escaped (drop l.i l.text))
