use Rattle.psg_layout.specs.Sheets.{PutsChars}
use Rattle.psg_layout.proofs.line_end.LineEnd.put_chars.Given as goal

abbrev pub invariant-loop-c : goal.invariant-loop-c
invariant-loop-c l = PutsChars l.yielded l.initial.self l.self
