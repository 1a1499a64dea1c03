use Rattle.std.proofs.Common.{take, string_bytes}
use Rattle.psg_defread.proofs.JoinTexts.{IsLaid}
use Rattle.psg_defread.proofs.writing.definition_text.Given as goal

abbrev pub invariant-loop-i : goal.invariant-loop-i
invariant-loop-i l = IsLaid l.definition.version (take l.i l.lines) (string_bytes l.text)
