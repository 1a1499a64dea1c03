use Rattle.std.proofs.Common.{◌≡◌, ◌++◌, take, string_bytes}
use Rattle.psg_deflines.specs.Forms.{constructor_parts}
use Rattle.psg_deflines.specs.LineTexts.{behind}
use Rattle.psg_deflines.proofs.writing.write_constructors.Given as goal

abbrev pub invariant-loop-i : goal.invariant-loop-i
invariant-loop-i l = string_bytes l.out ≡ string_bytes l.initial.out ++ behind (constructor_parts (take l.i l.constructors))
