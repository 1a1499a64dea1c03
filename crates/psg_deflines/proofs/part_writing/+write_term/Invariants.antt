use Rattle.std.proofs.Common.{◌≡◌, ◌++◌, take, codes, string_bytes}
use Rattle.psg_deflines.specs.WrittenTerms.{term_parts}
use Rattle.psg_deflines.specs.LineTexts.{behind, separated}
use Rattle.psg_deflines.proofs.part_writing.+write_term.Given as goal

abbrev pub invariant-loop-i : goal.invariant-loop-i
invariant-loop-i l = string_bytes l.out ≡ string_bytes l.initial.out ++ behind (separated (codes "(") term_parts (take l.i l.args))
