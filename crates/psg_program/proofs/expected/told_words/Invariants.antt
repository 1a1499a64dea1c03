use Rattle.std.proofs.Common.{map, take}
use Rattle.std.specs.Prelude.{string_bytes}
use Rattle.psg_terms.specs.Relations.{IsIn}
use Rattle.psg_stop.specs.Wanted.{wanted_terminals}
use Rattle.psg_program.specs.Expected.{AreTold}
use Rattle.psg_program.proofs.expected.told_words.Given as goal

abbrev pub invariant-loop-one : goal.invariant-loop-one
invariant-loop-one l = AreTold (λ t. IsIn t (wanted_terminals l.wanted)) (wanted_terminals (take l.one-index l.all))
    (map string_bytes l.words.items)
