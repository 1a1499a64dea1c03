use Rattle.std.proofs.Common.{◌≡◌, ◌++◌, ◌∷◌, [], take, codes, string_bytes}
use Rattle.psg_deflines.specs.LineTexts.{behind, separated}
use Rattle.psg_deflines.proofs.writing.write_arguments.Given as goal

abbrev pub invariant-loop-i : goal.invariant-loop-i
invariant-loop-i l = string_bytes l.out ≡ string_bytes l.initial.out ++ behind (separated (codes "(") (λ n. n ∷ []) (take l.i l.names))
