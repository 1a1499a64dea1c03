use Rattle.std.proofs.Common.{◌≡◌, ◌++◌, drop, string_bytes}
use Rattle.psg_self.specs.NodeParts.{name_at}
use Rattle.psg_self.specs.Brackets.{marked}
use Rattle.psg_self.proofs.terms.write_names.Given as goal

abbrev pub invariant-loop-i : goal.invariant-loop-i
invariant-loop-i l =
    string_bytes l.out ++ marked (λ n. name_at n 0) l.i (drop l.i l.nodes)
    ≡ string_bytes l.initial.out ++ marked (λ n. name_at n 0) 0 l.nodes
