use Rattle.std.proofs.Common.{◌≡◌, ◌++◌, ◌∷◌, drop, string_bytes}
use Rattle.std.specs.List.{flat_map}
use Rattle.psg_self.specs.SelfLines.{constructor_of}
use Rattle.psg_self.specs.Export.{constructor_text}
use Rattle.psg_self.proofs.lines.write_constructors.Given as goal

abbrev pub invariant-loop-i : goal.invariant-loop-i
invariant-loop-i l =
    string_bytes l.out ++ flat_map (λ x. 32 ∷ constructor_text (constructor_of x)) (drop l.i l.nodes)
    ≡ string_bytes l.initial.out ++ flat_map (λ x. 32 ∷ constructor_text (constructor_of x)) l.nodes
