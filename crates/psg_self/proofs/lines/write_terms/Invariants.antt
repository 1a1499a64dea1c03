use Rattle.std.proofs.Common.{◌≡◌, ◌++◌, ◌∷◌, drop, string_bytes}
use Rattle.std.specs.List.{flat_map}
use Rattle.psg_self.specs.SelfLines.{term_of}
use Rattle.psg_self.specs.Export.{term_text}
use Rattle.psg_self.proofs.lines.write_terms.Given as goal

abbrev pub invariant-loop-i : goal.invariant-loop-i
invariant-loop-i l =
    string_bytes l.out ++ flat_map (λ x. 32 ∷ term_text (term_of x)) (drop l.i l.terms)
    ≡ string_bytes l.initial.out ++ flat_map (λ x. 32 ∷ term_text (term_of x)) l.terms
