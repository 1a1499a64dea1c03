use Rattle.std.proofs.Common.{◌≡◌, ◌+◌, ◌*◌, ◌++◌, drop, string_bytes}
use Rattle.psg_tree.specs.Shapes.{height}
use Rattle.psg_self.specs.SelfLines.{term_of}
use Rattle.psg_self.specs.Export.{term_text}
use Rattle.psg_self.specs.Brackets.{marked}
use Rattle.psg_self.proofs.terms.+term.Given as goal

abbrev pub decreases-write_terms : goal.decreases-write_terms
decreases-write_terms l = 2 * height l.list.now + 1

abbrev pub decreases-write_term : goal.decreases-write_term
decreases-write_term l = 2 * height l.term.now

abbrev pub invariant-write_terms-loop-i : goal.invariant-write_terms-loop-i
invariant-write_terms-loop-i l =
    string_bytes l.out ++ marked (λ t. term_text (term_of t)) l.i (drop l.i l.terms)
    ≡ string_bytes l.initial.out ++ marked (λ t. term_text (term_of t)) 0 l.terms
