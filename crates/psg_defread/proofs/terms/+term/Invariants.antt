use Rattle.std.proofs.Common.{◌≡◌, ◌++◌, map, drop}
use Rattle.psg_terms.specs.Sizes.{size, sizes}
use Rattle.psg_defread.specs.WrittenLines.{term_written}
use Rattle.psg_defread.proofs.terms.+term.Given as goal

abbrev pub decreases-term_written : goal.decreases-term_written
decreases-term_written l = size l.term.now

abbrev pub decreases-terms_written : goal.decreases-terms_written
decreases-terms_written l = sizes l.terms.now

abbrev pub invariant-terms_written-loop-i : goal.invariant-terms_written-loop-i
invariant-terms_written-loop-i l =
    l.written.items ++ map (term_written l.definition) (drop l.i l.terms) ≡ map (term_written l.definition) l.terms
