use Rattle.std.proofs.Common.{take}
use Rattle.std.specs.List.{AllByRecursion}
use Rattle.psg_defcheck.specs.Meanings as meanings
use Rattle.psg_defcheck.proofs.TermLaws.{term_measure, terms_measure}
use Rattle.psg_defcheck.proofs.counted.+counts_term.Given as goal

abbrev pub decreases-counts_term : goal.decreases-counts_term
decreases-counts_term l = term_measure l.term.now

abbrev pub decreases-counts_terms : goal.decreases-counts_terms
decreases-counts_terms l = terms_measure l.terms.now

abbrev pub invariant-counts_terms-loop-term : goal.invariant-counts_terms-loop-term
invariant-counts_terms-loop-term l = AllByRecursion (meanings.CountsTerm l.scope 0) (take l.term-index l.terms)
