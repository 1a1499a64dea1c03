use Rattle.std.proofs.Common.{true, take}
use Rattle.psg_defcheck.specs.Meanings as meanings
use Rattle.psg_defcheck.specs.Sorting.{Narrows, places_told}
use Rattle.psg_defcheck.proofs.TermLaws.{term_measure, terms_measure}
use Rattle.psg_defcheck.proofs.sorted.+sorts_term.Given as goal

abbrev pub decreases-sorts_term : goal.decreases-sorts_term
decreases-sorts_term l = term_measure l.term.now

abbrev pub decreases-sorts_terms : goal.decreases-sorts_terms
decreases-sorts_terms l = terms_measure l.terms.now

abbrev pub invariant-sorts_terms-loop-i : goal.invariant-sorts_terms-loop-i
invariant-sorts_terms-loop-i l = Narrows (λ of. meanings.SortAll l.scope of (places_told (take l.i l.places)) (take l.i l.terms)) l.initial.sorts l.sorts true
