use Rattle.std.proofs.Common.{take}
use Rattle.psg_terms.specs.Kept.{numbers_of}
use Rattle.psg_defcheck.proofs.TermLaws.{term_measure, terms_measure}
use Rattle.psg_defnumber.specs.Naming.{AreMadeTerms}
use Rattle.psg_defnumber.specs.Sorts.{StaysSorted, TermsStand}
use Rattle.psg_defnumber.proofs.terms.+term.Given as goal

abbrev pub decreases-term : goal.decreases-term
decreases-term l = term_measure l.written.now

abbrev pub decreases-terms : goal.decreases-terms
decreases-terms l = terms_measure l.written.now

abbrev pub invariant-terms-loop-i : goal.invariant-terms-loop-i
invariant-terms-loop-i l =
    AreMadeTerms l.sig l.fn.known.entries l.known.entries (numbers_of (take l.i l.sorts)) (take l.i l.written) l.made.items
    × StaysSorted l.checked l.fn.known.entries l.known.entries (λ own. TermsStand l.checked own (numbers_of l.sorts) l.written)
