use Rattle.std.proofs.Common.{take}
use Rattle.std.specs.List.{AllByRecursion}
use Rattle.psg_defcheck.specs.Meanings as meanings
use Rattle.psg_defcheck.proofs.TermLaws.{term_measure, terms_measure}
use Rattle.psg_defcheck.proofs.known.+knows_term.Given as goal

abbrev pub decreases-knows_term : goal.decreases-knows_term
decreases-knows_term l = term_measure l.term.now

abbrev pub decreases-knows_terms : goal.decreases-knows_terms
decreases-knows_terms l = terms_measure l.terms.now

abbrev pub invariant-knows_terms-loop-term : goal.invariant-knows_terms-loop-term
invariant-knows_terms-loop-term l = AllByRecursion (meanings.KnowsTerm l.scope) (take l.term-index l.terms)
