use Rattle.std.proofs.Common.{ap, ap₂, arith, sym, ◌∙◌}
use Rattle.psg_deflines.specs.WrittenTerms.{named, applied}
use Rattle.psg_deflines.specs.Shapes.{term_of}
use Rattle.psg_defcheck.proofs.TermLaws.{arguments_below, term_below}
use Rattle.psg_defcheck.proofs.CountedLaws.{named_counted, named_miscounted}
use Rattle.psg_defcheck.proofs.counted.+counts_term.Goals as goal

pub counts_term-counts_terms-requires : goal.counts_term-counts_terms-requires
counts_term-counts_terms-requires t c =
    let lt = arguments_below c.args.term.now c.in-Named.name c.in-Named.args c.as_slice-args.result.now (sym (ap term_of c.in-Named.is) ∙ c.term.view_is) c.as_slice-args.ensures in (omega arith, tt)

pub counts_terms-counts_term-requires : goal.counts_terms-counts_term-requires
counts_terms-counts_term-requires t c =
    let lt = term_below c.args.terms.now c.loop-term.term-index c.term-item.result c.loop-term-test.true c.term-item.is in (omega arith, tt)

pub counts_term-returns-then-has_arity : goal.counts_term-returns-then-has_arity
counts_term-returns-then-has_arity t c =
    named_counted c.args.scope.now c.args.term.now c.as_str.result.now c.as_slice-args.result.now c.counts_terms.result
    (ap₂ (λ n xs. applied (named n) xs) c.as_str.ensures c.as_slice-args.ensures ∙ sym (ap term_of c.in-Named.is) ∙ c.term.view_is)
    (c.has_arity.ensures.0 c.if-has_arity.true) c.counts_terms.ensures

pub counts_term-returns-else-has_arity : goal.counts_term-returns-else-has_arity
counts_term-returns-else-has_arity t c =
    named_miscounted c.args.scope.now c.args.term.now c.as_str.result.now c.as_slice-args.result.now c.has_arity.result
    (ap₂ (λ n xs. applied (named n) xs) c.as_str.ensures c.as_slice-args.ensures ∙ sym (ap term_of c.in-Named.is) ∙ c.term.view_is)
    c.if-has_arity.false c.has_arity.ensures
