use Rattle.std.proofs.Common.{ap, ap₂, arith, sym, ◌∙◌}
use Rattle.psg_deflines.specs.WrittenTerms.{named, applied}
use Rattle.psg_deflines.specs.Shapes.{term_of}
use Rattle.psg_defcheck.proofs.TermLaws.{arguments_below, term_below}
use Rattle.psg_defcheck.proofs.KnownLaws.{named_known, named_unknown}
use Rattle.psg_defcheck.proofs.known.+knows_term.Goals as goal

pub knows_term-knows_terms-requires : goal.knows_term-knows_terms-requires
knows_term-knows_terms-requires t c =
    let lt = arguments_below c.args.term.now c.in-Named.name c.in-Named.args c.as_slice.result.now (sym (ap term_of c.in-Named.is) ∙ c.term.view_is) c.as_slice.ensures in (omega arith, tt)

pub knows_terms-knows_term-requires : goal.knows_terms-knows_term-requires
knows_terms-knows_term-requires t c =
    let lt = term_below c.args.terms.now c.loop-term.term-index c.term-item.result c.loop-term-test.true c.term-item.is in (omega arith, tt)

pub knows_term-returns-then-is_constructor : goal.knows_term-returns-then-is_constructor
knows_term-returns-then-is_constructor t c =
    named_known c.args.scope.now c.args.term.now c.as_str.result.now c.as_slice.result.now c.knows_terms.result
    (ap₂ (λ n xs. applied (named n) xs) c.as_str.ensures c.as_slice.ensures ∙ sym (ap term_of c.in-Named.is) ∙ c.term.view_is)
    (sym c.is_constructor.ensures ∙ c.if-is_constructor.true) c.knows_terms.ensures

pub knows_term-returns-else-is_constructor : goal.knows_term-returns-else-is_constructor
knows_term-returns-else-is_constructor t c =
    named_unknown c.args.scope.now c.args.term.now c.as_str.result.now c.in-Named.args c.is_constructor.result
    (ap (λ n. applied (named n) c.in-Named.args) c.as_str.ensures ∙ sym (ap term_of c.in-Named.is) ∙ c.term.view_is)
    c.if-is_constructor.false c.is_constructor.ensures
