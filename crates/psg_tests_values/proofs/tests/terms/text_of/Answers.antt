use Rattle.psg_tests_values.proofs.tests.terms.text_of.Goals as goal

pub term_text-requires : goal.term_text-requires
term_text-requires c = (c.args.sort.0, c.has_sort.ensures.0 c.if-not-has_sort.false)
