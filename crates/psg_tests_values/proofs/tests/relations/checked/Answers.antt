use Rattle.psg_terms.specs.Kept.{numbers_of}
use Rattle.psg_tests_values.proofs.tests.relations.checked.Goals as goal

pub of-requires : goal.of-requires
of-requires c = (numbers_of c.args.sorts.now, c.all_sorted.ensures c.if-not-all_sorted.false)
