use Rattle.psg_terms.specs.Kept.{numbers_of}
use Rattle.psg_tests_values.proofs.tests.relations.selected.Goals as goal

pub select-requires : goal.select-requires
select-requires c = record {
  sorts = (numbers_of c.args.sorts.now, c.all_sorted.ensures c.if-not-all_sorted.false, c.are_of_equal_sort.ensures c.if-not-are_of_equal_sort.false);
  keep = c.all_within.ensures c.if-not-all_within.false;
}
