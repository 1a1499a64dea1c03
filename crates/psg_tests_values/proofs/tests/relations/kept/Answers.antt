use Rattle.std.proofs.Common.{subst}
use Rattle.psg_terms.specs.Kept.{numbers_of}
use Rattle.psg_relation.specs.Choices.{AllHaveSorts, AllWithin}
use Rattle.psg_tests_values.proofs.tests.relations.kept.Goals as goal

pub project-requires : goal.project-requires
project-requires c = record {
  sorts = (numbers_of c.args.sorts.now, subst (λ r. AllHaveSorts c.args.sig.now r (numbers_of c.args.sorts.now)) c.rows-rows.ensures.rows (c.all_sorted.ensures c.if-not-all_sorted.false));
  keep = subst (λ r. AllWithin r c.args.keep.now) c.rows-rows.ensures.rows (c.all_within.ensures c.if-not-all_within.false);
}
