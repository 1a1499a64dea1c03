use Rattle.std.proofs.Common.{sym, subst}
use Rattle.psg_terms.specs.Signature.{HaveSorts}
use Rattle.psg_terms.specs.Kept.{numbers_of}
use Rattle.psg_tests_values.proofs.tests.terms.canonical_text.Goals as goal

pub canonical-requires : goal.canonical-requires
canonical-requires c = (numbers_of c.args.sorts.now, c.have_sorts.ensures.0 c.if-not-have_sorts.false)

pub row_text-requires : goal.row_text-requires
row_text-requires c = (
  numbers_of c.args.sorts.now,
  subst (λ xs. HaveSorts c.args.sig.now xs (numbers_of c.args.sorts.now)) (sym c.as_slice.ensures.value)
      (c.in_ok-rows.ensures.sorted (numbers_of c.args.sorts.now) (c.have_sorts.ensures.0 c.if-not-have_sorts.false)),
)
