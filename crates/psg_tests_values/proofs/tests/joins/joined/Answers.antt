use Rattle.std.proofs.Common.{Vec, Global}
use Rattle.psg_terms.specs.Terms.{Term}
use Rattle.psg_terms.specs.Kept.{numbers_of}
use Rattle.psg_tests_values.proofs.ColumnSorts.{terms_clause}
use Rattle.psg_tests_values.proofs.tests.joins.joined.Goals as goal

pub returns : goal.returns
returns c =
    terms_clause (λ (v : Vec Term Global). v.items) c.args.sig.now c.args.left.now c.args.right.now (numbers_of c.as_slice-lefts.result.now) (numbers_of c.as_slice-rights.result.now) c.in_ok-row.row
    (c.have_sorts.ensures.0 c.if-not-have_sorts.false) (c.have_sorts-else-not-have_sorts.ensures.0 c.if-not-have_sorts-2.false) c.in_ok-row.ensures.sorted
