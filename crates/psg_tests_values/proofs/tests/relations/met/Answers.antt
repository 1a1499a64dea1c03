use Rattle.std.proofs.Common.{◌+◌, ◌≤◌, length, subst, arith}
use Rattle.psg_terms.proofs.Soundness.{numbers_of-length}
use Rattle.psg_terms.specs.Kept.{numbers_of}
use Rattle.psg_relation.specs.Choices.{AllHaveSorts}
use Rattle.psg_relation.proofs.Meeting.{within_sorts}
use Rattle.psg_tests_values.proofs.tests.relations.met.Goals as goal

pub join-requires : goal.join-requires
join-requires c =
    let sig = c.args.sig.now in
    let ls = c.as_slice-lefts.result.now in
    let rs = c.as_slice-rights.result.now in
    let hl = subst (λ r. AllHaveSorts sig r (numbers_of ls)) c.rows.ensures.rows (c.all_sorted.ensures c.if-not-all_sorted.false) in
    let hr = subst (λ r. AllHaveSorts sig r (numbers_of rs)) c.rows-2.ensures.rows (c.all_sorted-2.ensures c.if-not-all_sorted-2.false) in
    let a = numbers_of-length ls in
    let b = numbers_of-length rs in
    let enough : c.saturating_add-width.result ≤ length (numbers_of ls) + length (numbers_of rs) = omega (arith, c.saturating_add-width.ensures) in
    record {
      left_sorts = numbers_of ls;
      lefts = hl;
      right_sorts = numbers_of rs;
      rights = hr;
      equal = λ one other h i. c.are_of_equal_sort.ensures c.if-not-are_of_equal_sort.false;
      within = λ one other h i. within_sorts sig one other (numbers_of ls) (numbers_of rs) c.args.keep.now c.saturating_add-width.result (hl one h) (hr other i) enough (c.within.ensures c.if-not-within.false);
    }
