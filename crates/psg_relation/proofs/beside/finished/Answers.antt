use Rattle.std.proofs.Common.{sym, subst}
use Rattle.psg_terms.specs.Signature.{HaveSorts}
use Rattle.psg_terms.specs.Canonical.{IsCanonical}
use Rattle.psg_terms.specs.Instances.{HasSameInstances}
use Rattle.psg_relation.proofs.Unsolved.{closed_canonical, same_itself}
use Rattle.psg_relation.proofs.beside.finished.Goals as goal

pub returns-then-is_closed_row-clause-canonical : goal.returns-then-is_closed_row-clause-canonical
returns-then-is_closed_row-clause-canonical c = subst (IsCanonical c.args.sig.now) (sym c.new.ensures) (closed_canonical c.args.sig.now c.args.columns.items (c.is_closed_row.ensures c.if-is_closed_row.true))

pub returns-then-is_closed_row-clause-same : goal.returns-then-is_closed_row-clause-same
returns-then-is_closed_row-clause-same c = subst (λ r. HasSameInstances c.args.sig.now r c.args.columns.items) (sym c.new.ensures) (same_itself c.args.sig.now c.args.columns.items)

pub returns-then-is_closed_row-clause-sorted : goal.returns-then-is_closed_row-clause-sorted
returns-then-is_closed_row-clause-sorted c = λ ss h. subst (λ r. HaveSorts c.args.sig.now r ss) (sym c.new.ensures) h

pub numbered-requires : goal.numbered-requires
numbered-requires c = (c.requires.0, subst (λ r. HaveSorts c.args.sig.now r c.requires.0) (sym c.as_slice.ensures.value) c.requires.1)

pub returns-clause-same : goal.returns-clause-same
returns-clause-same c = subst (HasSameInstances c.args.sig.now c.in_ok-row.row) c.as_slice.ensures.value c.in_ok-row.ensures.same

pub returns-clause-sorted : goal.returns-clause-sorted
returns-clause-sorted c = λ ss h. c.in_ok-row.ensures.sorted ss (subst (λ r. HaveSorts c.args.sig.now r ss) (sym c.as_slice.ensures.value) h)
