use Rattle.std.proofs.Common.{sym, subst}
use Rattle.psg_terms.specs.Signature.{HaveSorts}
use Rattle.psg_terms.specs.Canonical.{IsCanonical}
use Rattle.psg_terms.specs.Instances.{HasSameInstances}
use Rattle.psg_relation.proofs.beside.numbered.Goals as goal

pub returns-clause-canonical : goal.returns-clause-canonical
returns-clause-canonical c = subst (IsCanonical c.args.sig.now) (sym c.new.ensures) c.in_ok-form.ensures.canonical

pub returns-clause-same : goal.returns-clause-same
returns-clause-same c = subst (λ r. HasSameInstances c.args.sig.now r c.args.columns.now) (sym c.new.ensures) c.in_ok-form.ensures.same

pub returns-clause-sorted : goal.returns-clause-sorted
returns-clause-sorted c = λ ss h. subst (λ r. HaveSorts c.args.sig.now r ss) (sym c.new.ensures) (c.in_ok-form.ensures.sorted ss h)
