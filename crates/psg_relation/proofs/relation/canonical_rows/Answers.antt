use Rattle.std.proofs.Common.{◌∷◌, ◌++◌, [], ◌∙◌, ap, sym, subst}
use Rattle.psg_terms.specs.Signature.{HaveSorts}
use Rattle.psg_terms.specs.Instances.{HasSameInstances}
use Rattle.psg_relation.proofs.Members.{in-at}
use Rattle.psg_relation.proofs.Making.{forms_more}
use Rattle.psg_relation.proofs.relation.canonical_rows.Goals as goal

pub canonical-requires : goal.canonical-requires
canonical-requires c = (
  c.requires.0,
  subst (λ r. HaveSorts c.args.sig.now r c.requires.0) (sym c.terms.ensures)
      (c.requires.1 c.row-item.result (in-at c.row-item.result c.args.rows.now c.loop-row.row-index c.loop-row-test.true c.row-item.is)),
)

pub loop-row-preserved : goal.loop-row-preserved
loop-row-preserved c =
    forms_more c.args.sig.now c.args.rows.now c.loop-row.made.items c.loop-row.row-index c.row-item.result c.in_ok-form.form.items c.push.new.self.items c.loop-row-test.true c.row-item.is c.loop-row.invariant
    c.in_ok-form.ensures.canonical (subst (HasSameInstances c.args.sig.now c.in_ok-form.form.items) c.terms.ensures c.in_ok-form.ensures.same)
    (λ ss h. c.in_ok-form.ensures.sorted ss (subst (λ r. HaveSorts c.args.sig.now r ss) (sym c.terms.ensures) h))
    (c.in_ok-push.ensures.items ∙ ap (λ r. c.loop-row.made.items ++ r ∷ []) c.new.ensures)
