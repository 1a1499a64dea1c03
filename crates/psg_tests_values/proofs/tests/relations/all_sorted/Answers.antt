use Rattle.std.proofs.Common.{◌∙◌, inl, inr, sym, subst, arith}
use Rattle.std.proofs.lemmas.List.{take_all}
use Rattle.psg_terms.specs.Kept.{numbers_of}
use Rattle.psg_terms.specs.Signature.{HaveSorts}
use Rattle.psg_terms.specs.Relations.{IsIn}
use Rattle.psg_relation.proofs.Members.{in-next}
use Rattle.psg_tests_values.proofs.tests.relations.all_sorted.Goals as goal

pub loop-row-preserved : goal.loop-row-preserved
loop-row-preserved c = λ r h.
    elim (in-next r c.args.rows.now c.loop-row.row-index c.row-item.result c.loop-row-test.true c.row-item.is h) [
      | inl a ↦ c.loop-row.invariant r a
      | inr e ↦ subst (λ x. HaveSorts c.args.sig.now x (numbers_of c.args.sorts.now)) (c.terms.ensures ∙ sym e) (c.have_sorts.ensures.0 c.if-not-have_sorts.false)
    ]

pub returns : goal.returns
returns c = λ _ r h. c.loop-row.invariant r (subst (IsIn r) (sym (take_all c.loop-row.row-index c.args.rows.now (omega arith))) h)
