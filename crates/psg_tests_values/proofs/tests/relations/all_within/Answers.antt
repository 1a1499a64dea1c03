use Rattle.std.proofs.Common.{ℕ, ◌<◌, ◌∙◌, inl, inr, length, sym, subst, arith}
use Rattle.std.specs.List.{All}
use Rattle.std.proofs.lemmas.List.{take_all}
use Rattle.psg_terms.specs.Relations.{IsIn}
use Rattle.psg_relation.proofs.Members.{in-next}
use Rattle.psg_tests_values.proofs.tests.relations.all_within.Goals as goal

pub loop-row-preserved : goal.loop-row-preserved
loop-row-preserved c = λ r h.
    elim (in-next r c.args.rows.now c.loop-row.row-index c.row-item.result c.loop-row-test.true c.row-item.is h) [
      | inl a ↦ c.loop-row.invariant r a
      | inr e ↦ subst (λ x. All (λ (k : ℕ). k < length x) c.args.keep.now) (c.terms.ensures ∙ sym e) (c.within.ensures c.if-not-within.false)
    ]

pub returns : goal.returns
returns c = λ _ r h. c.loop-row.invariant r (subst (IsIn r) (sym (take_all c.loop-row.row-index c.args.rows.now (omega arith))) h)
