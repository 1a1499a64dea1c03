use Rattle.std.proofs.Common.{◌∙◌, inl, inr, sym, subst, arith}
use Rattle.std.proofs.lemmas.Bool.{false≢true}
use Rattle.std.proofs.lemmas.List.{take_all}
use Rattle.psg_terms.specs.Relations.{IsIn}
use Rattle.psg_relation.specs.Sifted.{IsCovered}
use Rattle.psg_relation.proofs.Indexing.{in-place}
use Rattle.psg_relation.proofs.Members.{in-at, in-next}
use Rattle.psg_relation.proofs.maximal.are_covered.Goals as goal

pub returns-then-rows-eq0 : goal.returns-then-rows-eq0
returns-then-rows-eq0 c = λ r h.
    let (i, l, g, e) = in-place c.args.rows.now r h in
    let none = c.if-rows-eq0.true in
    absurd (omega (arith, l, none))

pub returns-then-not-branch : goal.returns-then-not-branch
returns-then-not-branch c = (
  c.row-item.result,
  in-at c.row-item.result c.args.rows.now c.loop-row.row-index c.loop-row-test.true c.row-item.is,
  λ h. false≢true (sym c.if-not-branch.true ∙ c.in_ok-is_held.ensures.1 (subst (IsCovered c.args.kept.now) (sym c.terms.ensures) h)),
)

pub loop-row-preserved : goal.loop-row-preserved
loop-row-preserved c = λ r h.
    elim (in-next r c.args.rows.now c.loop-row.row-index c.row-item.result c.loop-row-test.true c.row-item.is h) [
      | inl a ↦ c.loop-row.invariant r a
      | inr e ↦ subst (IsCovered c.args.kept.now) (c.terms.ensures ∙ sym e) (c.in_ok-is_held.ensures.0 c.if-not-branch.false)
    ]

pub returns : goal.returns
returns c = λ r h. c.loop-row.invariant r (subst (IsIn r) (sym (take_all c.loop-row.row-index c.args.rows.now (omega arith))) h)
