use Rattle.std.proofs.Common.{refl, get_or, sym, ◌∙◌, subst, arith, true≢false}
use Rattle.std.proofs.lemmas.List.{get_or_default}
use Rattle.psg_covering.specs.Fronts.{AreRowsOf}
use Rattle.psg_covering.proofs.CoverLaws.{none_at_all, none_begin, none_more}
use Rattle.psg_covering.proofs.IndexLaws.{instance_meets}
use Rattle.psg_covering.proofs.covers.has_cover.Goals as goal

pub loop-i-init : goal.loop-i-init
loop-i-init c = none_begin c.args.definition.now c.args.kind c.args.term.now

pub row_at-row-requires-clause-rows : goal.row_at-row-requires-clause-rows
row_at-row-requires-clause-rows c = subst (AreRowsOf c.args.definition.now c.args.kind) (sym c.as_slice-numbers.ensures.value) c.in_ok-numbers.ensures.rows

pub loop-i-preserved : goal.loop-i-preserved
loop-i-preserved c =
    let number = get_or c.as_slice-numbers.result.now c.loop-i.i 0 in
    none_more c.args.definition.now c.args.kind c.args.term.now c.as_slice-numbers.result.now c.loop-i.i number c.row_at-row.result.now c.loop-i-test.true
    (get_or_default c.as_slice-numbers.result.now c.loop-i.i 0 number c.loop-i-test.true) c.row_at-row.ensures
    (λ h. true≢false (sym (c.in_ok-is_made_of.ensures.1 h) ∙ c.if-branch.false)) c.loop-i.invariant

pub returns-then-branch : goal.returns-then-branch
returns-then-branch c = (
  λ h. (get_or c.as_slice-numbers.result.now c.loop-i.i 0, c.row_at-row.result.now, c.row_at-row.ensures, c.in_ok-is_made_of.ensures.0 c.if-branch.true),
  λ h. refl,
)

pub returns : goal.returns
returns c = (
  λ h. absurd (true≢false (sym h)),
  λ cover. absurd (none_at_all c.args.definition.now c.args.kind c.args.term.now c.as_slice-numbers.result.now c.in_ok-numbers.numbers.items c.loop-i.i c.as_slice-numbers.ensures.value (omega (arith, c.loop-i-test.false))
      (λ r h of instance. c.in_ok-numbers.ensures.met r h of (instance_meets c.args.term.now h.term instance))
      c.loop-i.invariant cover),
)
