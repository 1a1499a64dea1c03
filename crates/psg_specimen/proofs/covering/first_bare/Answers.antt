use Rattle.std.proofs.Common.{length, refl, sym, ◌∙◌, subst, true≢false, arith}
use Rattle.std.specs.Prelude.{◌↔◌, IsTrue}
use Rattle.psg_grammar.specs.declared.types.Kind.TheVariants as kinds
use Rattle.psg_completions.specs.Places.{IsOfOneRow}
use Rattle.psg_specimen.specs.Wanted.{as_place}
use Rattle.psg_covering.proofs.Firsts.{more, fails, all}
use Rattle.psg_specimen.proofs.covering.first_bare.Goals as goal

pub loop-number-preserved : goal.loop-number-preserved
loop-number-preserved c =
    let test = subst (λ p. IsTrue c.in_ok-is_of_one_row.field-0 ↔ IsOfOneRow c.args.definition.now p) c.in_ok-place.ensures c.in_ok-is_of_one_row.ensures in
    more c.args.rows.now (λ row. IsOfOneRow c.args.definition.now (as_place (kinds.List c.args.list) row)) c.loop-number.number c.index-rows-number.result c.loop-number-test.true c.index-rows-number.is
    (test.0 c.if-not-branch.false) c.loop-number.invariant

pub returns-then-not-branch : goal.returns-then-not-branch
returns-then-not-branch c =
    let test = subst (λ p. IsTrue c.in_ok-is_of_one_row.field-0 ↔ IsOfOneRow c.args.definition.now p) c.in_ok-place.ensures c.in_ok-is_of_one_row.ensures in (
      fails c.args.rows.now (λ row. IsOfOneRow c.args.definition.now (as_place (kinds.List c.args.list) row)) c.loop-number.number c.index-rows-number.result c.loop-number-test.true c.index-rows-number.is
          (λ p. true≢false (sym (test.1 p) ∙ c.if-not-branch.true)),
      c.loop-number.invariant,
    )

pub returns : goal.returns
returns c = all c.args.rows.now (λ row. IsOfOneRow c.args.definition.now (as_place (kinds.List c.args.list) row)) (length c.args.rows.now) refl (λ m lt. c.loop-number.invariant m (omega (arith, lt)))
