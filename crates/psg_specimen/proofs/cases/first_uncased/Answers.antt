use Rattle.std.proofs.Common.{Some, None, length, refl, sym, ◌∙◌, subst, true≢false, arith}
use Rattle.std.specs.List.{AllByRecursion}
use Rattle.psg_grammar.specs.Sound.{IsHoleRow}
use Rattle.psg_completions.specs.Cases.{AreCases}
use Rattle.psg_specimen.specs.Walks.{Finds}
use Rattle.psg_covering.proofs.Firsts.{At, more, fails, all}
use Rattle.psg_specimen.proofs.Firsts.{each}
use Rattle.psg_specimen.proofs.cases.first_uncased.Goals as goal

pub has_cases-requires : goal.has_cases-requires
has_cases-requires c =
    let def = c.args.definition.now in
    let h = each (IsHoleRow def) c.as_slice-rows.result.now (subst (AllByRecursion (IsHoleRow def)) (sym c.as_slice-rows.ensures) c.requires.hole_rows) c.loop-number.number c.index-rows-number.result c.loop-number-test.true c.index-rows-number.is in
    (h.sort, h.term.0)

pub loop-number-preserved : goal.loop-number-preserved
loop-number-preserved c = more c.as_slice-rows.result.now (AreCases c.args.definition.now.signature) c.loop-number.number c.index-rows-number.result c.loop-number-test.true c.index-rows-number.is (c.in_ok-has_cases.ensures.0 c.if-not-branch.false) c.loop-number.invariant

pub returns-then-not-branch : goal.returns-then-not-branch
returns-then-not-branch c =
    subst (λ rows. Finds (At rows (AreCases c.args.definition.now.signature)) (Some c.loop-number.number)) c.as_slice-rows.ensures (
      fails c.as_slice-rows.result.now (AreCases c.args.definition.now.signature) c.loop-number.number c.index-rows-number.result c.loop-number-test.true c.index-rows-number.is (λ p. true≢false (sym (c.in_ok-has_cases.ensures.1 p) ∙ c.if-not-branch.true)),
      c.loop-number.invariant,
    )

pub returns : goal.returns
returns c =
    subst (λ rows. Finds (At rows (AreCases c.args.definition.now.signature)) None) c.as_slice-rows.ensures
    (all c.as_slice-rows.result.now (AreCases c.args.definition.now.signature) (length c.as_slice-rows.result.now) refl (λ m lt. c.loop-number.invariant m (omega arith)))
