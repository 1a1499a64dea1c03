use Rattle.std.proofs.Common.{refl, sym, subst, arith}
use Rattle.psg_terms.specs.Kept.{numbers_of}
use Rattle.psg_terms.proofs.Lists.{each_in}
use Rattle.psg_explain.specs.Sources.{IsClaimable}
use Rattle.psg_explain.proofs.SortLaws.{row_in, rows_end, rows_next}
use Rattle.psg_explain.proofs.UnderLaws.{told, unmade}
use Rattle.psg_explain.proofs.checking.are_sorted.Goals as goal

pub returns-then-not-met : goal.returns-then-not-met
returns-then-not-met c = unmade (λ each. told c.if-not-met.true (c.in_ok-met.ensures.1
    (subst (IsClaimable c.args.definition.now (numbers_of c.args.sorts.now)) (sym c.as_slice-row.ensures)
    (each_in (IsClaimable c.args.definition.now (numbers_of c.args.sorts.now)) c.index-rows-i.result c.args.rows.now each
    (row_in c.args.rows.now c.loop-i.i c.index-rows-i.result c.loop-i-test.true c.index-rows-i.is)))))

pub loop-i-preserved : goal.loop-i-preserved
loop-i-preserved c =
    rows_next c.args.definition.now (numbers_of c.args.sorts.now) c.args.rows.now c.loop-i.i c.index-rows-i.result c.loop-i-test.true c.index-rows-i.is c.loop-i.invariant
    (subst (IsClaimable c.args.definition.now (numbers_of c.args.sorts.now)) c.as_slice-row.ensures (c.in_ok-met.ensures.0 c.if-not-met.false))

pub returns : goal.returns
returns c =
    let all = rows_end c.args.definition.now (numbers_of c.args.sorts.now) c.args.rows.now c.loop-i.i (omega arith) c.loop-i.invariant in
    ((λ t. all), (λ h. refl))
