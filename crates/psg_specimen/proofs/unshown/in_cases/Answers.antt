use Rattle.std.proofs.Common.{◌+◌, Some, sym, ◌∙◌, subst, true≢false}
use Rattle.psg_specimen.specs.Shown.{IsUpTo}
use Rattle.psg_specimen.specs.declared.fault.Site.TheVariants as sites
use Rattle.psg_specimen.proofs.WalkLaws.{case_next, cases_done}
use Rattle.psg_specimen.proofs.unshown.in_cases.Goals as goal

pub loop-number-preserved : goal.loop-number-preserved
loop-number-preserved c =
    let def = c.args.definition.now in
    let (whole, at, same) = c.requires.row in
    subst (IsUpTo def (Some (sites.Hole c.args.row (c.loop-number.number + 1)))) (sym c.noted_site-first.ensures)
    (case_next def c.args.row whole at c.args.cases.now c.loop-number.number c.index-cases-number.result c.in_case-site.result c.loop-number.first c.in_ok-flaw.flaw same
    c.loop-number-test.true c.index-cases-number.is c.in_case-site.ensures c.in_ok-flaw.ensures (λ e. true≢false (sym (c.is_large.ensures.1 e) ∙ c.if-is_large.false)) c.loop-number.invariant)

pub returns : goal.returns
returns c =
    let (whole, at, same) = c.requires.row in
    cases_done c.args.definition.now c.args.row whole at c.args.cases.now c.loop-number.number c.loop-number.first same c.loop-number-test.false c.loop-number.invariant
