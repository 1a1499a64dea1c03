use Rattle.std.proofs.Common.{sym, subst, ◌∙◌}
use Rattle.psg_explain.specs.Claiming.{AreCoverable}
use Rattle.psg_explain.specs.Plans.{AreCanonical}
use Rattle.psg_explain.proofs.ClaimingLaws.{claimed_canonical, right_moved}
use Rattle.psg_explain.proofs.PlanLaws.{Rows}
use Rattle.psg_explain.proofs.claims.claim_of.Goals as goal

pub verdicts_on-requires-clause-canonical : goal.verdicts_on-requires-clause-canonical
verdicts_on-requires-clause-canonical c =
    let (s, is, may) = c.requires.step in
    subst AreCanonical (sym c.as_slice-own.ensures) (claimed_canonical c.args.definition.now s c.args.rows may.are)

pub verdicts_on-requires-clause-covered : goal.verdicts_on-requires-clause-covered
verdicts_on-requires-clause-covered c =
    let (s, is, may) = c.requires.step in
    subst (λ (r : Rows). AreCoverable r c.as_slice-all.result.now) (sym c.as_slice-own.ensures)
    (subst (AreCoverable c.args.rows) (sym (c.as_slice-all.ensures.value ∙ c.in_ok-cases.ensures s is)) may.covered)

pub returns-clause-claim : goal.returns-clause-claim
returns-clause-claim c = λ s is may. record {
  path = c.in_ok-path.ensures ∙ c.as_slice.ensures ∙ is.path;
  cell = is.cell;
  step = c.in_ok-step.ensures.number ∙ is.number;
  rows = may.are;
  verdicts = right_moved c.as_slice-own.result.now c.args.rows c.as_slice-all.result.now _ c.in_ok-told.told.items _ c.as_slice-own.ensures (c.as_slice-all.ensures.value ∙ c.in_ok-cases.ensures s is) c.of-verdicts.ensures c.in_ok-told.ensures;
}
