use Rattle.std.proofs.Common.{List, ap, subst, sym}
use Rattle.psg_terms.proofs.Lists.{each_at, got_none, got_some}
use Rattle.psg_terms.specs.Terms.{Term}
use Rattle.psg_terms.specs.Signature.{Signature}
use Rattle.psg_terms.specs.Canonical.{IsCanonical}
use Rattle.psg_explain.specs.Verdicts.{IsMadeBy}
use Rattle.psg_explain.proofs.RightLaws.{covered_right, no_row}
use Rattle.psg_explain.proofs.UnderLaws.{unmade}
use Rattle.psg_explain.proofs.applying.covers.Goals as goal

pub returns-in_default : goal.returns-in_default
returns-in_default c =
    unmade (no_row c.args.case.now.given c.args.case.now.columns c.args.rules.now c.args.rows.now c.args.to c.args.bindings.now c.args.values.now
    (got_none c.args.rows.now c.args.to c.get.result c.get.ensures.lookup c.in_default.is))

pub returns : goal.returns
returns c =
    let there = got_some c.args.rows.now c.args.to c.get.result c.in-Some.row c.get.ensures.lookup c.in-Some.is in
    let (on, back) = covered_right c.args.case.now.given c.args.case.now.columns c.args.rules.now c.args.rows.now c.args.to c.args.bindings.now c.args.values.now c.in-Some.row.now there
    (each_at (λ (row : List Term). (sig : Signature) × IsCanonical sig row) c.args.rows.now c.requires c.args.to c.in-Some.row.now there) in
    let (says, of) = c.in_ok-met.ensures in
    let same = ap (λ (row : List Term). IsMadeBy c.args.case.now.given c.args.case.now.columns row c.args.rules.now c.args.bindings.now c.args.values.now) c.as_slice-terms.ensures in
    ((λ h. on (subst (λ P. P) same (says h))), (λ h. of (subst (λ P. P) (sym same) (back h))))
