use Rattle.std.proofs.Common.{◌≡◌, ◌<◌, List, Some, length, slice_get, subst, sym, arith}
use Rattle.psg_terms.specs.Terms.{Term}
use Rattle.psg_terms.specs.Signature.{Signature}
use Rattle.psg_terms.specs.Canonical.{IsCanonical}
use Rattle.psg_terms.proofs.Lists.{each_at, slice_get_item}
use Rattle.psg_explain.specs.declared.fitting.Fitting.{Fitting}
use Rattle.psg_explain.specs.Fitted.{IsFitting}
use Rattle.psg_explain.specs.Verdicts.{AreMade}
use Rattle.psg_explain.proofs.FitLaws.{one_fits}
use Rattle.psg_explain.proofs.UnderLaws.{match_some}
use Rattle.psg_explain.proofs.fitting.fitting_at.Goals as goal

pub returns-in-Some : goal.returns-in-Some
returns-in-Some c = λ t same.
    let rows = c.args.rows.now in
    let to = c.args.to in
    let row = c.index-rows-to.result in
    let small : to < length rows = omega (arith, c.if-rows-to.false) in
    let at = slice_get_item rows to row small c.index-rows-to.is in
    let made = match_some c.in_ok-found.found c.in-Some.values c.in-Some.is _ _ c.in_ok-found.ensures in
    let fits : IsFitting rows c.args.columns.now (record { to = to; values = c.in-Some.values }) =
    one_fits rows row c.args.columns.now c.in-Some.values.items to at (each_at (λ (row : List Term). (sig : Signature) × IsCanonical sig row) rows c.requires to row at)
    (subst (λ (l : List Term). AreMade c.in-Some.values.items l c.args.columns.now) c.as_slice-row.ensures made) in
    let e : (record { to = to; values = c.in-Some.values }) ≡ t = cc in
    subst (IsFitting rows c.args.columns.now) e fits
