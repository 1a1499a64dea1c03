use Rattle.std.proofs.Common.{[], subst, sym}
use Rattle.psg_explain.specs.Verdicts.{AreMade}
use Rattle.psg_explain.proofs.FitLaws.{fits_from, values_none, values_wrong}
use Rattle.psg_explain.proofs.UnderLaws.{told}
use Rattle.psg_explain.proofs.fitting.values_for.Goals as goal

pub returns-then-not-found : goal.returns-then-not-found
returns-then-not-found c =
    values_none c.args.row.now c.args.columns.now c.fit_all.new.values.items c.in_ok-found.found c.requires
    (fits_from [] c.new-values.result.items c.fit_all.new.values.items c.in_ok-found.found c.args.row.now c.args.columns.now c.new-values.ensures.items c.in_ok-found.ensures) c.if-not-found.true

pub returns-then-met : goal.returns-then-met
returns-then-met c = subst (λ l. AreMade l c.args.row.now c.args.columns.now) c.as_slice.ensures.value (c.in_ok-met.ensures.0 c.if-met.true)

pub returns-else-met : goal.returns-else-met
returns-else-met c =
    values_wrong c.args.row.now c.args.columns.now c.fit_all.new.values.items c.in_ok-found.found c.requires
    (fits_from [] c.new-values.result.items c.fit_all.new.values.items c.in_ok-found.found c.args.row.now c.args.columns.now c.new-values.ensures.items c.in_ok-found.ensures)
    (λ m. told c.if-met.false (c.in_ok-met.ensures.1 (subst (λ l. AreMade l c.args.row.now c.args.columns.now) (sym c.as_slice.ensures.value) m)))
