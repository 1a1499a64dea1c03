use Rattle.std.proofs.Common.{sym, ap, ◌∙◌, length}
use Rattle.psg_explain.specs.Plans.{rows_claimed}
use Rattle.psg_explain.proofs.CheckLaws.{rows_past, rows_there}
use Rattle.psg_explain.proofs.checking.count_at.Goals as goal

pub returns-then-claims-place : goal.returns-then-claims-place
returns-then-claims-place c = sym (ap length (rows_past c.args.claims.now c.args.place c.if-claims-place.true))

pub returns : goal.returns
returns c =
    ap length (c.as_slice.ensures ∙ ap rows_claimed (sym c.index-claims-place.is) ∙ sym (rows_there c.args.claims.now c.args.place c.index-claims-place.result c.if-claims-place.false c.index-claims-place.is))
