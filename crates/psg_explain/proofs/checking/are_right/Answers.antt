use Rattle.std.proofs.Common.{◌∙◌, length, map, ap, sym, subst}
use Rattle.psg_explain.specs.Plans.{AreCanonical, cases_at, rows_claimed}
use Rattle.psg_explain.proofs.CheckLaws.{many_right, moved_right}
use Rattle.psg_explain.proofs.UnderLaws.{told, unmade}
use Rattle.psg_explain.proofs.checking.are_right.Goals as goal

pub returns-then-not-many : goal.returns-then-not-many
returns-then-not-many c = λ s is.
    unmade (λ h. told c.if-not-many.true (c.are_as_many-many.ensures c.args.definition.now s is
    (many_right c.args.claim.now.rows (cases_at c.args.definition.now (map rows_claimed c.args.before.now) s) c.args.claim.now.verdicts h ∙ ap length (sym c.as_slice-verdicts.ensures))))

pub all_right-requires : goal.all_right-requires
all_right-requires c = subst AreCanonical (sym c.as_slice.ensures) c.requires.rows

pub returns : goal.returns
returns c = λ s is.
    moved_right c.in_ok-right.right c.args.claim.now.rows c.as_slice.result.now (cases_at c.args.definition.now (map rows_claimed c.args.before.now) s) c.as_slice-2.result.now c.args.claim.now.verdicts c.as_slice-verdicts.result.now c.as_slice.ensures
    (c.as_slice-2.ensures.value ∙ c.in_ok-all.ensures s is) c.as_slice-verdicts.ensures c.in_ok-right.ensures
