use Rattle.std.proofs.Common.{refl, subst, lit<}
use Rattle.psg_lexis.specs.Splits.{IsFirst}
use Rattle.psg_lexis.proofs.Literals.{an_escape, content-quote, content-backslash}
use Rattle.psg_lexis.proofs.literal.escape.Goals as goal

pub returns-in-Some-eq34-default : goal.returns-in-Some-eq34-default
returns-in-Some-eq34-default c =
    λ text first. an_escape _ c.args.behind.now c.in-Some-eq34-default.after.now 34 34 first (subst (λ d. IsFirst c.args.behind.now d c.in-Some-eq34-default.after.now) c.in-Some-eq34-default.field-0-0-test c.in-Some-eq34-default.ensures.first) refl content-quote (lit< tt)

pub returns-in-Some-eq92-default : goal.returns-in-Some-eq92-default
returns-in-Some-eq92-default c =
    λ text first. an_escape _ c.args.behind.now c.in-Some-eq92-default.after.now 92 92 first (subst (λ d. IsFirst c.args.behind.now d c.in-Some-eq92-default.after.now) c.in-Some-eq92-default.field-0-0-test c.in-Some-eq92-default.ensures.first) refl content-backslash (lit< tt)
